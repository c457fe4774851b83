-- The map that a text says over a topology, or the first fault of the text.
use Rattle.std.specs.Prelude.{ℕ, ◌+◌, ◌-◌, Bool, true, false, not, ◌&&◌, ◌||◌, ◌==◌, if◌then◌else◌, List, [], ◌∷◌, length, take, map, Option, None, Some, Result, Ok, Err, slice_get, slice_index_or}
use Rattle.std.specs.List.{filter_map, list_any, range_with_len}
use Rattle.std.specs.Option.{option_map_or}
use Rattle.map_model.specs.declared.lines.By.{By}
use Rattle.map_model.specs.declared.lines.By.TheVariants.{Limit, Node}
use Rattle.map_model.specs.declared.lines.MapLine.{MapLine}
use Rattle.map_model.specs.declared.lines.NameLine.{NameLine}
use Rattle.map_model.specs.Allocation.{is_before, is_name_before}
use Rattle.topology_text.specs.Plan.{Plan}
use Rattle.text_parts.specs.Parts.{whole_lines, unfinished}
use Rattle.map_text.specs.Lines.{line_of}
use Rattle.map_text.specs.declared.fault.MapFault.{MapFault}
use Rattle.map_text.specs.declared.fault.MapFault.TheVariants.{BadLine, UnknownName, OrderBroken, Truncated}
use Rattle.map_text.specs.declared.line.Line.{Line}
use Rattle.map_text.specs.declared.line.Version.TheVariants.{Second}
use Rattle.map_text.specs.declared.line.Line.TheVariants.{Header, Place, Named, End, Unknown, UnknownLimit, Bad}

-- a map: what it places, and what it names
pub record Mapped : Type 0 where
  pub lines : List MapLine
  pub names : List NameLine

-- it is the limit that refuses
abbrev pub is_limit : By → Bool
is_limit Limit = true
is_limit (Node n) = false

-- what a line places
abbrev pub placed_by : Line → Option MapLine
placed_by (Place x) = Some x
placed_by _ = None

-- what a line names
abbrev pub named_by : Line → Option NameLine
named_by (Named x) = Some x
named_by _ = None

-- the line that begins a text
abbrev pub is_header : Line → Bool
is_header (Header v) = true
is_header _ = false

-- the line that begins a text in which limits may refuse
abbrev pub is_second : Line → Bool
is_second (Header Second) = true
is_second _ = false

-- the line says that a limit refuses
abbrev pub is_of_limit : Line → Bool
is_of_limit UnknownLimit = true
is_of_limit (Named x) = is_limit x.by
is_of_limit _ = false

-- the line that ends a text
abbrev pub is_end : Line → Bool
is_end End = true
is_end _ = false

-- what some lines come to: how many they are, what they place and name, whether limits may refuse, and whether one of them ends the text
pub record SoFar : Type 0 where
  pub count : ℕ
  pub lines : List MapLine
  pub names : List NameLine
  pub takes_limits : Bool
  pub is_ended : Bool

abbrev pub so_far : List Line → SoFar
so_far before = record { count = length before; lines = filter_map placed_by before; names = filter_map named_by before; takes_limits = list_any is_second before; is_ended = list_any is_end before }

-- the line can't stand behind those lines: the first is a header and no other is, none is malformed, none stands behind the end, and a limit refuses only behind the second header
abbrev pub is_bad : SoFar → Line → Bool
is_bad before Bad = true
is_bad before line = before.is_ended || (if before.count == 0 then not (is_header line) else is_header line) || (not before.takes_limits && is_of_limit line)

-- the line names something that is not there
abbrev pub is_unknown : Line → Bool
is_unknown Unknown = true
is_unknown UnknownLimit = true
is_unknown _ = false

-- what is placed stands above what was placed last, and ahead of all names; a name stands above the last one
abbrev pub is_in_order : SoFar → Line → Bool
is_in_order before (Place x) = (length before.names == 0) && option_map_or (λ y. is_before y x) (slice_get before.lines (length before.lines - 1)) true
is_in_order before (Named x) = option_map_or (λ y. is_name_before y x) (slice_get before.names (length before.names - 1)) true
is_in_order before _ = true

-- the fault of a line behind some lines, if it has one. Lines are numbered from 1.
abbrev pub fault_of : SoFar → Line → Option MapFault
fault_of before line =
    if is_bad before line then Some (BadLine (before.count + 1))
    else if is_unknown line then Some (UnknownName (before.count + 1))
    else if not (is_in_order before line) then Some (OrderBroken (before.count + 1))
    else None

-- the fault of the line of that number, from 0
abbrev pub fault_at : List Line → ℕ → Option MapFault
fault_at lines i = fault_of (so_far (take i lines)) (slice_index_or lines i Bad)

-- the faults of all lines, in order
abbrev pub faults_of : List Line → List MapFault
faults_of lines = filter_map (fault_at lines) (range_with_len 0 (length lines))

-- the first of some faults, or else what there is without any
abbrev pub first_of : List MapFault → Result Mapped MapFault → Result Mapped MapFault
first_of [] otherwise = otherwise
first_of (fault ∷ faults) otherwise = Err fault

-- the map of lines that are not at fault and the rest behind them: the text has to be whole
abbrev pub finished : SoFar → List ℕ → Result Mapped MapFault
finished all rest = if all.is_ended && (length rest == 0) then Ok (record { lines = all.lines; names = all.names }) else Err Truncated

-- the lines of a text
abbrev pub lines_of : Plan → List ℕ → List Line
lines_of t text = map (line_of t) (whole_lines text)

-- what a text says: its first fault, or its map
abbrev pub map_of : Plan → List ℕ → Result Mapped MapFault
map_of t text = first_of (faults_of (lines_of t text)) (finished (so_far (lines_of t text)) (unfinished text))
