-- What a changes file says: changes of a topology, one a line.
use Rattle.std.specs.Prelude.{ℕ, ◌+◌, true, not, nat_le, if◌then◌else◌, List, [], ◌∷◌, length, codes, Result, Ok, Err}
use Rattle.std.specs.List.{list_all}
use Rattle.std.specs.Str.{bytes_eq}
use Rattle.map_model.specs.declared.change.Change.{Change}
use Rattle.topology_text.specs.Plan.{Plan}
use Rattle.demand_feed.specs.Limits.{longest_line}
use Rattle.demand_feed.specs.Line.{Said, capacity, change_of, demand, is_visible, two_of, words_of}
use Rattle.demand_feed.specs.Lines.{lines_of}
use Rattle.demand_feed.specs.Batch.{with_capacity, with_demand}
use Rattle.demand_feed.specs.declared.fault.LineFault.{LineFault}
use Rattle.demand_feed.specs.declared.fault.LineFault.TheVariants.{TooLong, BadByte, UnknownWord}
use Rattle.demand_feed.specs.declared.fault.BatchFault.{BatchFault}
use Rattle.demand_feed.specs.declared.fault.Refusal.{Refusal}
use Rattle.demand_feed.specs.declared.fault.Refusal.TheVariants as refusal
use Rattle.demand_feed.specs.declared.changes.ChangesFault.{ChangesFault}
use Rattle.demand_feed.specs.declared.changes.ChangesFault.TheVariants.{Refused}

-- a change by the first word of its line and the others; the other words of a feed are unknown here
abbrev pub change_by : List ℕ → List (List ℕ) → Result Said LineFault
change_by word others =
    if bytes_eq word (codes "demand") then change_of demand (two_of others)
    else if bytes_eq word (codes "capacity") then change_of capacity (two_of others)
    else Err UnknownWord

-- a change by the words of its line
abbrev pub change_by_words : List (List ℕ) → Result Said LineFault
change_by_words [] = Err UnknownWord
change_by_words (word ∷ others) = change_by word others

-- a line of a changes file, or the first of its faults
unfoldable pub change_line_of : List ℕ → Result Said LineFault
change_line_of line =
    if not (nat_le (length line) longest_line) then Err TooLong
    else if not (list_all is_visible line) then Err BadByte
    else change_by_words (words_of line)

-- changes and the one of a line, or why the line is refused
abbrev pub refused_as : Result (List Change) BatchFault → Result (List Change) Refusal
refused_as (Ok changes) = Ok changes
refused_as (Err fault) = Err (refusal.Batch fault)

abbrev pub with_said : Plan → List Change → Result Said LineFault → Result (List Change) Refusal
with_said t changes (Err fault) = Err (refusal.Line fault)
with_said t changes (Ok (demand name number)) = refused_as (with_demand t changes name number)
with_said t changes (Ok (capacity name number)) = refused_as (with_capacity t changes name number)
with_said t changes (Ok _) = Err (refusal.Line UnknownWord)

-- changes and those of the lines behind so many, or the first line that is refused
abbrev pub onward : (List Change → Result (List Change) ChangesFault) → ℕ → Result (List Change) Refusal → Result (List Change) ChangesFault
onward rest number (Err why) = Err (Refused number why)
onward rest number (Ok changes) = rest changes

abbrev pub changes_behind : Plan → ℕ → List (List ℕ) → List Change → Result (List Change) ChangesFault
changes_behind t number [] changes = Ok changes
changes_behind t number (line ∷ lines) changes = onward (changes_behind t (number + 1) lines) (number + 1) (with_said t changes (change_line_of line))

-- The changes of a file, or its first line that is refused, numbered from 1. Octets behind the last LF are a line of their own.
unfoldable pub changes_of : Plan → List ℕ → Result (List Change) ChangesFault
changes_of t text = changes_behind t 0 (lines_of true text) []
