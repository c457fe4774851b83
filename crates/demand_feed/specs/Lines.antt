-- A feed in lines.
use Rattle.std.specs.Prelude.{ℕ, Bool, ◌==◌, if◌then◌else◌, List, [], ◌∷◌, ◌++◌, length}
use Rattle.text_parts.specs.Parts.{unfinished, whole_lines}

-- what stands behind the last LF is a line too, unless nothing does
abbrev pub last_line : List ℕ → List (List ℕ)
last_line bytes = if length (unfinished bytes) == 0 then [] else unfinished bytes ∷ []

-- the lines of a feed, of which these bytes were read: those that ended, and where the end was read also the last one
abbrev pub lines_of : Bool → List ℕ → List (List ℕ)
lines_of is_all bytes = if is_all then whole_lines bytes ++ last_line bytes else whole_lines bytes
