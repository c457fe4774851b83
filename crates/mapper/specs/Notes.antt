-- Which versions' cells of the row of notes are counted.
use Rattle.std.specs.Prelude.{ℕ, ◌<◌, List, length}
use Rattle.outside.specs.Limits.{most_notes}
use Rattle.published_map.specs.Version.{Version}

-- each of these versions whose serial has a cell in the row has it among the first so many, which hold a note
abbrev pub AreTold : List Version → ℕ → Type 0
AreTold history count = (serial : ℕ) → serial < length history → serial < most_notes → serial < count
