-- What contracts see of rows of notes, and what one more note does to a reader. A row is the names of its cells in order.
use Rattle.std.specs.Prelude.{◌≡◌, ℕ, ◌+◌, List, Option, Some, length, map, slice_get}
use Rattle.std.specs.List.{range_with_len}
use Rattle.outside.specs.Notes.{NotesTold, noting}
use Rattle.published_map.specs.Version.{Version}

-- a cell by its name, and the history that the note in it names
pub record KeptState : Type 0 where
  pub cell : ℕ
  pub history : List Version

-- the row that is read, how many notes were given, what its notes tell, and the last note
pub record ReaderState : Type 0 where
  pub row : List ℕ
  pub given : ℕ
  pub told : NotesTold
  pub last : Option KeptState

-- the notes that were given are those of the first versions, one after another
abbrev pub AreFirst : NotesTold → Type 0
AreFirst told = map (λ g. g.number) told.given ≡ range_with_len 0 (length told.given)

-- one more was given: that of the cell behind those whose notes were given
pub record Gives (before : ReaderState) (history : List Version) (now : ReaderState) : Type 0 where
  pub row : now.row ≡ before.row
  pub given : now.given ≡ before.given + 1
  pub told : now.told ≡ noting (Some before.given) before.told
  pub last : (cell : ℕ) × (slice_get before.row before.given ≡ Some cell) × (now.last ≡ Some (record { cell = cell; history = history }))
