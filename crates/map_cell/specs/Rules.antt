-- Inside this crate alone: the rule of the history, and what its step tells.
use Rattle.std.specs.Prelude.{ℕ, ◌≡◌, ◌==◌, true, List, [], ◌∷◌, ◌++◌, length, MatchBool, if◌then◌else◌}
use Rattle.logbook.specs.Pages.{Cell, Step, View, Book, Named}
use Rattle.published_map.specs.declared.delta.Delta.{Delta}
use Rattle.published_map.specs.Version.{Version}
use Rattle.published_map.specs.Changes.{moved, is_within}
use Rattle.map_cell.specs.Histories.{IsHistory}

pub record IsCounted (cells : List Cell) (log : List Version) : Type 0 where
  pub words : cells ≡ (length log, true) ∷ (0, true) ∷ []
  pub history : IsHistory log

abbrev pub head_of : Book → Named
head_of b = record { tracked = true; key = 0; book = b }

-- the version was added to all that had been seen; or it was not, and the history so far was seen
abbrev pub Adds : Step Version → View Version ℕ → ℕ → View Version ℕ → Type 0
Adds s v found w = MatchBool (found == s.old) ((w.0 ≡ v.0 ++ s.ask ∷ []) × IsHistory w.0) ((length w.0 ≡ found) × IsHistory w.0)

-- a copy: a version, with a history of a book
pub record CopyState : Type 0 where
  pub book : Book
  pub history : List Version
  pub version : Version

-- a step of the copies: a delta, with the history that it leads to and the last serial of that
pub record DeltaState : Type 0 where
  pub book : Book
  pub history : List Version
  pub serial : ℕ
  pub delta : Delta

-- a copy after a step. A step that names what is not there changes nothing
unfoldable pub stepped : CopyState → DeltaState → CopyState
stepped s o = if is_within s.version o.delta then record { book = o.book; history = o.history; version = moved s.version o.delta o.serial } else s
