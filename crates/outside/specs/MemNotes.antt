-- What notes in memory hold.
use Rattle.std.specs.Prelude.{◌≤◌, List, IsSomeAnd, slice_get}
use Rattle.outside.specs.Notes.{Given, NotesTold}
use Rattle.outside.specs.declared.mem_notes.Due.{Due}
use Rattle.outside.specs.declared.mem_notes.MemGiven.{MemGiven}

-- a note that was given, as it was noted
abbrev pub given_of : MemGiven → Given
given_of given = record { number = given.number; place = given.place }

-- notes in memory: those that are to come, and what they tell
pub record NotesInMemory (T : Type 0) : Type 0 where
  pub coming : List (Due T)
  pub told : NotesTold

-- the next note is due: enough None answers came
abbrev pub IsDue : {T : Type 0} → NotesInMemory T → Type 0
IsDue notes = IsSomeAnd (slice_get notes.coming 0) (λ due. due.nones ≤ notes.told.nones)
