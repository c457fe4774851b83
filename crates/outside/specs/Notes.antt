-- What notes tell, by the numbers of the notes, and what one call does.
use Rattle.std.specs.Prelude.{◌≡◌, ℕ, List, [], ◌∷◌, ◌++◌, Option, None, Some}
use Rattle.outside.specs.Faults.{raised}

-- a note that was given: its number, and how many None answers came before it
pub record Given : Type 0 where
  pub number : ℕ
  pub place : ℕ

-- what notes tell: those that were given, in order, and how many None answers there were
pub record NotesTold : Type 0 where
  pub given : List Given
  pub nones : ℕ

-- notes behind one call more, which gave the note of that number, or none
abbrev pub noting : Option ℕ → NotesTold → NotesTold
noting None notes = record notes { nones = raised notes.nones 1 }
noting (Some number) notes = record notes { given = notes.given ++ (record { number = number; place = notes.nones }) ∷ [] }

-- what one call does to them
abbrev pub IsNextNote : Option ℕ → NotesTold → NotesTold → Type 0
IsNextNote answer before after = after ≡ noting answer before
