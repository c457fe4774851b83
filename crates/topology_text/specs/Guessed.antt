-- Inside this crate alone: names with their numbers, for a look ahead of the table of all names.
use Rattle.std.specs.Prelude.{◌≡◌, ℕ, List, Option, None, Some, slice_index_or}
use Rattle.std.specs.Borrow.{Bor}
use Rattle.toml.specs.Data.{Data}
use Rattle.topology_text.specs.Names.{number_of}

-- each name that is there has the number of the first entry of that name
abbrev pub AreFirst : List Data → List (Option (Bor (List ℕ) × ℕ)) → Type 0
AreFirst entries guesses = (place : ℕ) (g : Bor (List ℕ) × ℕ) → slice_index_or guesses place None ≡ Some g → number_of entries g.0.now ≡ Some g.1
