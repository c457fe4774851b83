-- Inside this crate alone: the cell's rule, that all that know a book know that of the copy.
use Rattle.std.specs.Prelude.{ℕ, ◌≡◌, true, false, List}
use mathlib.Core.Option.{some}
use lib.ListN.{get_elem?}
use Rattle.logbook.specs.Pages.{Book}
use Rattle.map_cell.specs.declared.tag.Tag.{Tag}

abbrev pub tag_of : Book → Tag
tag_of b = record { known = true; number = b.number; log_name = b.log_name; cells_name = b.cells_name }

abbrev pub unknown : Tag
unknown = record { known = false; number = 0; log_name = 0; cells_name = 0 }

abbrev pub OneBook : Tag → List Tag → Type 0
OneBook book views = (seat : ℕ) (v : Tag) → get_elem? views seat ≡ some v → v.known ≡ true → v ≡ book
