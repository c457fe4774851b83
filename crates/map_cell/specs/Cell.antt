-- Inside this crate alone: the rule of the cell.
use Rattle.std.specs.Prelude.{List}
use Rattle.map_cell.specs.declared.tag.Tag.{Tag}
use Rattle.map_cell.specs.Histories.{IsSealed}
use Rattle.map_cell.specs.Rules.{CopyState}
use Rattle.map_cell.specs.Tags.{tag_of, OneBook}

-- all that know a book know that of the copy, whose version is the last of its history
pub record Holds (x : CopyState) (views : List Tag) : Type 0 where
  pub book : OneBook (tag_of x.book) views
  pub sealed : IsSealed x.history x.version
