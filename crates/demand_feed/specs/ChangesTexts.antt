-- The words that say what is wrong with a changes file.
use Rattle.std.specs.Prelude.{ℕ, List, ◌++◌, codes}
use Rattle.std.specs.Fmt.{decimal}
use Rattle.demand_feed.specs.Texts.{refusal_words}
use Rattle.demand_feed.specs.declared.changes.ChangesFault.{ChangesFault}
use Rattle.demand_feed.specs.declared.changes.ChangesFault.TheVariants.{Refused, NoMemory}

abbrev pub changes_words : ChangesFault → List ℕ
changes_words (Refused line why) = refusal_words why ++ codes " at line " ++ decimal line
changes_words NoMemory = codes "out of memory"
