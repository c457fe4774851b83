-- Histories: a published version that follows on others over their topology is good, and comes from the last one by a batch.
use Rattle.std.specs.Prelude.{◌≡◌, ◌+◌, ◌-◌, List, length, Some, slice_get}
use Rattle.map_model.specs.declared.change.Change.{Change}
use Rattle.map_model.specs.Batch.{IsApplied}
use Rattle.published_map.specs.Version.{IsVersion, Version}

-- the version to which changes lead: the next serial, the numbers as the changes say, and a good map
pub record IsLedTo (old : Version) (changes : List Change) (new : Version) : Type 0 where
  pub serial : new.serial ≡ old.serial + 1
  pub plan : new.plan ≡ old.plan
  pub applied : IsApplied old.market changes new.market
  pub version : IsVersion new

-- a version may follow on a history: some changes lead to it from the last one
abbrev pub Follows : List Version → Version → Type 0
Follows h v = (old : Version) × (changes : List Change) × (slice_get h (length h - 1) ≡ Some old) × IsLedTo old changes v
