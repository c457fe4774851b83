-- Further feeds, which are opened by their names.
use Rattle.std.specs.Prelude.{◌≡◌, ◌≢◌, ◌≤◌, ℕ, List, [], ◌∷◌, take}
use Rattle.outside.specs.Faults.{BothTell, DeviceState, Rose}
use Rattle.outside.specs.NamedSource.{IsNamed}
use Rattle.outside.specs.Source.{Fed}
use Rattle.outside.specs.declared.port.Opening.{Opening}
use Rattle.outside.specs.declared.port.Opening.TheVariants as opening
use Rattle.drive.specs.Driven.{LentTold}

-- An opening of a further feed under a name: the name is noted, and what else it tells as a feed stays; and its count of faults rose where that failed, and else stands.
pub record IsFeedOpening (name : List ℕ) (result : Opening) (before after : DeviceState Fed) : Type 0 where
  pub told : BothTell before.past after.past (IsNamed name result)
  pub later : before.faults ≤ after.faults
  pub cause : result ≡ opening.Failed → Rose before.faults after.faults
  pub stays : result ≢ opening.Failed → after.faults ≡ before.faults

-- the first were opened under these names, in order, once each, with these results; those behind them are untouched
abbrev pub AreNamed : List (List ℕ) → List Opening → List (DeviceState Fed) → List (DeviceState Fed) → Type 0
AreNamed names [] before after = after ≡ before
AreNamed (name ∷ names) (r ∷ results) (b ∷ before) (c ∷ after) = IsFeedOpening name r b c × AreNamed names results before after
AreNamed names (r ∷ results) _ _ = ⊥

-- what a drive is lent of all of this: so many further feeds
abbrev pub with_feeds : ℕ → LentTold → LentTold
with_feeds count lent = record lent { more = take count lent.more }
