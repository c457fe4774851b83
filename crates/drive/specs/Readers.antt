-- Inside this crate alone: feeders and what they are lent.
use Rattle.std.specs.Prelude.{◌≡◌}
use Rattle.drive.specs.declared.feeders.Readers.{Readers}

-- the same things are lent
pub record IsSameReaders {Q F S : Type 0} (a b : Readers Q F S) : Type 0 where
  pub context : b.context ≡ a.context
  pub first : b.first.ghost_name ≡ a.first.ghost_name
  pub feed : b.feed.ghost_name ≡ a.feed.ghost_name
  pub feeders : b.feeders.ghost_name ≡ a.feeders.ghost_name
