-- What the counts of faults say of how a drive's feeds ended.
use Rattle.std.specs.Prelude.{◌≡◌, ◌≢◌, ◌⊎◌, ◌≤◌, []}
use Rattle.outside.specs.Faults.{Rose}
use Rattle.demand_feed.specs.declared.run.FeedEnd.{FeedEnd}
use Rattle.demand_feed.specs.declared.run.FeedEnd.TheVariants.{SinkFault, SourceFault}
use Rattle.drive.specs.Driven.{LentTold}
use Rattle.drive.specs.Feeds.{AllStand, AnyRose, NoneFell}

-- No count falls. A fault of an output or of a feed is the end only where its count rose, and the counts stand where it is not; those of several feeds where an output's fault is not either.
pub record AreCounted (end : FeedEnd) (before after : LentTold) : Type 0 where
  pub later : (before.out.faults ≤ after.out.faults) × (before.maps.faults ≤ after.maps.faults) × (before.feed.faults ≤ after.feed.faults) × NoneFell before.more after.more
  pub sink : end ≡ SinkFault → Rose before.out.faults after.out.faults ⊎ Rose before.maps.faults after.maps.faults
  pub sink_stays : end ≢ SinkFault → (after.out.faults ≡ before.out.faults) × (after.maps.faults ≡ before.maps.faults)
  pub source : end ≡ SourceFault → Rose before.feed.faults after.feed.faults ⊎ AnyRose before.more after.more
  pub source_stays : end ≢ SourceFault → (end ≡ SinkFault → before.more ≡ []) → (after.feed.faults ≡ before.feed.faults) × AllStand before.more after.more
