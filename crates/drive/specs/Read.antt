-- Inside this crate alone: what a feeder did that read its feed.
use Rattle.std.specs.Prelude.{◌≡◌, ℕ, ◌≤◌}
use Rattle.outside.specs.Faults.{DeviceState, Rose}
use Rattle.outside.specs.Source.{Fed}
use Rattle.topology_text.specs.Plan.{Plan}
use Rattle.demand_feed.specs.declared.run.FeedEnd.TheVariants.{SourceFault}
use Rattle.feed_queue.specs.Ends.{FeederState}
use Rattle.feed_queue.specs.Feeder.{EndsWith, HasSent}

-- it sent what came of its feed
pub record IsRead (t : Plan) (turns : ℕ) (before after : DeviceState Fed) (f g : FeederState) : Type 0 where
  pub same : (g.queue ≡ f.queue) × (g.feeder ≡ f.feeder)
  pub sent : HasSent t turns before.past after.past g.sent
  pub source : EndsWith g.sent SourceFault → Rose before.faults after.faults
  pub later : before.faults ≤ after.faults
  pub stays : ¬ EndsWith g.sent SourceFault → after.faults ≡ before.faults
