-- Inside this crate alone: what the run of one feed or of several does to all that it is lent.
use Rattle.std.specs.Prelude.{◌≡◌, ◌≢◌, ◌≤◌, List}
use mathlib.Core.List.{IsPrefix}
use Rattle.outside.specs.Faults.{DeviceState}
use Rattle.outside.specs.Sink.{Written}
use Rattle.outside.specs.Source.{Fed}
use Rattle.outside.specs.declared.pace.PaceCall.{PaceCall}
use Rattle.demand_feed.specs.declared.run.FeedEnd.{FeedEnd}
use Rattle.demand_feed.specs.declared.run.FeedEnd.TheVariants.{SinkFault, SourceFault}
use Rattle.published_map.specs.Version.{Version}
use Rattle.map_cell.specs.Ends.{PublisherState}
use Rattle.map_cell.specs.Histories.{IsHistory}
use Rattle.mapper.specs.Feeding.{IsFeed}
use Rattle.mapper.specs.Feeds.{AreFeeds, HasMerged}
use Rattle.mapper.specs.Lending.{HasFault, HasNoFault, HasNoLess, IsSameLent, told_by}
use Rattle.mapper.specs.Notes.{AreTold}
use Rattle.mapper.specs.declared.outputs.Outputs.{Outputs}
use Rattle.drive.specs.Feeds.{IsTied}
use Rattle.drive.specs.declared.loan.FeedLoan.{FeedLoan}
use Rattle.drive.specs.declared.loan.TakerLoan.{TakerLoan}

-- what a note of a mapper's newest map knows
abbrev pub IsOfNewest : PublisherState → List Version → Type 0
IsOfNewest m front = (front ≡ m.history) × IsHistory m.history

-- what a mapper's run that ended so does to its history, and to whom it tells
pub record HasRun {K M : Type 0} (told : K → DeviceState Written) (end : FeedEnd) (m m' : PublisherState) (a b : Outputs K M) : Type 0 where
  pub same : IsSameLent a b
  pub kept : IsPrefix m.history m'.history
  pub later : HasNoLess told a b
  pub sink : end ≡ SinkFault → HasFault told a b
  pub sink_stays : end ≢ SinkFault → HasNoFault told a b

-- the feed was run to its end
pub record IsFedBy {J S K M : Type 0} (fed : S → DeviceState Fed) (told : K → DeviceState Written) (paced : M → DeviceState (List PaceCall)) (a b : FeedLoan J S K M) : Type 0 where
  pub same : (b.mapper.ghost_name ≡ a.mapper.ghost_name) × (b.feed.ghost_name ≡ a.feed.ghost_name)
  pub run : IsFeed a.mapper.now.newest.plan a.turns b.end (fed a.feed.now).past (fed b.feed.now).past (told_by told paced a.mapper.now a.to) (told_by told paced b.mapper.now b.to)
  pub has : HasRun told b.end a.mapper.now b.mapper.now a.to b.to
  pub announced : b.end ≢ SinkFault → AreTold a.mapper.now.history a.to.told → AreTold b.mapper.now.history b.to.told
  pub later : (fed a.feed.now).faults ≤ (fed b.feed.now).faults
  pub tied : IsTied (b.end ≡ SourceFault) (fed a.feed.now) (fed b.feed.now)

-- to whom the mapper's side tells of several feeds, where no note is counted
abbrev pub outputs_of : {J N K M : Type 0} → TakerLoan J N K M → Outputs K M
outputs_of l = record { out = l.out; maps = l.maps; pace = l.pace; told = 0 }

-- all that was taken of several feeders was worked
pub record AreWorked {J N K M : Type 0} (told : K → DeviceState Written) (paced : M → DeviceState (List PaceCall)) (a b : TakerLoan J N K M) : Type 0 where
  pub same : (b.mapper.ghost_name ≡ a.mapper.ghost_name) × (b.taker.ghost_name ≡ a.taker.ghost_name)
  pub queue : (b.taker.now.queue ≡ a.taker.now.queue) × (b.taker.now.feeders ≡ a.taker.now.feeders)
  pub run : AreFeeds a.taker.now.feeders b.end b.taker.now.taken (told_by told paced a.mapper.now (outputs_of a)) (told_by told paced b.mapper.now (outputs_of b))
  pub merged : b.end ≢ SinkFault → HasMerged b.taker.now.taken (told_by told paced a.mapper.now (outputs_of a)) (told_by told paced b.mapper.now (outputs_of b))
  pub has : HasRun told b.end a.mapper.now b.mapper.now (outputs_of a) (outputs_of b)
