use Rattle.std.proofs.Common.{◌≡◌, ◌≤◌, ◌+◌}
use Rattle.feed_queue.specs.Items.{batches, whats_of}
use Rattle.mapper.specs.Desks.{IsWhole, Keeps, desk_told}
use Rattle.mapper.specs.Feeds.{AllWorked}
use Rattle.mapper.specs.Noting.{AreNoted}
use Rattle.mapper.proofs.feeds.work_all.Given as goal

abbrev pub invariant-loop : goal.invariant-loop
invariant-loop g l = record {
  queue : (l.taker.queue ≡ l.fn.taker.queue) × (l.taker.feeders ≡ l.fn.taker.feeders);
  noted : AreNoted l.taker.taken l.ends;
  count : l.ends.count ≤ l.taker.feeders;
  worked : AllWorked l.taker.taken (desk_told g.K.Sink.told g.M.Pace.told l.fn.desk) (desk_told g.K.Sink.told g.M.Pace.told l.desk);
  serial : l.desk.published.now.newest.serial ≤ l.fn.desk.published.now.newest.serial + batches (whats_of l.taker.taken);
  keeps : Keeps g.K.Sink.told l.fn.desk l.desk;
  whole : IsWhole g.K.Sink.told l.fn.desk l.desk;
}
