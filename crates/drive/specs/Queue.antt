-- Inside this crate alone: an opened queue for several feeds.
use Rattle.std.specs.Prelude.{◌≡◌, ℕ, ◌+◌, [], length, map}
use Rattle.std.specs.Arc.{arc_value}
use Rattle.std.specs.List.{range_with_len}
use Rattle.topology_text.specs.Plan.{Plan}
use Rattle.feed_queue.specs.Ends.{fresh_feeder}
use Rattle.drive.specs.declared.queue.FeedQueue.{FeedQueue}

-- one for the first feed and so many further ones, over a topology with so many groups and nodes, of which nothing was sent
pub record IsFeedQueue {N : Type 0} (groups nodes count : ℕ) (t : Plan) (q : FeedQueue N) : Type 0 where
  pub topology : arc_value q.context.topology ≡ t
  pub groups_are : length t.market.groups ≡ groups
  pub nodes_are : length t.market.nodes ≡ nodes
  pub first : q.first ≡ fresh_feeder q.taker.queue 0
  pub feeders : q.feeders.items ≡ map (fresh_feeder q.taker.queue) (range_with_len 1 count)
  pub taker : q.taker.feeders ≡ 1 + count
  pub taken : q.taker.taken ≡ []
