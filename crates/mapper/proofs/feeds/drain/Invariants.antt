use Rattle.std.proofs.Common.{◌≡◌, ◌≤◌, ◌++◌, List}
use Rattle.demand_feed.specs.declared.sent.Item.{Item}
use Rattle.mapper.specs.Noting.{AreNoted}
use Rattle.mapper.proofs.feeds.drain.Given as goal

abbrev pub invariant-loop : goal.invariant-loop
invariant-loop g l =
    (l.taker.queue ≡ l.fn.taker.queue) × (l.taker.feeders ≡ l.fn.taker.feeders) × AreNoted l.taker.taken l.ends × (l.ends.count ≤ l.taker.feeders)
    × ((later : List Item) × (l.taker.taken ≡ l.fn.taker.taken ++ later))
