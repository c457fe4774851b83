use Rattle.std.proofs.Common.{◌≡◌, ◌≤◌, [], map, vec_capacity, vec_len}
use Rattle.std.specs.List.{range_with_len}
use Rattle.feed_queue.specs.Ends.{fresh_feeder}
use Rattle.feed_queue.proofs.opening.open.Given as goal

abbrev pub invariant-loop : goal.invariant-loop
invariant-loop g l =
    (l.made.items ≡ map (fresh_feeder l.taker.queue) (range_with_len 0 l.counter)) × (l.fn.feeders ≤ vec_capacity l.made)
    × (vec_len l.made ≡ l.counter) × (l.taker.feeders ≡ l.counter) × (l.taker.taken ≡ []) × (l.counter ≤ l.fn.feeders)
