use Rattle.std.proofs.Common.{◌≡◌}
use Rattle.feed_queue_tests.proofs.tests.are_taken.Given as goal

abbrev pub invariant-loop-seen : goal.invariant-loop-seen
invariant-loop-seen g l = l.taker.queue ≡ l.fn.taker.queue
