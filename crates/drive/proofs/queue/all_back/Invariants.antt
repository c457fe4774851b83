use Rattle.std.proofs.Common.{◌≡◌, ◌++◌, List, All, vec_len}
use mathlib.Core.List.{IsPrefix}
use Rattle.feed_queue.specs.Ends.{FeederState}
use Rattle.feed_queue.specs.Items.{sent_by}
use Rattle.drive.proofs.queue.all_back.Given as goal

abbrev pub invariant-loop-feeder : goal.invariant-loop-feeder
invariant-loop-feeder g l = (l.taker ≡ l.fn.taker) × All (λ f. f.queue ≡ l.fn.taker.queue) l.left.items
    × ((done : List FeederState) × (l.fn.feeders.items ≡ l.left.items ++ done) × All (λ (f : FeederState). IsPrefix (sent_by f.feeder l.fn.taker.taken) f.sent) done)

abbrev pub decreases-loop-feeder : goal.decreases-loop-feeder
decreases-loop-feeder g l = vec_len l.left
