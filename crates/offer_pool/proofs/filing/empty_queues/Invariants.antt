use Rattle.std.proofs.Common.{◌≡◌, ℕ, [], length}
use Rattle.offer_pool.specs.Filed.{queue_at}
use Rattle.offer_pool.proofs.filing.empty_queues.Given as goal

abbrev pub invariant-loop-node : goal.invariant-loop-node
invariant-loop-node l = record {
  len : length l.queues.items ≡ l._node;
  empty : (n : ℕ) → queue_at l.queues.items n ≡ [];
}
