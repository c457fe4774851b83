use Rattle.std.proofs.Common.{◌≡◌, ℕ, [], length}
use Rattle.move_up.specs.Asked.{listed_at}
use Rattle.move_up.proofs.asked.no_offers.Given as goal

abbrev pub invariant-loop-node : goal.invariant-loop-node
invariant-loop-node l = record {
  len : length l.lists.items ≡ l._node;
  empty : (n : ℕ) → listed_at l.lists.items n ≡ [];
}
