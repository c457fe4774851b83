use Rattle.std.proofs.Common.{◌≡◌, ◌==◌, ℕ, ◌⊎◌, true, false, Contains, take}
use Rattle.std.specs.List.{list_any}
use Rattle.offer_pool.specs.declared.queue.Seat.{Seat}
use Rattle.offer_pool.specs.Seats.{KeepsFirst}
use Rattle.offer_pool.specs.Filed.{queue_at}
use Rattle.offer_pool.proofs.filing.push_all.Given as goal

abbrev pub invariant-loop-node : goal.invariant-loop-node
invariant-loop-node l = record {
  kept : (n : ℕ) (s : Seat) → Contains (queue_at l.initial.queues n) s → Contains (queue_at l.queues n) s;
  from : (n : ℕ) (s : Seat) → Contains (queue_at l.queues n) s → Contains (queue_at l.initial.queues n) s ⊎ (s ≡ l.seat);
  filed : (n : ℕ) → list_any (λ x. x.0 == n) (take l.node-index l.nodes) ≡ true → Contains (queue_at l.queues n) l.seat;
  first : (n : ℕ) → KeepsFirst l.seat (queue_at l.initial.queues n) (queue_at l.queues n);
  others : (n : ℕ) → list_any (λ x. x.0 == n) (take l.node-index l.nodes) ≡ false → queue_at l.queues n ≡ queue_at l.initial.queues n;
}
