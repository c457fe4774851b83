use Rattle.std.proofs.Common.{List, heap_items, subst}
use Rattle.offer_pool.specs.declared.queue.Seat.{Seat}
use Rattle.offer_pool.specs.Seats.{KeepsFirst}
use Rattle.offer_pool.proofs.Firsts.{first_kept}
use Rattle.offer_pool.proofs.queue.Queue.push.Goals as goal

pub returns-clause-first : goal.returns-clause-first
returns-clause-first c =
    subst (λ (q : List Seat). KeepsFirst c.args.seat q (heap_items c.push.new.self)) c.self.view_is (first_kept _ _ c.args.seat c.self.invariant (c.in_ok-push.ensures.heap_order c.self.invariant) c.in_ok-push.ensures.permutation)
