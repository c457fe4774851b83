use Rattle.std.proofs.Common.{◌≡◌, ◌⊎◌, inl, List, Contains, sym, subst}
use Rattle.offer_pool.specs.declared.queue.Seat.{Seat}
use Rattle.offer_pool.specs.Seats.{KeepsFirst}
use Rattle.offer_pool.specs.Filed.{queue_at}
use Rattle.offer_pool.proofs.Queues.{Contains-came, came_cases, came_itself, everywhere, queue-same, queue-set, queue-set_other}
use Rattle.offer_pool.proofs.filing.push_at.Goals as goal

pub returns : goal.returns
returns c =
    let old = c.args.queues.now in
    let at = c.args.at in
    let same = queue-same old at c.index-queues-at.result c.requires in
    let set = queue-set old at c.push.new.self c.requires in
    let p = c.in_ok-push.ensures.ok in
    record {
      kept = everywhere _ at
          (λ s h. subst (λ (q : List Seat). Contains q s) (sym set) (Contains-came _ _ c.args.seat s p (subst (λ (q : List Seat). Contains q s) (sym same) h)))
          (λ n other s h. subst (λ (q : List Seat). Contains q s) (sym (queue-set_other old at n c.push.new.self other)) h);
      from = everywhere _ at
          (λ s h. subst (λ (q : List Seat). Contains q s ⊎ (s ≡ c.args.seat)) same (came_cases _ _ c.args.seat s p (subst (λ (q : List Seat). Contains q s) set h)))
          (λ n other s h. inl (subst (λ (q : List Seat). Contains q s) (queue-set_other old at n c.push.new.self other) h));
      filed = subst (λ (q : List Seat). Contains q c.args.seat) (sym set) (came_itself _ _ c.args.seat p);
      first = subst (λ (q : List Seat). KeepsFirst c.args.seat (queue_at old at) q) (sym set) (subst (λ (q : List Seat). KeepsFirst c.args.seat q c.push.new.self) same c.in_ok-push.ensures.first);
      others = λ n other. queue-set_other old at n c.push.new.self other;
    }
