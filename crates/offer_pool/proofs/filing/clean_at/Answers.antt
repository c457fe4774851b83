use Rattle.std.proofs.Common.{List, Contains, sym, subst}
use Rattle.offer_pool.specs.declared.queue.Seat.{Seat}
use Rattle.offer_pool.specs.Filed.{IsLive}
use Rattle.offer_pool.proofs.Queues.{everywhere, queue-same, queue-set, queue-set_other}
use Rattle.offer_pool.proofs.filing.clean_at.Goals as goal

pub clean-requires : goal.clean-requires
clean-requires c = λ s h. c.requires.seats s (subst (λ (q : List Seat). Contains q s) (queue-same c.args.queues.now c.args.at c.index-queues-at.result c.requires.at) h)

pub returns : goal.returns
returns c =
    let old = c.args.queues.now in
    let at = c.args.at in
    let same = queue-same old at c.index-queues-at.result c.requires.at in
    let set = queue-set old at c.clean.new.queue c.requires.at in
    record {
      kept = everywhere _ at
          (λ s h live. subst (λ (q : List Seat). Contains q s) (sym set) (c.clean.ensures.kept s (subst (λ (q : List Seat). Contains q s) (sym same) h) live))
          (λ n other s h live. subst (λ (q : List Seat). Contains q s) (sym (queue-set_other old at n c.clean.new.queue other)) h);
      from = everywhere _ at
          (λ s h. subst (λ (q : List Seat). Contains q s) same (c.clean.ensures.from s (subst (λ (q : List Seat). Contains q s) set h)))
          (λ n other s h. subst (λ (q : List Seat). Contains q s) (queue-set_other old at n c.clean.new.queue other) h);
      live = subst (λ (q : List Seat). IsLive c.args.amounts.now q) (sym set) c.clean.ensures.live;
      others = λ n other. queue-set_other old at n c.clean.new.queue other;
    }
