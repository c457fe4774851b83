use Rattle.std.proofs.Common.{◌≡◌, ℕ, List, Contains, sym, ◌∙◌, subst, arith, inl, inr, refl}
use Rattle.map_model.specs.declared.instance.NodeId.{NodeId}
use Rattle.offer_pool.specs.declared.queue.Seat.{Seat}
use Rattle.offer_pool.specs.Seats.{KeepsFirst}
use Rattle.offer_pool.specs.Filed.{queue_at}
use Rattle.offer_pool.proofs.Firsts.{keeps_again}
use Rattle.offer_pool.proofs.Queues.{among_itself, came_from, everywhere, live_step, not_among, not_among_all}
use Rattle.offer_pool.proofs.filing.push_all.Goals as goal

pub push_at-requires : goal.push_at-requires
push_at-requires c =
    let there = c.requires _ (among_itself c.args.nodes.now c.loop-node.node-index (record { 0 = 0 }) c.loop-node-test.true) in omega (arith, there, c.loop-node.auto.queues)

pub returns-in_err-push_at-clause-from : goal.returns-in_err-push_at-clause-from
returns-in_err-push_at-clause-from c = λ n s h. came_from _ _ (s ≡ c.args.seat) (c.push_at.ensures.from n s h) (c.loop-node.invariant.from n s)

pub returns-in_err-push_at-clause-others : goal.returns-in_err-push_at-clause-others
returns-in_err-push_at-clause-others c = λ n h.
    let (before, other) = not_among_all c.args.nodes.now c.loop-node.node-index n (record { 0 = 0 }) c.loop-node-test.true h in c.push_at.ensures.others n other ∙ c.loop-node.invariant.others n before

pub loop-node-init : goal.loop-node-init
loop-node-init c = record { kept = λ n s h. h; from = λ n s h. inl h; filed = λ n h. cc; first = λ n. inr refl; others = λ n h. refl }

pub loop-node-preserved : goal.loop-node-preserved
loop-node-preserved c =
    let nodes = c.args.nodes.now in
    let i = c.loop-node.node-index in
    let d : NodeId = record { 0 = 0 } in
    record {
      kept = λ n s h. c.push_at.ensures.kept n s (c.loop-node.invariant.kept n s h);
      from = λ n s h. came_from _ _ (s ≡ c.args.seat) (c.push_at.ensures.from n s h) (c.loop-node.invariant.from n s);
      filed = λ n h. live_step (λ (q : List Seat). Contains q c.args.seat) nodes i n d c.loop-node.queues c.push_at.new.queues c.loop-node-test.true (c.loop-node.invariant.filed n) c.in_ok-push_at.ensures.filed c.push_at.ensures.others h;
      first = everywhere (λ (n : ℕ). KeepsFirst c.args.seat (queue_at c.args.queues.now n) (queue_at c.push_at.new.queues n)) _ (keeps_again c.args.seat _ _ _ (c.loop-node.invariant.first _) c.in_ok-push_at.ensures.first)
          (λ n other. subst (λ (q : List Seat). KeepsFirst c.args.seat (queue_at c.args.queues.now n) q) (sym (c.push_at.ensures.others n other)) (c.loop-node.invariant.first n));
      others = λ n h. let (before, other) = not_among nodes i n d c.loop-node-test.true h in c.push_at.ensures.others n other ∙ c.loop-node.invariant.others n before;
    }
