use Rattle.std.proofs.Common.{List, ◌∙◌, arith}
use Rattle.map_model.specs.declared.instance.NodeId.{NodeId}
use Rattle.offer_pool.specs.declared.queue.Seat.{Seat}
use Rattle.offer_pool.specs.Filed.{IsLive}
use Rattle.offer_pool.proofs.Queues.{among_itself, live_step, not_among}
use Rattle.offer_pool.proofs.filing.clean_all.Goals as goal

pub clean_at-requires-clause-at : goal.clean_at-requires-clause-at
clean_at-requires-clause-at c =
    let there = c.requires.nodes _ (among_itself c.args.nodes.now c.loop-node.node-index (record { 0 = 0 }) c.loop-node-test.true) in omega (arith, there, c.loop-node.auto.queues)

pub clean_at-requires-clause-seats : goal.clean_at-requires-clause-seats
clean_at-requires-clause-seats c = λ s h. c.requires.seats _ s (c.loop-node.invariant.from _ s h)

pub loop-node-preserved : goal.loop-node-preserved
loop-node-preserved c =
    let nodes = c.args.nodes.now in
    let i = c.loop-node.node-index in
    let d : NodeId = record { 0 = 0 } in
    record {
      kept = λ n s h live. c.clean_at.ensures.kept n s (c.loop-node.invariant.kept n s h live) live;
      from = λ n s h. c.loop-node.invariant.from n s (c.clean_at.ensures.from n s h);
      live = λ n h. live_step (λ (q : List Seat). IsLive c.args.amounts.now q) nodes i n d c.loop-node.queues c.clean_at.new.queues c.loop-node-test.true (c.loop-node.invariant.live n) c.clean_at.ensures.live c.clean_at.ensures.others h;
      others = λ n h. let (before, other) = not_among nodes i n d c.loop-node-test.true h in c.clean_at.ensures.others n other ∙ c.loop-node.invariant.others n before;
    }
