use Rattle.std.proofs.Common.{◌≡◌, refl, ap, ◌∙◌, subst, arith}
use Rattle.map_model.specs.declared.instance.NodeId.{NodeId}
use Rattle.map_model.specs.Market.{Market, pool_of}
use Rattle.map_model.specs.Allocation.{load}
use Rattle.capacity_tree.specs.Loads.{TakesUnits}
use Rattle.evict.proofs.Relieving.{due, load_falls, relieving_step, taken_fits}
use Rattle.evict.proofs.Shaped.{load-shape}
use Rattle.evict.proofs.relief.relieve.Goals as goal

pub unreachable-requires : goal.unreachable-requires
unreachable-requires g c =
    let m : Market = c.args.instance.now in
    let i = c.loop-node.invariant.relieving in
    let none : load c.loop-node.held.market c.loop-node.held.lines c.args.climb.node.0 ≡ 0 = c.in_default.ensures.worst in
    let same = load-shape c.loop-node.held.market m i.accounted.shape c.loop-node.held.lines c.args.climb.node.0 in
    let loads = i.accounted.agrees.loads c.args.climb.node.0 i.there in
    omega (arith, same, loads)

pub take-requires-in-loop-node-clause-held : goal.take-requires-in-loop-node-clause-held
take-requires-in-loop-node-clause-held g c = λ n l on.
    let m : Market = c.args.instance.now in
    let i = c.loop-node.invariant.relieving in
    let d = due m c.loop-node.held c.loop-node.tree c.args.climb.node.0 c.in-Some.offer.group.0 c.in-Some.offer.place c.in-Some.most c.min-units.result i.accounted.shape i.accounted.agrees i.there c.in-Some.ensures.worst (omega arith) (omega arith) in
    taken_fits m c.loop-node.held.lines c.loop-node.tree n c.in-Some.offer.group.0 c.in-Some.offer.place c.min-units.result c.pool_at.result.0 i.accounted.agrees (ap (λ (p : NodeId). p.0) c.pool_at.ensures)
    (omega (arith, i.accounted.agrees.trees.nodes)) on d.held

pub loop-node-smaller : goal.loop-node-smaller
loop-node-smaller g c =
    let m : Market = c.args.instance.now in
    let i = c.loop-node.invariant.relieving in
    let h = c.in-Some.offer.group.0 in
    let j = c.in-Some.offer.place in
    let d = due m c.loop-node.held c.loop-node.tree c.args.climb.node.0 h j c.in-Some.most c.min-units.result i.accounted.shape i.accounted.agrees i.there c.in-Some.ensures.worst (omega arith) (omega arith) in
    let taken : TakesUnits c.loop-node.tree c.take-in-loop-node.new.self (pool_of m h j) c.min-units.result
    = subst (λ (p : NodeId). TakesUnits c.loop-node.tree c.take-in-loop-node.new.self p.0 c.min-units.result) c.pool_at.ensures c.take-in-loop-node.ensures in
    load_falls m c.loop-node.held.lines c.loop-node.tree c.take-in-loop-node.new.self c.args.climb.node.0 h j c.min-units.result i.accounted.agrees i.there d taken

pub loop-node-preserved : goal.loop-node-preserved
loop-node-preserved g c =
    let m : Market = c.args.instance.now in
    let i = c.loop-node.invariant.relieving in
    let h = c.in-Some.offer.group.0 in
    let j = c.in-Some.offer.place in
    let t = c.min-units.result in
    let d = due m c.loop-node.held c.loop-node.tree c.args.climb.node.0 h j c.in-Some.most t i.accounted.shape i.accounted.agrees i.there c.in-Some.ensures.worst (omega arith) (omega arith) in
    let taken : TakesUnits c.loop-node.tree c.take-in-loop-node.new.self (pool_of m h j) t
    = subst (λ (p : NodeId). TakesUnits c.loop-node.tree c.take-in-loop-node.new.self p.0 c.min-units.result) c.pool_at.ensures c.take-in-loop-node.ensures in
    let step = relieving_step m g.origin c.args.climb.put.group.0 c.args.climb.put.place c.args.climb.node.0 c.loop-node.left h j t c.loop-node.held c.take.new.self c.loop-node.tree c.take-in-loop-node.new.self c.loop-node.freed c.push.new.self
    (record { offer = c.in-Some.offer; units = c.min-units.result }) i d refl refl refl c.take.ensures.market c.take.ensures.takes c.take.ensures.form taken c.in_ok-push.ensures in
    record { relieving = step; market = c.take.ensures.market ∙ c.loop-node.invariant.market }
