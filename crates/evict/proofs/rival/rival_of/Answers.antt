use Rattle.std.proofs.Common.{sym, ap, ◌∙◌, arith}
use Rattle.std.specs.Option.{option_map}
use Rattle.map_model.specs.declared.instance.NodeId.{NodeId}
use Rattle.map_model.specs.Market.{pool_of}
use Rattle.map_model.proofs.Paths.{pool_there}
use Rattle.map_model.proofs.Trees.{under_there}
use Rattle.evict.specs.Standing.{IsNearestFull}
use Rattle.evict.proofs.Rivals.{nearest_is, nearest_none, rival_is, rival_none}
use Rattle.evict.proofs.rival.rival_of.Goals as goal

pub returns-in_err-node : goal.returns-in_err-node
returns-in_err-node c =
    let m = c.args.instance.now in
    rw c.from_residual.ensures (nearest_none m c.requires.market c.args.held.now.lines c.args.tree.now c.requires.agrees c.args.offer.group.0 c.args.offer.place c.requires.offer (sym c.nearest_full.ensures ∙ ap (option_map (λ (n : NodeId). n.0)) c.in_err-node.was))

pub worst_under-requires : goal.worst_under-requires
worst_under-requires c =
    let m = c.args.instance.now in
    let near : IsNearestFull m c.args.held.now.lines c.args.offer.group.0 c.args.offer.place c.in_ok-node.node.0 = nearest_is m c.requires.market c.args.held.now.lines c.args.tree.now c.requires.agrees c.args.offer.group.0 c.args.offer.place c.in_ok-node.node.0 c.requires.offer (sym c.nearest_full.ensures ∙ ap (option_map (λ (n : NodeId). n.0)) c.in_ok-node.was) in
    omega (arith, under_there m c.requires.market c.in_ok-node.node.0 (pool_of m c.args.offer.group.0 c.args.offer.place) (pool_there m c.requires.market c.args.offer.group.0 c.args.offer.place c.requires.offer) near.path, c.requires.shape.nodes)

pub returns-in_err-worst : goal.returns-in_err-worst
returns-in_err-worst c =
    let m = c.args.instance.now in
    let near : IsNearestFull m c.args.held.now.lines c.args.offer.group.0 c.args.offer.place c.in_ok-node.node.0 = nearest_is m c.requires.market c.args.held.now.lines c.args.tree.now c.requires.agrees c.args.offer.group.0 c.args.offer.place c.in_ok-node.node.0 c.requires.offer (sym c.nearest_full.ensures ∙ ap (option_map (λ (n : NodeId). n.0)) c.in_ok-node.was) in
    rw c.from_residual-in_err-worst.ensures (rival_none m c.args.held.now.market c.requires.market c.requires.shape c.args.held.now.lines c.args.offer.group.0 c.args.offer.place c.in_ok-node.node.0 c.requires.offer near c.in_err-worst.ensures.worst)

pub returns : goal.returns
returns c =
    let m = c.args.instance.now in
    let near : IsNearestFull m c.args.held.now.lines c.args.offer.group.0 c.args.offer.place c.in_ok-node.node.0 = nearest_is m c.requires.market c.args.held.now.lines c.args.tree.now c.requires.agrees c.args.offer.group.0 c.args.offer.place c.in_ok-node.node.0 c.requires.offer (sym c.nearest_full.ensures ∙ ap (option_map (λ (n : NodeId). n.0)) c.in_ok-node.was) in
    rival_is m c.args.held.now.market c.requires.shape c.args.held.now.lines c.args.offer.group.0 c.args.offer.place _ near c.in_ok-worst.ensures.worst
