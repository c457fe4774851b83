use Rattle.std.proofs.Common.{refl, sym, ◌∙◌, subst, arith}
use Rattle.map_model.specs.declared.instance.NodeId.{NodeId}
use Rattle.capacity_tree.specs.Loads.{AddsUnits}
use Rattle.offer_pool.proofs.Views.{on_ok_map}
use Rattle.evict.proofs.Placing.{relieving_start, room_at, turned_away}
use Rattle.evict.proofs.relief.place.Goals as goal

pub returns-then-is_refused-clause-relieved : goal.returns-then-is_refused-clause-relieved
returns-then-is_refused-clause-relieved g c =
    on_ok_map c.push.result _ _
    (λ listed. turned_away c.args.instance.now g.origin c.args.offer.group.0 c.args.offer.place c.args.units c.args.held.now c.args.tree.now c.args.freed.now c.push.new.self (record { offer = c.args.offer; units = c.args.units }) c.requires c.if-units-gt0.true
    (sym c.is_refused.ensures ∙ c.if-is_refused.true) refl listed)
    c.push.ensures

pub add-requires-clause-room : goal.add-requires-clause-room
add-requires-clause-room g c = λ n l on.
    room_at c.args.instance.now g.origin c.args.offer.group.0 c.args.offer.place c.args.units c.args.held.now c.args.tree.now c.args.freed.now c.requires n (omega (arith, c.requires.agrees.trees.nodes))

pub relieve_path-requires : goal.relieve_path-requires
relieve_path-requires g c =
    relieving_start c.args.instance.now g.origin c.args.offer.group.0 c.args.offer.place c.args.units c.args.held.now c.put.new.self c.args.tree.now c.add.new.self c.args.freed.now c.requires
    c.in_ok-put.ensures.market c.in_ok-put.ensures.puts c.in_ok-put.ensures.form (subst (λ (p : NodeId). AddsUnits c.args.tree.now c.add.new.self p.0 c.args.units) c.pool_at.ensures c.add.ensures)
