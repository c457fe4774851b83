use Rattle.std.proofs.Common.{arith}
use Rattle.map_model.proofs.Shapes.{IsOffer-shape}
use Rattle.deferred_accept.proofs.Offering.{on_ok_both, stepped_offered, stepped_skipped, units_are}
use Rattle.deferred_accept.proofs.work.offer_or_skip.Goals as goal

pub returns-then-units-gt0-clause-stepped : goal.returns-then-units-gt0-clause-stepped
returns-then-units-gt0-clause-stepped g c =
    let is = units_are c.args.instance.now c.args.state.now c.args.offer c.free.result c.room_under.result c.min-units.result c.requires.due c.free.ensures c.room_under.ensures c.min-units.ensures in
    on_ok_both c.put.result _ _ _
    (λ put counted. stepped_offered c.args.instance.now c.args.state.now c.put.new.self c.args.offer c.min-units.result c.put.new.freed c.args.steps.now c.put.new.steps c.requires.due is c.if-units-gt0.true put counted)
    c.put.ensures.put c.put.ensures.steps

pub set_pointer-requires-clause-nothing_past : goal.set_pointer-requires-clause-nothing_past
set_pointer-requires-clause-nothing_past g c = λ j o past.
    c.requires.ready.resumable.none_past c.args.offer.group.0 j (IsOffer-shape c.args.state.now.market c.args.instance.now c.requires.ready.shape c.args.offer.group.0 j o) (omega (arith, c.requires.due.pointer, past))

pub returns-clause-stepped : goal.returns-clause-stepped
returns-clause-stepped g c =
    let is = units_are c.args.instance.now c.args.state.now c.args.offer c.free.result c.room_under.result c.min-units.result c.requires.due c.free.ensures c.room_under.ensures c.min-units.ensures in
    stepped_skipped c.args.instance.now c.args.state.now c.set_pointer.new.self c.args.offer c.min-units.result c.clear.new.self c.args.steps.now c.requires.ready c.requires.due is (λ some. absurd (omega (arith, some, c.if-units-gt0.false))) c.clear.ensures
    c.set_pointer.ensures
