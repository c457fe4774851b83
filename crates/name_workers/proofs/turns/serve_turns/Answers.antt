use Rattle.std.proofs.Common.{◌∙◌, refl, arith}
use Rattle.name_workers.proofs.Called.{call_by}
use Rattle.name_workers.proofs.Loop.{ends_by, fresh_none, goes_on_by, spent}
use Rattle.name_workers.proofs.turns.serve_turns.Goals as goal

pub loop-init : goal.loop-init
loop-init g c = (fresh_none g.T.Takes.taking _ _ _ c.fresh-room.ensures.fresh, refl, refl, c.fresh-room.ensures.ready, omega (arith, c.known.ensures))

pub returns-in-Some-clause-call : goal.returns-in-Some-clause-call
returns-in-Some-clause-call g c =
    let i = c.loop.invariant in
    call_by _ _ _ _ _ _ i.0.0 i.0.1 i.4 (ends_by _ _ _ _ _ _ _ _ _ _ _ _ i.1 (omega (arith, c.loop-test.true)) i.0.2 c.one_turn-step.ensures.turned c.in-Some.ensures)

pub loop-preserved : goal.loop-preserved
loop-preserved g c =
    let i = c.loop.invariant in
    (goes_on_by _ _ _ _ _ _ _ _ _ _ i.1 i.0 c.one_turn-step.ensures.turned c.in_default.ensures, c.one_turn-step.ensures.number ∙ i.1, c.one_turn-step.ensures.asked ∙ i.2, c.one_turn-step.ensures.ready, i.4)

pub returns-clause-call : goal.returns-clause-call
returns-clause-call g c =
    let i = c.loop.invariant in
    call_by _ _ _ _ _ _ i.0.0 i.0.1 i.4 (spent _ _ _ _ _ _ _ i.0.2 (omega (arith, c.loop-test.false)))
