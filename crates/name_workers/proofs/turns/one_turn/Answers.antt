use Rattle.name_workers.proofs.Turned.{turn_of}
use Rattle.name_workers.proofs.turns.one_turn.Goals as goal

pub returns-clause-turned : goal.returns-clause-turned
returns-clause-turned g c =
    turn_of _ _ _ _ _ _ _ _ _ c.known.ensures c.in_default.ensures.turn c.in_default.ensures.later c.learn_all.ensures.given c.learn_all.ensures.rise c.learn_all.ensures.looks c.learn_all.ensures.faults c.learn_all.ensures.same.2 c.learn_all.ensures.same.1 c.take.ensures.took
