use Rattle.edges.proofs.Going.{SettledBelow}
use Rattle.edges.proofs.hall.settle_all.Given as goal

abbrev pub invariant-loop-i : goal.invariant-loop-i
invariant-loop-i l = SettledBelow l.now l.fn.turns l.turns l.i l.fn.seats l.fn.rooms l.seats l.rooms
