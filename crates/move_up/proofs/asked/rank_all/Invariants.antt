use Rattle.move_up.specs.Asked.{AreAllListed}
use Rattle.move_up.proofs.asked.rank_all.Given as goal

abbrev pub invariant-loop-at : goal.invariant-loop-at
invariant-loop-at l = AreAllListed l.instance l.lists
