use Rattle.map_model.specs.Market.{IsSameShape}
use Rattle.move_up_tests.proofs.tests.changed.Given as goal

abbrev pub invariant-loop-change : goal.invariant-loop-change
invariant-loop-change l = IsSameShape l.old l.new
