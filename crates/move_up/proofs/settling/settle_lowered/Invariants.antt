use Rattle.move_up.specs.Moved.{IsMoved}
use Rattle.move_up.proofs.settling.settle_lowered.Given as goal

abbrev pub invariant-loop-g : goal.invariant-loop-g
invariant-loop-g l = IsMoved l.new l.marks l.fn.state l.state
