use Rattle.move_up.specs.Moved.{IsMoved}
use Rattle.move_up.proofs.turns.move_up.Given as goal

abbrev pub invariant-loop-made : goal.invariant-loop-made
invariant-loop-made l = IsMoved l.new l.marks l.fn.state l.state
