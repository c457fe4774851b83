use Rattle.reopen.proofs.Removing.{IsRolling}
use Rattle.reopen.proofs.rolling.roll_back.Given as goal

abbrev pub invariant-loop-g : goal.invariant-loop-g
invariant-loop-g l = IsRolling l.instance l.reached l.g l.fn.state l.state
