use Rattle.std.proofs.Common.{◌<◌, length, IfSome}
use Rattle.best_check.proofs.chains.first_number.Given as goal

abbrev pub invariant-loop-step : goal.invariant-loop-step
invariant-loop-step l = IfSome l.at (λ n. n.0 < length l.leads)
