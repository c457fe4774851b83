use Rattle.std.proofs.Common.{◌≡◌, vec_len}
use Rattle.trial_runs.proofs.lanes.lanes_of.Given as goal

abbrev pub invariant-loop-i : goal.invariant-loop-i
invariant-loop-i l = vec_len l.lanes ≡ l.i
