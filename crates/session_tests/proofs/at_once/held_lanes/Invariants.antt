use Rattle.std.proofs.Common.{◌≡◌, vec_len}
use Rattle.session_tests.proofs.at_once.held_lanes.Given as goal

abbrev pub invariant-loop-i : goal.invariant-loop-i
invariant-loop-i l = vec_len l.lanes ≡ l.i
