use Rattle.std.proofs.Common.{◌≡◌, length}
use Rattle.stable_check_tests.proofs.tests.judge_rows.Given as goal

abbrev pub invariant-loop-i : goal.invariant-loop-i
invariant-loop-i g l = l.room ≡ record { groups = length l.instance.groups; nodes = length l.instance.nodes }
