use Rattle.std.proofs.Common.{◌≤◌}
use Rattle.mapper_tests.proofs.tests.all_follow.Given as goal

abbrev pub invariant-loop-round : goal.invariant-loop-round
invariant-loop-round g l = l.mapper.newest.serial ≤ l.round
