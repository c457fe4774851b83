use Rattle.std.proofs.Common.{◌≤◌}
use Rattle.drive_tests.proofs.tests.turns.turns_between.Given as goal

abbrev pub invariant-loop-turn : goal.invariant-loop-turn
invariant-loop-turn g l = l.mapper.newest.serial ≤ l.turn
