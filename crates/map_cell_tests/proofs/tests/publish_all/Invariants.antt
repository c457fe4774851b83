use Rattle.std.proofs.Common.{◌≡◌, ◌*◌}
use Rattle.map_cell_tests.specs.Examples.{IsOf}
use Rattle.map_cell_tests.proofs.tests.publish_all.Given as goal

abbrev pub invariant-loop-round : goal.invariant-loop-round
invariant-loop-round g l = record {
  newest : IsOf l.worlds.old l.publisher.newest;
  serial : l.publisher.newest.serial ≡ 2 * l.round;
}
