use Rattle.std.proofs.Common.{◌*◌, ◌≤◌}
use Rattle.deferred_accept.proofs.pace.places.Given as goal

abbrev pub invariant-loop-g : goal.invariant-loop-g
invariant-loop-g l = l.places ≤ 255 * l.g
