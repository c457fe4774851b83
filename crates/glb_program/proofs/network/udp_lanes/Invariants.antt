use Rattle.std.proofs.Common.{◌≡◌, replicate}
use Rattle.glb_program.specs.Fresh.{new_lane}
use Rattle.glb_program.proofs.network.udp_lanes.Given as goal

abbrev pub invariant-loop : goal.invariant-loop
invariant-loop g l = l.lanes.items ≡ replicate l.counter new_lane
