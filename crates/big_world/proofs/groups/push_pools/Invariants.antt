-- What is written of a list so far.
use Rattle.std.proofs.Common.{◌≡◌, ◌++◌}
use Rattle.big_world.specs.Topology.{pools_text}
use Rattle.big_world.proofs.groups.push_pools.Given as goal

abbrev pub invariant-loop-place : goal.invariant-loop-place
invariant-loop-place l = l.text.items ≡ l.initial.text.items ++ pools_text l.groups l.start l.place
