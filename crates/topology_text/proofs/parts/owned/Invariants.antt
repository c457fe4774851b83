use Rattle.std.proofs.Common.{◌≡◌, ◌++◌, map, drop}
use Rattle.topology_text.specs.Topology.{owned}
use Rattle.topology_text.proofs.parts.owned.Given as goal

abbrev pub invariant-loop-entry : goal.invariant-loop-entry
invariant-loop-entry l = l.owned.items ++ map owned (drop l.entry-index l.prefixes) ≡ map owned l.prefixes
