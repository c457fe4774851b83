use Rattle.std.proofs.Common.{◌≡◌, ◌++◌, map, drop}
use Rattle.toml.specs.View.{view}
use Rattle.topology_text.specs.Topology.{hosts_of}
use Rattle.topology_text.proofs.parts.all_hosts.Given as goal

abbrev pub invariant-loop-entry : goal.invariant-loop-entry
invariant-loop-entry l = l.hosts.items ++ map hosts_of (map view (drop l.entry-index l.entries)) ≡ map hosts_of (map view l.entries)
