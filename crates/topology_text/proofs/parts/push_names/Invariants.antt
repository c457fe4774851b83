use Rattle.std.proofs.Common.{◌≡◌, ◌++◌, map, take}
use Rattle.toml.specs.View.{view}
use Rattle.topology_text.specs.Topology.{name_of}
use Rattle.topology_text.proofs.parts.push_names.Given as goal

abbrev pub invariant-loop-entry : goal.invariant-loop-entry
invariant-loop-entry l = map (λ v. v.items) l.names.keys ≡ map (λ v. v.items) l.initial.names.keys ++ map name_of (map view (take l.entry-index l.entries))
