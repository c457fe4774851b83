use Rattle.std.proofs.Common.{◌≡◌, ◌++◌, map, drop}
use Rattle.std.specs.List.{filter_map}
use Rattle.toml.specs.View.{view}
use Rattle.topology_text.specs.Topology.{address_in}
use Rattle.topology_text.proofs.parts.addresses.Given as goal

abbrev pub invariant-loop-item : goal.invariant-loop-item
invariant-loop-item l =
    l.addresses.items ++ filter_map (address_in l.key) (map view (drop l.item-index l.items)) ≡ filter_map (address_in l.key) (map view l.items)
