use Rattle.std.proofs.Common.{◌≡◌, ◌++◌, map, drop}
use Rattle.std.specs.List.{filter_map}
use Rattle.toml.specs.View.{view}
use Rattle.topology_text.specs.Names.{name_in}
use Rattle.topology_text.proofs.zone.wire_names.Given as goal

abbrev pub invariant-loop-item : goal.invariant-loop-item
invariant-loop-item l =
    l.names.items ++ filter_map (name_in l.key) (map view (drop l.item-index l.items)) ≡ filter_map (name_in l.key) (map view l.items)
