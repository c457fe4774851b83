use Rattle.std.proofs.Common.{◌≡◌, ◌++◌, map, drop}
use Rattle.toml.specs.View.{view}
use Rattle.topology_text.specs.Code.{entries}
use Rattle.topology_text.specs.Topology.{group_of}
use Rattle.topology_text.proofs.build.push_rows.Given as goal

abbrev pub invariant-loop-entry : goal.invariant-loop-entry
invariant-loop-entry l =
    let each = group_of (entries l.index).nodes in
    l.rows.items ++ map each (map view (drop l.entry-index l.units)) ≡ l.initial.rows.items ++ map each (map view l.units)
