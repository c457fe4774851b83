use Rattle.std.proofs.Common.{◌≡◌, ◌++◌, map, drop}
use Rattle.toml.specs.View.{view}
use Rattle.topology_text.specs.Walk.{entries_from}
use Rattle.topology_text.specs.Code.{visit}
use Rattle.topology_text.proofs.walk.push_entries.Given as goal

abbrev pub invariant-loop-i : goal.invariant-loop-i
invariant-loop-i l =
    map visit l.tables.items ++ entries_from l.key l.i (map view (drop l.i l.values)) ≡ map visit l.initial.tables.items ++ entries_from l.key 0 (map view l.values)
