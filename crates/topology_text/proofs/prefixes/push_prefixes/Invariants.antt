use Rattle.std.proofs.Common.{◌≡◌, ◌++◌, map, drop}
use Rattle.toml.specs.View.{view}
use Rattle.topology_text.specs.Prefixes.{prefixes_from}
use Rattle.topology_text.proofs.prefixes.push_prefixes.Given as goal

abbrev pub invariant-loop-i : goal.invariant-loop-i
invariant-loop-i l =
    l.prefixes.items ++ prefixes_from l.group l.i (map view (drop l.i l.items)) ≡ l.initial.prefixes.items ++ prefixes_from l.group 0 (map view l.items)
