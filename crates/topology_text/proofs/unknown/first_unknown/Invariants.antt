use Rattle.std.proofs.Common.{◌≡◌, drop, map}
use Rattle.std.specs.List.{flat_map}
use Rattle.topology_text.specs.Walk.{first}
use Rattle.topology_text.specs.Values.{unknown}
use Rattle.topology_text.specs.Code.{visit}
use Rattle.topology_text.proofs.unknown.first_unknown.Given as goal

abbrev pub invariant-loop-table : goal.invariant-loop-table
invariant-loop-table l = first (flat_map unknown (map visit (drop l.table-index l.tables))) ≡ first (flat_map unknown (map visit l.tables))
