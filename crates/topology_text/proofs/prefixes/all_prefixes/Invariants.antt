use Rattle.std.proofs.Common.{◌≡◌, ◌++◌, map, drop}
use Rattle.topology_text.specs.Code.{visit}
use Rattle.topology_text.specs.Prefixes.{all_prefixes}
use Rattle.topology_text.proofs.prefixes.all_prefixes.Given as goal

abbrev pub invariant-loop-table : goal.invariant-loop-table
invariant-loop-table l =
    l.prefixes.items ++ all_prefixes (map visit (drop l.table-index l.tables)) ≡ all_prefixes (map visit l.tables)
