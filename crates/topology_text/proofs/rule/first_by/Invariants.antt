use Rattle.std.proofs.Common.{◌≡◌, drop, map}
use Rattle.std.specs.List.{flat_map}
use Rattle.topology_text.specs.Walk.{first, places_in}
use Rattle.topology_text.specs.Code.{visit}
use Rattle.topology_text.proofs.rule.first_by.Given as goal

abbrev pub invariant-loop-table : goal.invariant-loop-table
invariant-loop-table g l =
    let found = places_in (g.R.Rule.finds l.rule) in
    first (flat_map found (map visit (drop l.table-index l.tables))) ≡ first (flat_map found (map visit l.tables))
