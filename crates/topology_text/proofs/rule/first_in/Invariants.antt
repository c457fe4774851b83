use Rattle.std.proofs.Common.{◌≡◌, drop}
use Rattle.std.specs.List.{flat_map}
use Rattle.topology_text.specs.Walk.{first, places_at}
use Rattle.topology_text.specs.Code.{visit}
use Rattle.topology_text.proofs.rule.first_in.Given as goal

abbrev pub invariant-loop-key : goal.invariant-loop-key
invariant-loop-key g l =
    let found = places_at (g.R.Rule.finds l.rule) (visit l.table) in
    first (flat_map found (drop l.key-index l.key-items)) ≡ first (flat_map found l.key-items)
