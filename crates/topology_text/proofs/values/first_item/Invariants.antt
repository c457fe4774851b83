use Rattle.std.proofs.Common.{◌≡◌, drop, map}
use Rattle.toml.specs.View.{view}
use Rattle.topology_text.specs.Walk.{first, items_from}
use Rattle.topology_text.proofs.values.first_item.Given as goal

abbrev pub invariant-loop-i : goal.invariant-loop-i
invariant-loop-i g l =
    let test = g.T.Test.fails l.test l.key in
    first (items_from test l.i (map view (drop l.i l.items))) ≡ first (items_from test 0 (map view l.items))
