use Rattle.std.proofs.Common.{subst, refl, ◌<◌, map, length, arith}
use Rattle.std.proofs.lemmas.List.{length-map}
use Rattle.toml.specs.Data.{boolean}
use Rattle.std.proofs.Common.{false}
use Rattle.toml.specs.View.{view}
use Rattle.topology_text.specs.Topology.{IsSoundGroup}
use Rattle.topology_text.proofs.Rows.{entry_is}
use Rattle.topology_text.proofs.build.push_rows.Goals as goal

pub group_row-requires-clause-group : goal.group_row-requires-clause-group
group_row-requires-clause-group c =
    let units = c.args.units.now in
    let i = c.loop-entry.entry-index in
    let l2 : i < length (map view units) = omega (arith, c.loop-entry-test.true, length-map units view) in
    subst (λ e. IsSoundGroup (map view c.args.index.now.nodes.now) e) (entry_is units units i c.entry-item.result refl c.entry-item.is c.loop-entry-test.true) (c.requires.each i (boolean false) l2)
