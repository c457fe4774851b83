use Rattle.std.proofs.Common.{All, map, subst, sym}
use Rattle.toml.specs.View.{view}
use Rattle.topology_text.specs.Code.{entries}
use Rattle.topology_text.specs.Topology.{IsSoundGroup}
use Rattle.topology_text.proofs.SoundClasses.{units_first, units_rest}
use Rattle.topology_text.proofs.build.group_rows.Goals as goal

pub push_rows-requires-clause-each : goal.push_rows-requires-clause-each
push_rows-requires-clause-each c =
    let d = entries c.args.index.now in
    subst (λ vs. All (λ e. IsSoundGroup d.nodes e) (map view vs)) (sym c.groups.ensures) (units_first (IsSoundGroup d.nodes) d.groups d.classes c.requires.groups)

pub push_rows-requires-2-clause-each : goal.push_rows-requires-2-clause-each
push_rows-requires-2-clause-each c =
    let d = entries c.args.index.now in
    subst (λ vs. All (λ e. IsSoundGroup d.nodes e) (map view vs)) (sym c.classes.ensures) (units_rest (IsSoundGroup d.nodes) d.groups d.classes c.requires.groups)
