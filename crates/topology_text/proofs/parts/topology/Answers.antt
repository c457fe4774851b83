use Rattle.std.proofs.Common.{◌≡◌, ◌≤◌, ◌∙◌, ap, arith, length, map, subst, sym}
use Rattle.std.proofs.lemmas.List.{length-append}
use Rattle.toml.specs.View.{view}
use Rattle.topology_text.specs.Code.{entries}
use Rattle.topology_text.specs.Names.{units_of}
use Rattle.topology_text.specs.Plan.{IsPlan, Plan}
use Rattle.topology_text.specs.Topology.{hosts_of, name_of, plan_of, zone_of}
use Rattle.topology_text.proofs.Plans.{owners_fit, plan_good, plan_same}
use Rattle.topology_text.proofs.parts.topology.Goals as goal

pub owned-requires : goal.owned-requires
owned-requires c =
    let d = entries c.args.index.now in
    let few : length (units_of d) ≤ 65536 = c.requires.sound.few_groups in
    owners_fit c.args.prefixes.now _ c.requires.prefixes (omega (arith, few, length-append d.groups d.classes))

pub from_parts-requires : goal.from_parts-requires
from_parts-requires c =
    let made : Plan = record {
      market = c.in_ok-instance.instance;
      zone = c.in_ok-zone.zone;
      node_names = map (λ v. v.items) c.in_ok-node_names.node_names.keys;
      group_names = map (λ v. v.items) c.in_ok-group_names.group_names.keys;
      classes = c.in_ok-classes.classes;
      prefixes = c.in_ok-owned.owned.items;
      addresses = c.in_ok-hosts.hosts.items;
    } in
    let same : made ≡ plan_of (entries c.args.index.now) c.args.prefixes.now =
    plan_same (entries c.args.index.now) c.args.prefixes.now _ _ _ _ _ _ _ c.in_ok-instance.ensures (c.in_ok-zone.ensures ∙ ap zone_of c.zone.ensures)
    (c.in_ok-node_names.ensures ∙ ap (λ vs. map name_of (map view vs)) c.nodes.ensures)
    c.in_ok-group_names.ensures
    c.in_ok-classes.ensures
    c.in_ok-owned.ensures
    (c.in_ok-hosts.ensures ∙ ap (λ vs. map hosts_of (map view vs)) c.nodes-2.ensures) in
    subst IsPlan (sym same) (plan_good (entries c.args.index.now) c.args.prefixes.now c.requires.sound c.requires.prefixes)
