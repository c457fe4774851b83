use Rattle.std.proofs.Common.{◌<◌, length, arith, sym, subst, ◌∙◌, ap}
use Rattle.std.specs.Arc.{arc_value}
use Rattle.published_map.specs.Version.{Version}
use Rattle.published_map.specs.Shared.{plan_of}
use Rattle.published_map.specs.Kept.{version}
use Rattle.published_map.proofs.Rows.{length-capacities}
use Rattle.published_map.proofs.Changes.{node_put}
use Rattle.published_map.proofs.version.MapVersion.put_node.Goals as goal

pub index_mut-requires : goal.index_mut-requires
index_mut-requires c =
    let lt : c.args.node.0 < length (version c.self.inside).market.nodes = subst (λ (v : Version). c.args.node.0 < length v.market.nodes) (sym c.self.view_is) c.requires in
    omega (arith, lt, length-capacities (plan_of (arc_value c.self.inside.shared)).market.nodes c.self.inside.capacities.items, c.self.invariant.capacities)

pub returns-clause-put : goal.returns-clause-put
returns-clause-put c =
    let lt : c.args.node.0 < length (version c.self.inside).market.nodes = subst (λ (v : Version). c.args.node.0 < length v.market.nodes) (sym c.self.view_is) c.requires in
    let inside : c.args.node.0 < length c.self.inside.capacities.items = omega (arith, lt, length-capacities (plan_of (arc_value c.self.inside.shared)).market.nodes c.self.inside.capacities.items, c.self.invariant.capacities) in
    rw (← c.self.view_is) (node_put c.self.inside.serial (plan_of (arc_value c.self.inside.shared)).market (plan_of (arc_value c.self.inside.shared)) c.self.inside.rows.items c.self.inside.capacities.items c.args.node c.args.capacity inside c.self.invariant.capacities)

pub returns-clause-nodes : goal.returns-clause-nodes
returns-clause-nodes c =
    let ns = (plan_of (arc_value c.self.inside.shared)).market.nodes in
    length-capacities ns _ ∙ (sym (length-capacities ns c.self.inside.capacities.items) ∙ ap (λ (v : Version). length v.market.nodes) c.self.view_is)
