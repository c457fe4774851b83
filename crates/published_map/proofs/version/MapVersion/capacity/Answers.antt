use Rattle.std.proofs.Common.{◌<◌, length, arith, sym, subst, ◌∙◌}
use Rattle.std.specs.Arc.{arc_value}
use Rattle.published_map.specs.Version.{Version}
use Rattle.published_map.specs.Shared.{plan_of}
use Rattle.published_map.specs.Kept.{version}
use Rattle.published_map.proofs.Rows.{length-capacities, capacity_at}
use Rattle.published_map.proofs.version.MapVersion.capacity.Goals as goal

pub index-requires : goal.index-requires
index-requires c =
    let lt : c.args.node.0 < length (version c.self.inside).market.nodes = subst (λ (v : Version). c.args.node.0 < length v.market.nodes) (sym c.self.view_is) c.requires in
    omega (arith, lt, length-capacities (plan_of (arc_value c.self.inside.shared)).market.nodes c.self.inside.capacities.items, c.self.invariant.capacities)

pub returns : goal.returns
returns c =
    let ns = (plan_of (arc_value c.self.inside.shared)).market.nodes in
    let lt : c.args.node.0 < length (version c.self.inside).market.nodes = subst (λ (v : Version). c.args.node.0 < length v.market.nodes) (sym c.self.view_is) c.requires in
    let inside : c.args.node.0 < length c.self.inside.capacities.items = omega (arith, lt, length-capacities ns c.self.inside.capacities.items, c.self.invariant.capacities) in
    rw (← c.self.view_is) (c.index.ensures ∙ sym (capacity_at ns c.self.inside.capacities.items c.args.node.0 _ _ inside c.self.invariant.capacities))
