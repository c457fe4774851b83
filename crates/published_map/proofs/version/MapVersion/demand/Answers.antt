use Rattle.std.proofs.Common.{◌<◌, length, arith, sym, subst, ◌∙◌, ap}
use Rattle.std.specs.Arc.{arc_value}
use Rattle.published_map.specs.Version.{Version}
use Rattle.published_map.specs.Shared.{plan_of}
use Rattle.published_map.specs.Kept.{version}
use Rattle.published_map.proofs.Rows.{length-demands, demand_at}
use Rattle.published_map.proofs.version.MapVersion.demand.Goals as goal

pub index-requires : goal.index-requires
index-requires c =
    let lt : c.args.group.0 < length (version c.self.inside).market.groups = subst (λ (v : Version). c.args.group.0 < length v.market.groups) (sym c.self.view_is) c.requires in
    omega (arith, lt, length-demands (plan_of (arc_value c.self.inside.shared)).market.groups c.self.inside.rows.items, c.self.invariant.rows)

pub returns : goal.returns
returns c =
    let gs = (plan_of (arc_value c.self.inside.shared)).market.groups in
    let lt : c.args.group.0 < length (version c.self.inside).market.groups = subst (λ (v : Version). c.args.group.0 < length v.market.groups) (sym c.self.view_is) c.requires in
    let inside : c.args.group.0 < length c.self.inside.rows.items = omega (arith, lt, length-demands gs c.self.inside.rows.items, c.self.invariant.rows) in
    rw (← c.self.view_is) (ap (λ r. r.demand) c.index.ensures ∙ sym (demand_at gs c.self.inside.rows.items c.args.group.0 _ _ inside c.self.invariant.rows))
