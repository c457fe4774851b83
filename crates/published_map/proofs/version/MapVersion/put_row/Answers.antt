use Rattle.std.proofs.Common.{◌<◌, length, arith, sym, subst, ◌∙◌, ap}
use Rattle.std.specs.Arc.{arc_value}
use Rattle.published_map.specs.Version.{Version}
use Rattle.published_map.specs.Shared.{plan_of}
use Rattle.published_map.specs.Kept.{version}
use Rattle.published_map.proofs.Rows.{length-demands}
use Rattle.published_map.proofs.Changes.{row_put}
use Rattle.published_map.proofs.version.MapVersion.put_row.Goals as goal

pub index_mut-own-requires : goal.index_mut-own-requires
index_mut-own-requires c =
    let lt : c.args.group.0 < length (version c.self.inside).market.groups = subst (λ (v : Version). c.args.group.0 < length v.market.groups) (sym c.self.view_is) c.requires in
    omega (arith, lt, length-demands (plan_of (arc_value c.self.inside.shared)).market.groups c.self.inside.rows.items, c.self.invariant.rows)

pub returns-clause-put : goal.returns-clause-put
returns-clause-put c =
    let lt : c.args.group.0 < length (version c.self.inside).market.groups = subst (λ (v : Version). c.args.group.0 < length v.market.groups) (sym c.self.view_is) c.requires in
    let inside : c.args.group.0 < length c.self.inside.rows.items = omega (arith, lt, length-demands (plan_of (arc_value c.self.inside.shared)).market.groups c.self.inside.rows.items, c.self.invariant.rows) in
    rw (c.copy_over.ensures, ← c.self.view_is) (row_put c.self.inside.serial (plan_of (arc_value c.self.inside.shared)).market (plan_of (arc_value c.self.inside.shared)) c.self.inside.rows.items c.self.inside.capacities.items c.args.group c.args.row.now inside c.self.invariant.rows)

pub returns-clause-groups : goal.returns-clause-groups
returns-clause-groups c =
    let gs = (plan_of (arc_value c.self.inside.shared)).market.groups in
    length-demands gs _ ∙ (sym (length-demands gs c.self.inside.rows.items) ∙ ap (λ (v : Version). length v.market.groups) c.self.view_is)
