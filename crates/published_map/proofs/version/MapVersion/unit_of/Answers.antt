use Rattle.std.proofs.Common.{◌≡◌, ap, arith, length, subst}
use Rattle.std.specs.Arc.{arc_value}
use Rattle.topology_text.specs.Plan.{Plan}
use Rattle.published_map.specs.Kept.{version}
use Rattle.published_map.specs.Shared.{plan_of}
use Rattle.published_map.specs.Version.{Version}
use Rattle.published_map.proofs.Rows.{length-demands}
use Rattle.published_map.proofs.version.MapVersion.unit_of.Goals as goal

pub unit_of-requires : goal.unit_of-requires
unit_of-requires c =
    let gs = (plan_of (arc_value c.self.inside.shared)).market.groups in
    let kept : length (version c.self.inside).market.groups ≡ length (version c.self.inside).plan.market.groups = length-demands gs c.self.inside.rows.items in
    let as_many : length c.args.self.now.market.groups ≡ length c.args.self.now.plan.market.groups = subst (λ (w : Version). length w.market.groups ≡ length w.plan.market.groups) c.self.view_is kept in
    let topology : length c.topology.result.now.market.groups ≡ length c.args.self.now.plan.market.groups = ap (λ (p : Plan). length p.market.groups) c.topology.ensures in
    let own = c.requires in
    omega (arith, own, as_many, topology)

pub returns-clause-there : goal.returns-clause-there
returns-clause-there c =
    let gs = (plan_of (arc_value c.self.inside.shared)).market.groups in
    let kept : length (version c.self.inside).market.groups ≡ length (version c.self.inside).plan.market.groups = length-demands gs c.self.inside.rows.items in
    let as_many : length c.args.self.now.market.groups ≡ length c.args.self.now.plan.market.groups = subst (λ (w : Version). length w.market.groups ≡ length w.plan.market.groups) c.self.view_is kept in
    let topology : length c.topology.result.now.market.groups ≡ length c.args.self.now.plan.market.groups = ap (λ (p : Plan). length p.market.groups) c.topology.ensures in
    let low = c.unit_of.ensures.there in
    omega (arith, low, as_many, topology)
