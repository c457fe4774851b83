use Rattle.std.proofs.Common.{length, arith, ap}
use Rattle.std.specs.Arc.{arc_value}
use Rattle.published_map.specs.Shared.{plan_of}
use Rattle.published_map.specs.Version.{Version}
use Rattle.published_map.proofs.Rows.{length-capacities}
use Rattle.published_map.proofs.version.MapVersion.nodes.Goals as goal

pub returns : goal.returns
returns c = omega (arith, c.len.ensures, c.self.invariant.capacities, length-capacities (plan_of (arc_value c.self.inside.shared)).market.nodes c.self.inside.capacities.items, ap (λ (v : Version). length v.market.nodes) c.self.view_is)
