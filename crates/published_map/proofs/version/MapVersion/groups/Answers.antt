use Rattle.std.proofs.Common.{length, arith, ap}
use Rattle.std.specs.Arc.{arc_value}
use Rattle.published_map.specs.Shared.{plan_of}
use Rattle.published_map.specs.Version.{Version}
use Rattle.published_map.proofs.Rows.{length-demands}
use Rattle.published_map.proofs.version.MapVersion.groups.Goals as goal

pub returns : goal.returns
returns c = omega (arith, c.len.ensures, c.self.invariant.rows, length-demands (plan_of (arc_value c.self.inside.shared)).market.groups c.self.inside.rows.items, ap (λ (v : Version). length v.market.groups) c.self.view_is)
