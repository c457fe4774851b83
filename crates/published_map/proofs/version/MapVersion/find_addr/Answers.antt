use Rattle.std.specs.Arc.{arc_value}
use Rattle.published_map.specs.Shared.{plan_of}
use Rattle.published_map.proofs.version.MapVersion.find_addr.Goals as goal
use Rattle.published_map.proofs.Owned.{owned}

pub returns-clause-there : goal.returns-clause-there
returns-clause-there c = rw (← c.self.view_is) (owned (plan_of (arc_value c.self.inside.shared)) c.self.inside.rows.items c.args.addr c.find.result.0 c.recall_plan.ensures (rw (← c.self.invariant.looks_up, ← c.deref-shared.ensures) c.find.ensures.longest))
