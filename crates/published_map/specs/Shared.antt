-- What all versions of one topology share.
use Rattle.std.specs.Prelude.{◌≡◌}
use Rattle.std.specs.Arc.{arc_value}
use Rattle.topology_text.specs.Plan.{Plan}
use Rattle.published_map.specs.declared.shared.Shared.{Shared}

-- the topology
abbrev pub plan_of : Shared → Plan
plan_of s = arc_value s.topology

-- the lookup is that of the topology's prefixes
abbrev pub LooksUp : Shared → Type 0
LooksUp s = s.lookup ≡ (plan_of s).prefixes
