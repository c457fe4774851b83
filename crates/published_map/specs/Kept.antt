-- What a kept version stands for, and what is always so of it.
use Rattle.std.specs.Prelude.{◌≡◌, length}
use Rattle.std.specs.Arc.{arc_value}
use Rattle.published_map.specs.declared.version.MapVersion.TheInside.{Inside}
use Rattle.published_map.specs.Shared.{LooksUp, plan_of}
use Rattle.published_map.specs.Version.{Version}
use Rattle.published_map.specs.Rows.{version_of}

abbrev pub version : Inside → Version
version a = version_of a.serial (plan_of (arc_value a.shared)) a.rows.items a.capacities.items

-- there is a row for each group and a capacity for each node, and the lookup is that of the topology's prefixes
pub record IsKept (a : Inside) : Type 0 where
  pub rows : length a.rows.items ≡ length (plan_of (arc_value a.shared)).market.groups
  pub capacities : length a.capacities.items ≡ length (plan_of (arc_value a.shared)).market.nodes
  pub looks_up : LooksUp (arc_value a.shared)
