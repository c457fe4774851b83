-- What changes from one version to another.
use Rattle.std.specs.Prelude.{ℕ, ◌≡◌, ◌≢◌, ◌<◌, length, All, AllPairs}
use Rattle.map_model.specs.declared.instance.GroupId.{GroupId}
use Rattle.map_model.specs.declared.instance.NodeId.{NodeId}
use Rattle.map_model.specs.Market.{capacity_of}
use Rattle.published_map.specs.declared.row.GroupRow.{GroupRow}
use Rattle.published_map.specs.declared.delta.Delta.{Delta}
use Rattle.published_map.specs.Rows.{row_of}
use Rattle.published_map.specs.Version.{Version}
use Rattle.published_map.specs.Changes.{after}

-- the row of a group of a version
abbrev pub row_in : Version → ℕ → GroupRow
row_in v g = row_of v.market v.lines v.names g

-- the group is there, its row is the new one, and that is not the old one
abbrev pub IsChangedRow : Version → Version → GroupId × GroupRow → Type 0
IsChangedRow old new r = (r.0.0 < length old.market.groups) × (r.1 ≡ row_in new r.0.0) × (r.1 ≢ row_in old r.0.0)

-- the node is there, its capacity is the new one, and that is not the old one
abbrev pub IsChangedNode : Version → Version → NodeId × ℕ → Type 0
IsChangedNode old new n = (n.0.0 < length old.market.nodes) × (n.1 ≡ capacity_of new.market n.0.0) × (n.1 ≢ capacity_of old.market n.0.0)

-- the delta leads from one version to another, and lists by rising number groups whose row differs and nodes whose capacity differs alone; so none of these is missing
pub record IsBetween (old new : Version) (d : Delta) : Type 0 where
  pub base : d.base ≡ old.serial
  pub leads : after old d ≡ new
  pub rows : All (IsChangedRow old new) d.groups.items
  pub nodes : All (IsChangedNode old new) d.nodes.items
  pub rows_rise : AllPairs (λ r s. r.0.0 < s.0.0) d.groups.items
  pub nodes_rise : AllPairs (λ n o. n.0.0 < o.0.0) d.nodes.items
