-- The tables of a big world's topology, in the order in which they are looked at.
use Rattle.std.proofs.Common.{ℕ, List, ◌∷◌, ◌++◌}
use Rattle.std.specs.Prelude.{map}
use Rattle.std.specs.List.{range_with_len}
use Rattle.toml.specs.Data.{Data, table, Members, no_members}
use Rattle.topology_text.specs.Walk.{Visit}
use Rattle.topology_text.specs.declared.schema.Spot.TheVariants.{Top, ZoneTable, NodeTable, GroupTable}
use Rattle.big_world.specs.Numbers.{behind}
use Rattle.big_world.specs.Pieces.{ahead}
use Rattle.big_world.specs.Topology.{ahead_of_groups, behind_group, nodes_of}
use Rattle.big_world.specs.World.{group_data, node_data, world_of, zone_data}

-- the members of a table
abbrev pub members_of : Data → Members
members_of (table ms) = ms
members_of _ = no_members

-- node p and group i as they stand in the document
abbrev pub node_entry : ℕ → ℕ → Data
node_entry n p = node_data p (behind n p)

abbrev pub group_entry : ℕ → ℕ → Data
group_entry n i = group_data n i (ahead (behind_group n) (ahead_of_groups n) i)

-- where each stands
abbrev pub top_visit : ℕ → Visit
top_visit n = record { spot = Top; members = world_of n }

abbrev pub zone_visit : Visit
zone_visit = record { spot = ZoneTable; members = zone_data }

abbrev pub node_visit : ℕ → ℕ → Visit
node_visit n p = record { spot = NodeTable p; members = members_of (node_entry n p) }

abbrev pub group_visit : ℕ → ℕ → Visit
group_visit n i = record { spot = GroupTable i; members = members_of (group_entry n i) }

-- all of them
abbrev pub visits : ℕ → List Visit
visits n = top_visit n ∷ zone_visit ∷ map (node_visit n) (range_with_len 0 (nodes_of n)) ++ map (group_visit n) (range_with_len 0 n)
