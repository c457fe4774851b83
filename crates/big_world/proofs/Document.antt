-- The text of a world writes the document that the world is.
use Rattle.std.proofs.Common.{◌≡◌, ◌≤◌, ◌++◌, true, false, codes, List, ◌∷◌, map, ℕ, zero, suc, refl, arith, append_assoc}
use Rattle.std.specs.List.{range_with_len}
use Rattle.toml.specs.Data.{array, Data, Items, member, no_members, table}
use Rattle.toml.specs.Tables.{Expression}
use Rattle.toml.specs.Text.{are_tables, elements, expressions, has_items, IsDocumentText, IsLinesText, section}
use Rattle.big_world.specs.Numbers.{behind}
use Rattle.big_world.specs.Pieces.{ahead}
use Rattle.big_world.specs.declared.TheConstants.{ZONE}
use Rattle.big_world.specs.Topology.{ahead_of_groups, behind_group, group_text, node_text, nodes_of, topology_of}
use Rattle.big_world.specs.World.{array_of, group_data, groups_data, node_data, nodes_data, world_of, zone_data}
use Rattle.big_world.proofs.Blocks.{blocks_are_tables, blocks_at_start, blocks_lines, IsBlock}
use Rattle.big_world.proofs.GroupBlocks.{group_block, group_key}
use Rattle.big_world.proofs.Joined.{joined, texts_below_joined}
use Rattle.big_world.proofs.NodeBlocks.{node_block, node_key}
use Rattle.big_world.proofs.ZoneLines.{zone_key, zone_lines}

has_some : (data_at : ℕ → Data) (k : ℕ) → 1 ≤ k → has_items (array_of (map data_at (range_with_len 0 k))) ≡ true
has_some data_at zero h = absurd (omega arith)
has_some data_at (suc k) h = refl

-- the lines of the three tables
three_parts : (groups nodes : Items) → has_items groups ≡ true → are_tables groups ≡ true → has_items nodes ≡ true → are_tables nodes ≡ true
    → expressions (member (codes "group") (array groups) (member (codes "node") (array nodes) (member (codes "zone") (table zone_data) no_members)))
    ≡ elements group_key groups ++ (elements node_key nodes ++ section zone_key (table zone_data))
three_parts groups nodes some_groups tables some_nodes node_tables = rw (some_groups, tables, some_nodes, node_tables) refl

-- what stands ahead of group i
abbrev ahead_of_group : ℕ → ℕ → ℕ
ahead_of_group n i = ahead (behind_group n) (ahead_of_groups n) i

-- the groups and the nodes, and what each is in the text
abbrev group_at : ℕ → ℕ → Data
group_at n i = group_data n i (ahead_of_group n i)

abbrev node_at : ℕ → ℕ → Data
node_at n p = node_data p (behind n p)

abbrev group_text_at : ℕ → ℕ → List ℕ
group_text_at n i = group_text n i (ahead_of_group n i)

abbrev node_text_at : ℕ → ℕ → List ℕ
node_text_at n p = node_text p (behind n p)

groups_block : (n i : ℕ) → IsBlock group_key (group_at n i) (group_text_at n i)
groups_block n i = group_block n i (ahead_of_group n i)

nodes_block : (n p : ℕ) → IsBlock node_key (node_at n p) (node_text_at n p)
nodes_block n p = node_block p (behind n p)

-- the lines behind the groups
abbrev lines_behind : ℕ → List Expression
lines_behind n = elements node_key (array_of (nodes_data n)) ++ section zone_key (table zone_data)

-- the text from its front
from_front : (n : ℕ) → topology_of n ≡ joined (group_text_at n) 0 n ++ (joined (node_text_at n) 0 (nodes_of n) ++ ZONE.now)
from_front n =
    rw (texts_below_joined (group_text_at n) n, texts_below_joined (node_text_at n) (nodes_of n))
    (append_assoc (joined (group_text_at n) 0 n) (joined (node_text_at n) 0 (nodes_of n)) ZONE.now)

all_lines : (n : ℕ) → IsLinesText false true (elements group_key (array_of (groups_data n)) ++ lines_behind n) (10 ∷ topology_of n)
all_lines n =
    let nodes = blocks_lines node_key (node_at n) (node_text_at n) (nodes_block n) (section zone_key (table zone_data)) ZONE.now zone_lines 0 (nodes_of n) in
    let rest = joined (node_text_at n) 0 (nodes_of n) ++ ZONE.now in
    rw (from_front n) (blocks_lines group_key (group_at n) (group_text_at n) (groups_block n) (lines_behind n) rest nodes 0 n)

from_start : (n : ℕ) → 1 ≤ n → IsLinesText false true (elements group_key (array_of (groups_data n)) ++ lines_behind n) (10 ∷ topology_of n)
    → IsLinesText false false (elements group_key (array_of (groups_data n)) ++ lines_behind n) (topology_of n)
from_start zero some h = absurd (omega arith)
from_start (suc k) some h = let n = suc k in blocks_at_start group_key (group_at n) (group_text_at n) (groups_block n) (lines_behind n) (topology_of n) 0 k h

all_expressions : (n : ℕ) → 1 ≤ n → expressions (world_of n) ≡ elements group_key (array_of (groups_data n)) ++ lines_behind n
all_expressions n some =
    let groups_tables = blocks_are_tables group_key (group_at n) (group_text_at n) (groups_block n) 0 n in
    let nodes_tables = blocks_are_tables node_key (node_at n) (node_text_at n) (nodes_block n) 0 (nodes_of n) in
    three_parts (array_of (groups_data n)) (array_of (nodes_data n)) (has_some (group_at n) n some) groups_tables (has_some (node_at n) (nodes_of n) (omega arith)) nodes_tables

-- the text writes the document
pub world_text : (n : ℕ) → 1 ≤ n → IsDocumentText false (world_of n) (topology_of n)
world_text n some = rw (all_expressions n some) (from_start n some (all_lines n))
