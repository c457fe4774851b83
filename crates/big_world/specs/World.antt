-- The topology of a world of n groups, as what its document holds.
use Rattle.std.specs.Prelude.{ℕ, ◌+◌, ◌-◌, ◌/◌, ◌%◌, ◌==◌, pos, true, List, [], ◌∷◌, map, codes, if◌then◌else◌}
use Rattle.std.specs.List.{range_with_len}
use Rattle.toml.specs.Data.{Data, string, integer, boolean, array, table, Items, no_items, item, Members, no_members, member}
use Rattle.big_world.specs.Numbers.{behind, draw}
use Rattle.big_world.specs.Pieces.{ahead}
use Rattle.big_world.specs.Topology.{ahead_of_groups, behind_group, block_text, capacity_of, group_name, host_text, length_at, listed_pool, name_of_pool, nodes_of, pool_name, pools_of, region_name, score_at}

-- the items of an array
abbrev pub array_of : List Data → Items
array_of [] = no_items
array_of (d ∷ ds) = item d (array_of ds)

-- region i of that capacity
unfoldable pub region_data : ℕ → ℕ → Data
region_data i capacity = table (
    member (codes "capacity") (integer (pos capacity)) (
    member (codes "name") (string (region_name i))
    no_members))

-- pool j of it
unfoldable pub pool_data : ℕ → ℕ → ℕ → Data
pool_data i j capacity = table (
    member (codes "a") (array (array_of (string (host_text i j) ∷ []))) (
    member (codes "capacity") (integer (pos capacity)) (
    member (codes "name") (string (pool_name i j)) (
    member (codes "parent") (string (region_name i)) (
    member (codes "pool") (boolean true)
    no_members)))))

-- node p, drawn behind x
unfoldable pub node_data : ℕ → ℕ → Data
node_data p x = if p % 5 == 0 then region_data (p / 5) (capacity_of p x) else pool_data (p / 5) (p % 5 - 1) (capacity_of p x)

-- the pools of a list from pool s on, and their scores, drawn behind x
abbrev pub pools_data : ℕ → ℕ → ℕ → List Data
pools_data n s length = map (λ t. string (name_of_pool (listed_pool n s t))) (range_with_len 0 length)

abbrev pub scores_data : ℕ → ℕ → List Data
scores_data x length = map (λ t. integer (pos (score_at x t))) (range_with_len 0 length)

-- the prefixes of group i: those that hold every address, or one of 256 addresses
unfoldable pub prefixes_data : ℕ → List Data
prefixes_data i = if i == 0 then string (codes "0.0.0.0/0") ∷ string (codes "::/0") ∷ [] else string (block_text i) ∷ []

-- group i with that demand, a list of that length from pool s on, and scores drawn behind x
unfoldable pub entry_data : ℕ → ℕ → ℕ → ℕ → ℕ → ℕ → Data
entry_data n i demand s length x = table (
    member (codes "demand") (integer (pos demand)) (
    member (codes "name") (string (group_name i)) (
    member (codes "pools") (array (array_of (pools_data n s length))) (
    member (codes "prefixes") (array (array_of (prefixes_data i))) (
    member (codes "scores") (array (array_of (scores_data x length)))
    no_members)))))

-- group i, drawn behind x
unfoldable pub group_data : ℕ → ℕ → ℕ → Data
group_data n i x = entry_data n i (1 + draw x 1 15) (draw x 3 (pools_of n)) (length_at n x) (behind x 3)

-- the nodes and the groups
abbrev pub nodes_data : ℕ → List Data
nodes_data n = map (λ p. node_data p (behind n p)) (range_with_len 0 (nodes_of n))

abbrev pub groups_data : ℕ → List Data
groups_data n = map (λ i. group_data n i (ahead (behind_group n) (ahead_of_groups n) i)) (range_with_len 0 n)

-- the zone
abbrev pub zone_data : Members
zone_data =
    member (codes "apex") (string (codes "cdn.example")) (
    member (codes "expire") (integer (pos 86400)) (
    member (codes "minimum") (integer (pos 60)) (
    member (codes "mname") (string (codes "ns1.ops.example")) (
    member (codes "ns") (array (array_of (string (codes "ns1.ops.example") ∷ string (codes "ns2.ops.example") ∷ []))) (
    member (codes "refresh") (integer (pos 3600)) (
    member (codes "retry") (integer (pos 600)) (
    member (codes "rname") (string (codes "admin.ops.example")) (
    member (codes "serial") (integer (pos 1)) (
    member (codes "services") (array (array_of (string (codes "www") ∷ []))) (
    member (codes "ttl") (integer (pos 20))
    no_members))))))))))

-- the document
abbrev pub world_of : ℕ → Members
world_of n =
    member (codes "group") (array (array_of (groups_data n))) (
    member (codes "node") (array (array_of (nodes_data n))) (
    member (codes "zone") (table zone_data)
    no_members))
