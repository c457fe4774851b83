-- The walk over a big world's topology, and its entries.
use Rattle.std.proofs.Common.{◌≡◌, ℕ, zero, suc, ◌+◌, append-nil, Bool, true, false, List, [], ◌∷◌, ◌++◌, map, Some, if◌then◌else◌, ◌==◌, ◌%◌, refl, ap, ◌∙◌}
use Rattle.std.specs.List.{cons_option, range_with_len}
use Rattle.toml.specs.Data.{Data, table}
use Rattle.topology_text.specs.Names.{Entries, entries_of}
use Rattle.topology_text.specs.Walk.{Visit, entries_from, entry_spot, items_at, visit_of, walk}
use Rattle.topology_text.specs.declared.schema.Key.{Key}
use Rattle.topology_text.specs.declared.schema.Key.TheVariants.{Group, Node}
use Rattle.big_world.specs.Topology.{nodes_of}
use Rattle.big_world.specs.World.{entry_data, group_data, groups_data, node_data, nodes_data, pool_data, region_data, world_of, zone_data}
use Rattle.big_world_read.proofs.Numbered.{listed_again}
use Rattle.big_world_read.proofs.Visits.{group_entry, group_visit, members_of, node_entry, node_visit, top_visit, visits, zone_visit}

-- one of two tables is a table
one_is_table : (b : Bool) (c d : Data) → c ≡ table (members_of c) → d ≡ table (members_of d) → (if b then c else d) ≡ table (members_of (if b then c else d))
one_is_table true c d p q = p
one_is_table false c d p q = q

-- each node and each group is a table
pub node_is_table : (n p : ℕ) → node_entry n p ≡ table (members_of (node_entry n p))
unfolding node_data region_data pool_data
node_is_table n p = one_is_table (p % 5 == 0) _ _ refl refl

pub group_is_table : (n i : ℕ) → group_entry n i ≡ table (members_of (group_entry n i))
unfolding group_data entry_data
group_is_table n i = refl

-- the visits of tables that are made number by number
visits_from : (key : Key) (f : ℕ → Data) → ((p : ℕ) → f p ≡ table (members_of (f p))) → (a k : ℕ)
    → entries_from key a (map f (range_with_len a k)) ≡ map (λ p. record { spot = entry_spot key p; members = members_of (f p) }) (range_with_len a k)
visits_from key f is a zero = refl
visits_from key f is a (suc k) =
    ap (λ (d : Data). cons_option (visit_of (entry_spot key a) d) (entries_from key (a + 1) (map f (range_with_len (a + 1) k)))) (is a)
    ∙ ap (λ (vs : List Visit). record { spot = entry_spot key a; members = members_of (f a) } ∷ vs) (visits_from key f is (a + 1) k)

pub nodes_are : (n : ℕ) → items_at (world_of n) Node ≡ nodes_data n
nodes_are n = listed_again (nodes_data n)

pub groups_are : (n : ℕ) → items_at (world_of n) Group ≡ groups_data n
groups_are n = listed_again (groups_data n)

node_visits : (n : ℕ) → entries_from Node 0 (items_at (world_of n) Node) ≡ map (node_visit n) (range_with_len 0 (nodes_of n))
node_visits n = ap (λ (ds : List Data). entries_from Node 0 ds) (nodes_are n) ∙ visits_from Node (node_entry n) (node_is_table n) 0 (nodes_of n)

group_visits : (n : ℕ) → entries_from Group 0 (items_at (world_of n) Group) ≡ map (group_visit n) (range_with_len 0 n)
group_visits n = ap (λ (ds : List Data). entries_from Group 0 ds) (groups_are n) ∙ visits_from Group (group_entry n) (group_is_table n) 0 n

-- the walk
pub walked : (n : ℕ) → walk (world_of n) ≡ visits n
walked n = (λ i. top_visit n ∷ (zone_visit ∷ ((node_visits n i ++ group_visits n i) ++ []))) ∙ append-nil (visits n)

-- the entries
abbrev pub world_entries : ℕ → Entries
world_entries n = record { nodes = nodes_data n; groups = groups_data n; classes = []; zone = Some zone_data }

pub entries_are : (n : ℕ) → entries_of (world_of n) ≡ world_entries n
entries_are n = λ i. record { nodes = nodes_are n i; groups = groups_are n i; classes = []; zone = Some zone_data }
