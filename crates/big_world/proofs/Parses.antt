-- The text of a world is read as the document that the world is.
use Rattle.std.proofs.Common.{◌≡◌, ◌+◌, ◌%◌, ◌/◌, ◌-◌, ◌≤◌, ◌==◌, if◌then◌else◌, Bool, true, false, codes, pos, Some, [], ◌∷◌, map, ℕ, zero, suc, refl, arith}
use Rattle.std.proofs.lemmas.Bool.{and_from}
use Rattle.std.specs.List.{range_with_len}
use Rattle.toml.specs.Data.{Data, depth, has_valid_dates, integer, is_sorted, Items, items_are_sorted, items_depth, items_have_valid_dates, string, members_are_sorted, members_depth, members_have_valid_dates}
use Rattle.toml.specs.Parse.{parse_document}
use Rattle.toml.proofs.ReadBack.{parse_document-printed}
use Rattle.big_world.specs.Numbers.{behind, draw}
use Rattle.big_world.specs.Pieces.{ahead}
use Rattle.big_world.specs.Topology.{ahead_of_groups, behind_group, block_text, capacity_of, length_at, listed_pool, name_of_pool, nodes_of, pools_of, score_at, topology_of}
use Rattle.big_world.specs.World.{array_of, entry_data, group_data, node_data, pool_data, pools_data, prefixes_data, region_data, scores_data, world_of}
use Rattle.big_world.proofs.Document.{world_text}

-- the items nest so deep at most, their dates are valid, and their keys ascend
abbrev IsSound : ℕ → Data → Type 0
IsSound most d = (depth d ≤ most) × (has_valid_dates d ≡ true) × (is_sorted d ≡ true)

abbrev AreSound : ℕ → Items → Type 0
AreSound most ds = (items_depth ds ≤ most) × (items_have_valid_dates ds ≡ true) × (items_are_sorted ds ≡ true)

sound_items : (most : ℕ) (data_at : ℕ → Data) → ((i : ℕ) → IsSound most (data_at i)) → (a k : ℕ) → AreSound most (array_of (map data_at (range_with_len a k)))
sound_items most data_at sound a zero = (omega arith, refl, refl)
sound_items most data_at sound a (suc k) =
    let (shallow, valid, sorted) = sound a in
    let (rest_shallow, rest_valid, rest_sorted) = sound_items most data_at sound (a + 1) k in
    (omega arith, and_from _ _ valid rest_valid, and_from _ _ sorted rest_sorted)

sound_pools : (n s length : ℕ) → AreSound 0 (array_of (pools_data n s length))
sound_pools n s length = sound_items 0 (λ t. string (name_of_pool (listed_pool n s t))) (λ t. (omega arith, refl, refl)) 0 length

sound_scores : (x length : ℕ) → AreSound 0 (array_of (scores_data x length))
sound_scores x length = sound_items 0 (λ t. integer (pos (score_at x t))) (λ t. (omega arith, refl, refl)) 0 length

sound_prefixes : (i : ℕ) → AreSound 0 (array_of (prefixes_data i))
unfolding prefixes_data
sound_prefixes i = by (i == 0)
  where
    by : (b : Bool) → AreSound 0 (array_of (if b then string (codes "0.0.0.0/0") ∷ string (codes "::/0") ∷ [] else string (block_text i) ∷ []))
    by true = (omega arith, refl, refl)
    by false = (omega arith, refl, refl)

sound_entry : (n i demand s length x : ℕ) → IsSound 2 (entry_data n i demand s length x)
unfolding entry_data
sound_entry n i demand s length x =
    let (pools_depth, pools_valid, pools_sorted) = sound_pools n s length in
    let (prefixes_depth, prefixes_valid, prefixes_sorted) = sound_prefixes i in
    let (scores_depth, scores_valid, scores_sorted) = sound_scores x length in
    (omega arith, rw (pools_valid, prefixes_valid, scores_valid) refl, rw (pools_sorted, prefixes_sorted, scores_sorted) refl)

sound_group : (n i x : ℕ) → IsSound 2 (group_data n i x)
unfolding group_data
sound_group n i x = sound_entry n i (1 + draw x 1 15) (draw x 3 (pools_of n)) (length_at n x) (behind x 3)

sound_node : (p x : ℕ) → IsSound 2 (node_data p x)
unfolding node_data region_data pool_data
sound_node p x = by (p % 5 == 0)
  where
    by : (b : Bool) → IsSound 2 (if b then region_data (p / 5) (capacity_of p x) else pool_data (p / 5) (p % 5 - 1) (capacity_of p x))
    by true = (omega arith, refl, refl)
    by false = (omega arith, refl, refl)

-- the text of a world is read as its document
pub parses : (n : ℕ) → 1 ≤ n → parse_document (topology_of n) ≡ Some (world_of n)
parses n some =
    let (groups_depth, groups_valid, groups_sorted) = sound_items 2 (λ i. group_data n i (ahead (behind_group n) (ahead_of_groups n) i)) (λ i. sound_group n i (ahead (behind_group n) (ahead_of_groups n) i)) 0 n in
    let (nodes_depth, nodes_valid, nodes_sorted) = sound_items 2 (λ p. node_data p (behind n p)) (λ p. sound_node p (behind n p)) 0 (nodes_of n) in
    let shallow : members_depth (world_of n) ≤ 80 = omega arith in
    let valid : members_have_valid_dates (world_of n) ≡ true = rw (groups_valid, nodes_valid) refl in
    let sorted : members_are_sorted (world_of n) ≡ true = rw (groups_sorted, nodes_sorted) refl in
    parse_document-printed false (world_of n) (topology_of n) (world_text n some) shallow valid sorted
