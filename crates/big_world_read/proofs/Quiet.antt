-- A rule that finds nothing at any key of a big world's tables finds nothing on the walk.
use Rattle.std.proofs.Common.{◌≡◌, ℕ, ◌+◌, ◌<◌, List, [], ◌∷◌, length, map, refl, sym, ◌∙◌, arith}
use Rattle.std.proofs.lemmas.List.{length-append, nil_from_length}
use Rattle.std.specs.List.{AllByRecursion, flat_map, range_with_len}
use Rattle.topology_text.specs.Schema.{keys_of}
use Rattle.topology_text.specs.Walk.{Visit, places_at, places_in, places_of}
use Rattle.topology_text.specs.declared.schema.At.{At}
use Rattle.topology_text.specs.declared.schema.Key.{Key}
use Rattle.big_world.specs.Topology.{nodes_of}
use Rattle.big_world_read.proofs.Numbered.{all_append, all_range, both_empty, flat_empty, map_empty}
use Rattle.big_world_read.proofs.Visits.{group_visit, node_visit, top_visit, visits, zone_visit}

-- nothing at any key of a table
abbrev pub IsQuiet : (Visit → Key → List At) → Visit → Type 0
IsQuiet finds v = AllByRecursion (λ k. finds v k ≡ []) (keys_of v.spot)

-- which is so where what it finds comes to nothing
quiet_from : (finds : Visit → Key → List At) (v : Visit) (ks : List Key) → length (flat_map (finds v) ks) ≡ 0 → AllByRecursion (λ k. finds v k ≡ []) ks
quiet_from finds v [] none = tt
quiet_from finds v (k ∷ ks) none =
    let both : length (finds v k) + length (flat_map (finds v) ks) ≡ 0 = sym (length-append (finds v k) (flat_map (finds v) ks)) ∙ none in
    (nil_from_length (finds v k) (omega arith), quiet_from finds v ks (omega arith))

pub quiet_by : (finds : Visit → Key → List At) (v : Visit) → length (flat_map (finds v) (keys_of v.spot)) ≡ 0 → IsQuiet finds v
quiet_by finds v none = quiet_from finds v (keys_of v.spot) none

quiet_keys : (finds : Visit → Key → List At) (v : Visit) (ks : List Key) → AllByRecursion (λ k. finds v k ≡ []) ks → flat_map (places_at finds v) ks ≡ []
quiet_keys finds v [] h = refl
quiet_keys finds v (k ∷ ks) h = both_empty (places_at finds v k) (flat_map (places_at finds v) ks) (map_empty _ (finds v k) h.0) (quiet_keys finds v ks h.1)

pub quiet_table : (finds : Visit → Key → List At) (v : Visit) → IsQuiet finds v → places_in finds v ≡ []
quiet_table finds v h = quiet_keys finds v (keys_of v.spot) h

-- nothing in any table is nothing on the walk
pub quiet_walk : (finds : Visit → Key → List At) (vs : List Visit) → AllByRecursion (IsQuiet finds) vs → places_of finds vs ≡ []
quiet_walk finds [] h = refl
quiet_walk finds (v ∷ vs) h = both_empty (places_in finds v) (places_of finds vs) (quiet_table finds v h.0) (quiet_walk finds vs h.1)

-- what holds of the top table, the zone, each node and each group
pub each_visit : (P : Visit → Type 0) (n : ℕ) → P (top_visit n) → P zone_visit → ((p : ℕ) → p < nodes_of n → P (node_visit n p)) → ((i : ℕ) → i < n → P (group_visit n i)) → AllByRecursion P (visits n)
each_visit P n top zone nodes groups =
    let ns = map (node_visit n) (range_with_len 0 (nodes_of n)) in
    let gs = map (group_visit n) (range_with_len 0 n) in
    let each_node : AllByRecursion P ns = all_range P (node_visit n) 0 (nodes_of n) (λ p l u. nodes p (omega arith)) in
    let each_group : AllByRecursion P gs = all_range P (group_visit n) 0 n (λ i l u. groups i (omega arith)) in
    (top, (zone, all_append P ns gs each_node each_group))

pub nothing_seen : {A : Type 0} (f : Visit → List A) (n : ℕ) → f (top_visit n) ≡ [] → f zone_visit ≡ [] → ((p : ℕ) → p < nodes_of n → f (node_visit n p) ≡ []) → ((i : ℕ) → i < n → f (group_visit n i) ≡ [])
    → flat_map f (visits n) ≡ []
nothing_seen f n top zone nodes groups = flat_empty f (visits n) (each_visit (λ v. f v ≡ []) n top zone nodes groups)

pub nothing_found : (finds : Visit → Key → List At) (n : ℕ) → IsQuiet finds (top_visit n) → IsQuiet finds zone_visit → ((p : ℕ) → p < nodes_of n → IsQuiet finds (node_visit n p)) → ((i : ℕ) → i < n → IsQuiet finds (group_visit n i))
    → places_of finds (visits n) ≡ []
nothing_found finds n top zone nodes groups = quiet_walk finds (visits n) (each_visit (IsQuiet finds) n top zone nodes groups)
