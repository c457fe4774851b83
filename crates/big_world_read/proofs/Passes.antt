-- A test that fails no value and no item of a big world's topology.
use Rattle.std.proofs.Common.{◌≡◌, ℕ, ◌==◌, ◌<◌, ◌≤◌, Bool, true, false, List, [], ◌∷◌, if◌then◌else◌, refl, ap, ◌∙◌}
use Rattle.std.specs.Prelude.{codes, pos}
use Rattle.std.specs.List.{AllByRecursion}
use Rattle.toml.specs.Data.{Data, boolean, integer, string, table, Members}
use Rattle.topology_text.specs.Faults.{failures}
use Rattle.topology_text.specs.Values.{failing, whole_if}
use Rattle.topology_text.specs.Walk.{Visit, items_where, list_of, value_at}
use Rattle.topology_text.specs.declared.schema.At.{At}
use Rattle.topology_text.specs.declared.schema.Key.{Key}
use Rattle.topology_text.specs.declared.schema.Key.TheVariants.{A, Capacity, Demand, Group, Name, Node, Parent, Pool, Pools, Prefixes, Scores, Zone}
use Rattle.topology_text.specs.declared.schema.Spot.TheVariants.{GroupTable, NodeTable}
use Rattle.big_world.specs.Topology.{block_text, group_name, host_text, listed_pool, name_of_pool, nodes_of, pool_name, pools_of, region_name, regions_of, score_at}
use Rattle.big_world.specs.World.{array_of, groups_data, nodes_data, pools_data, prefixes_data, scores_data}
use Rattle.big_world_read.proofs.Numbered.{all_range, none_where}
use Rattle.big_world_read.proofs.Members.{IsDrawn, group_cases, group_members, node_cases, pool_members, region_members, score_below}
use Rattle.big_world_read.proofs.Quiet.{IsQuiet, nothing_found}
use Rattle.big_world_read.proofs.Visits.{group_entry, members_of, node_entry, top_visit, visits, zone_visit}
use Rattle.big_world_read.proofs.Walked.{group_is_table, node_is_table}

-- the items of each array
pub nodes_pass : (test : Data → Bool) (n : ℕ) → ((ms : Members) → test (table ms) ≡ false) → items_where test (list_of (array_of (nodes_data n))) ≡ []
nodes_pass test n h = none_where test (nodes_data n) (all_range (λ d. test d ≡ false) (node_entry n) 0 (nodes_of n) (λ p l u. ap test (node_is_table n p) ∙ h (members_of (node_entry n p))))

pub groups_pass : (test : Data → Bool) (n : ℕ) → ((ms : Members) → test (table ms) ≡ false) → items_where test (list_of (array_of (groups_data n))) ≡ []
groups_pass test n h = none_where test (groups_data n) (all_range (λ d. test d ≡ false) (group_entry n) 0 n (λ i l u. ap test (group_is_table n i) ∙ h (members_of (group_entry n i))))

pub pools_pass : (test : Data → Bool) (n s length : ℕ) → ((t : ℕ) → test (string (name_of_pool (listed_pool n s t))) ≡ false) → items_where test (list_of (array_of (pools_data n s length))) ≡ []
pools_pass test n s length h = none_where test (pools_data n s length) (all_range (λ d. test d ≡ false) (λ t. string (name_of_pool (listed_pool n s t))) 0 length (λ t l u. h t))

pub scores_pass : (test : Data → Bool) (x length : ℕ) → ((y : ℕ) → y < 1000 → test (integer (pos y)) ≡ false) → items_where test (list_of (array_of (scores_data x length))) ≡ []
scores_pass test x length h = none_where test (scores_data x length) (all_range (λ d. test d ≡ false) (λ t. integer (pos (score_at x t))) 0 length (λ t l u. h (score_at x t) (score_below x t)))

texts_pass : (b : Bool) (test : Data → Bool) (first second third : List ℕ) → ((t : List ℕ) → test (string t) ≡ false)
    → AllByRecursion (λ d. test d ≡ false) (if b then string first ∷ string second ∷ [] else string third ∷ [])
texts_pass true test first second third h = (h first, (h second, tt))
texts_pass false test first second third h = (h third, tt)

pub prefixes_pass : (test : Data → Bool) → ((t : List ℕ) → test (string t) ≡ false) → (i : ℕ) → AllByRecursion (λ d. test d ≡ false) (prefixes_data i)
unfolding prefixes_data
prefixes_pass test h i = texts_pass (i == 0) test (codes "0.0.0.0/0") (codes "::/0") (block_text i) h

-- what a test finds at a key
abbrev pub failing_at : (Key → Data → Bool) → Visit → Key → List At
failing_at test v k = failing (test k) (value_at v.members k)

-- it fails none of these
pub record Passes (test : Key → Data → Bool) (n : ℕ) : Type 0 where
  pub whole_zone : (ms : Members) → test Zone (table ms) ≡ false
  pub nodes : (ms : Members) → test Node (table ms) ≡ false
  pub groups : (ms : Members) → test Group (table ms) ≡ false
  pub zone : IsQuiet (failing_at test) zone_visit
  pub region : (i : ℕ) → i < regions_of n → test Name (string (region_name i)) ≡ false
  pub pool : (i j : ℕ) → i < regions_of n → j < 4 → test Name (string (pool_name i j)) ≡ false
  pub parent : (i : ℕ) → i < regions_of n → test Parent (string (region_name i)) ≡ false
  pub capacity : (c : ℕ) → c ≤ 79 → test Capacity (integer (pos c)) ≡ false
  pub flag : test Pool (boolean true) ≡ false
  pub host : (i j : ℕ) → i < regions_of n → j < 4 → test A (string (host_text i j)) ≡ false
  pub group : (i : ℕ) → i < n → test Name (string (group_name i)) ≡ false
  pub demand : (d : ℕ) → 1 ≤ d → d ≤ 15 → test Demand (integer (pos d)) ≡ false
  pub pools : (s t : ℕ) → s < pools_of n → test Pools (string (name_of_pool (listed_pool n s t))) ≡ false
  pub scores : (y : ℕ) → y < 1000 → test Scores (integer (pos y)) ≡ false
  pub prefixes : (i : ℕ) → i < n → AllByRecursion (λ d. test Prefixes d ≡ false) (prefixes_data i)

-- no fault as a whole
pub whole : (b : Bool) → b ≡ false → whole_if b ≡ []
whole b p = ap (λ c. whole_if c) p

top_passes : (test : Key → Data → Bool) (n : ℕ) → Passes test n → IsQuiet (failing_at test) (top_visit n)
top_passes test n h = (whole (test Zone _) (h.whole_zone _), (nodes_pass (test Node) n h.nodes, (groups_pass (test Group) n h.groups, (refl, tt))))

region_passes : (test : Key → Data → Bool) (n p i c : ℕ) → Passes test n → i < regions_of n → c ≤ 79 → IsQuiet (failing_at test) (record { spot = NodeTable p; members = region_members i c })
region_passes test n p i c h within small =
    (whole (test Name (string (region_name i))) (h.region i within), (refl, (whole (test Capacity (integer (pos c))) (h.capacity c small), (refl, (refl, (refl, tt))))))

pool_passes : (test : Key → Data → Bool) (n p i j c : ℕ) → Passes test n → i < regions_of n → j < 4 → c ≤ 79 → IsQuiet (failing_at test) (record { spot = NodeTable p; members = pool_members i j c })
pool_passes test n p i j c h within fits small = (
  whole (test Name (string (pool_name i j))) (h.pool i j within fits),
  (
    whole (test Parent (string (region_name i))) (h.parent i within),
    (
      whole (test Capacity (integer (pos c))) (h.capacity c small),
      (
        whole (test Pool (boolean true)) h.flag,
        (
          none_where (test A) (string (host_text i j) ∷ []) (h.host i j within fits, tt),
          (refl, tt),
        ),
      ),
    ),
  ),
)

group_passes : (test : Key → Data → Bool) (n i demand s length x : ℕ) → Passes test n → i < n → IsDrawn n demand s length → IsQuiet (failing_at test) (record { spot = GroupTable i; members = group_members n i demand s length x })
group_passes test n i demand s length x h below drawn = (
  whole (test Name (string (group_name i))) (h.group i below),
  (
    whole (test Demand (integer (pos demand))) (h.demand demand drawn.some_demand drawn.small_demand),
    (
      pools_pass (test Pools) n s length (λ t. h.pools s t drawn.start),
      (
        scores_pass (test Scores) x length h.scores,
        (refl, (none_where (test Prefixes) (prefixes_data i) (h.prefixes i below), tt)),
      ),
    ),
  ),
)

-- nothing is found where a test fails none of them
pub passes : (test : Key → Data → Bool) (n : ℕ) → Passes test n → failures test (visits n) ≡ []
passes test n h =
    nothing_found (failing_at test) n (top_passes test n h) h.zone
    (λ p below. node_cases (λ ms. IsQuiet (failing_at test) (record { spot = NodeTable p; members = ms })) n p below (λ i c within small. region_passes test n p i c h within small) (λ i j c within fits small. pool_passes test n p i j c h within fits small))
    (λ i below. group_cases (λ ms. IsQuiet (failing_at test) (record { spot = GroupTable i; members = ms })) n i (λ demand s length x drawn. group_passes test n i demand s length x h below drawn))
