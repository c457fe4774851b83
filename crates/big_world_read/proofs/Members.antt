-- The members of a big world's nodes and groups, and between what bounds they are drawn.
use Rattle.std.proofs.Common.{◌≡◌, ℕ, ◌+◌, ◌-◌, ◌/◌, ◌%◌, ◌==◌, ◌<◌, ◌≤◌, Bool, true, false, [], ◌∷◌, if◌then◌else◌, refl, arith}
use Rattle.std.specs.Prelude.{codes, min, pos}
use Rattle.toml.specs.Data.{Data, array, boolean, integer, string, Members, member, no_members}
use Rattle.big_world.specs.Numbers.{behind, draw}
use Rattle.big_world.specs.Pieces.{ahead}
use Rattle.big_world.specs.Topology.{ahead_of_groups, behind_group, capacity_of, group_name, host_text, length_at, nodes_of, pool_name, pools_of, region_name, regions_of, score_at}
use Rattle.big_world.specs.World.{array_of, entry_data, group_data, node_data, pool_data, pools_data, prefixes_data, region_data, scores_data}
use Rattle.big_world.proofs.Values.{draw_below}
use Rattle.big_world_read.proofs.Visits.{group_entry, members_of, node_entry}

abbrev pub region_members : ℕ → ℕ → Members
region_members i capacity =
    member (codes "capacity") (integer (pos capacity)) (
    member (codes "name") (string (region_name i))
    no_members)

abbrev pub pool_members : ℕ → ℕ → ℕ → Members
pool_members i j capacity =
    member (codes "a") (array (array_of (string (host_text i j) ∷ []))) (
    member (codes "capacity") (integer (pos capacity)) (
    member (codes "name") (string (pool_name i j)) (
    member (codes "parent") (string (region_name i)) (
    member (codes "pool") (boolean true)
    no_members))))

abbrev pub group_members : ℕ → ℕ → ℕ → ℕ → ℕ → ℕ → Members
group_members n i demand s length x =
    member (codes "demand") (integer (pos demand)) (
    member (codes "name") (string (group_name i)) (
    member (codes "pools") (array (array_of (pools_data n s length))) (
    member (codes "prefixes") (array (array_of (prefixes_data i))) (
    member (codes "scores") (array (array_of (scores_data x length)))
    no_members))))

-- what is drawn is below its bound
pub score_below : (x t : ℕ) → score_at x t < 1000
score_below x t = draw_below x (1 + t) 1000 (omega arith)

one_below : (b : Bool) (c d m : ℕ) → c ≤ m → d ≤ m → (if b then c else d) ≤ m
one_below true c d m p q = p
one_below false c d m p q = q

pub capacity_below : (p x : ℕ) → capacity_of p x ≤ 79
unfolding capacity_of
capacity_below p x =
    let region : draw x 1 40 < 40 = draw_below x 1 40 (omega arith) in
    let pool : draw x 1 20 < 20 = draw_below x 1 20 (omega arith) in
    one_below (p % 5 == 0) (40 + draw x 1 40) (10 + draw x 1 20) 79 (omega arith) (omega arith)

-- what is drawn for a group
pub record IsDrawn (n demand s length : ℕ) : Type 0 where
  pub some_demand : 1 ≤ demand
  pub small_demand : demand ≤ 15
  pub start : s < pools_of n
  pub some : 1 ≤ length
  pub few : length ≤ min 8 (pools_of n)

drawn : (n x : ℕ) → IsDrawn n (1 + draw x 1 15) (draw x 3 (pools_of n)) (length_at n x)
drawn n x =
    let demand : draw x 1 15 < 15 = draw_below x 1 15 (omega arith) in
    let start : draw x 3 (pools_of n) < pools_of n = draw_below x 3 (pools_of n) (omega arith) in
    let size : draw x 2 (min 8 (pools_of n)) < min 8 (pools_of n) = draw_below x 2 (min 8 (pools_of n)) (omega arith) in
    record { some_demand = omega arith; small_demand = omega arith; start = start; some = omega arith; few = omega arith }

by_test : (b : Bool) (P : Members → Type 0) (c d : Data) → (b ≡ true → P (members_of c)) → (b ≡ false → P (members_of d)) → P (members_of (if b then c else d))
by_test true P c d first second = first refl
by_test false P c d first second = second refl

-- a node is a region, or a pool
pub node_cases : (P : Members → Type 0) (n p : ℕ) → p < nodes_of n
    → ((i capacity : ℕ) → i < regions_of n → capacity ≤ 79 → P (region_members i capacity))
    → ((i j capacity : ℕ) → i < regions_of n → j < 4 → capacity ≤ 79 → P (pool_members i j capacity)) → P (members_of (node_entry n p))
unfolding node_data region_data pool_data
node_cases P n p below region pool =
    let x = behind n p in
    let within : p / 5 < regions_of n = omega arith in
    let fits : p % 5 - 1 < 4 = omega arith in
    by_test (p % 5 == 0) P (region_data (p / 5) (capacity_of p x)) (pool_data (p / 5) (p % 5 - 1) (capacity_of p x))
    (λ e. region (p / 5) (capacity_of p x) within (capacity_below p x)) (λ e. pool (p / 5) (p % 5 - 1) (capacity_of p x) within fits (capacity_below p x))

-- and a group has what is drawn for it
pub group_cases : (P : Members → Type 0) (n i : ℕ) → ((demand s length x : ℕ) → IsDrawn n demand s length → P (group_members n i demand s length x)) → P (members_of (group_entry n i))
unfolding group_data entry_data
group_cases P n i h =
    let x = ahead (behind_group n) (ahead_of_groups n) i in
    h (1 + draw x 1 15) (draw x 3 (pools_of n)) (length_at n x) (behind x 3) (drawn n x)
