-- The names of a big world's nodes and groups: they follow the rule, no two are the same, and each leads to its number; so parents and lists lead where they should.
use Rattle.std.proofs.Common.{◌≡◌, ℕ, ◌+◌, ◌-◌, ◌*◌, ◌/◌, ◌%◌, ◌^◌, ◌<◌, ◌≤◌, ◌==◌, suc, Bool, true, false, not, ◌&&◌, ◌||◌, nat_le, nat_lt, List, [], ◌∷◌, ◌++◌, length, map, take, drop, Option, None, Some, option_and_then, unwrap_or, if◌then◌else◌, refl, ap, sym, ◌∙◌, append_assoc, arith, ◌⊎◌, inl, inr}
use Rattle.std.proofs.Math.Nat.{mod-eq-sub-mod, mod-eq_of_lt}
use Rattle.std.specs.Prelude.{codes}
use Rattle.std.proofs.lemmas.Bool.Decides.{nat_tests}
use Rattle.std.proofs.lemmas.Fmt.{decimal_digit}
use Rattle.std.proofs.lemmas.List.{length-append}
use Rattle.std.proofs.lemmas.List.Folds.{list_all-append, list_any-append}
use Rattle.std.proofs.Math.Seq.{drop-append_seam, take-append_seam}
use Rattle.std.specs.Fmt.{decimal}
use Rattle.std.specs.List.{list_all, list_any, range_with_len}
use Rattle.std.specs.Str.{bytes_eq}
use Rattle.std.proofs.lemmas.List.FromFn.{get_or-map-range_with_len}
use Rattle.toml.specs.Data.{Data, boolean}
use Rattle.big_world.specs.declared.TheConstants.{LARGEST_WORLD}
use Rattle.big_world.specs.Numbers.{behind}
use Rattle.big_world.specs.Topology.{capacity_of, group_name, listed_pool, name_of_pool, nodes_of, pool_name, pools_of, region_name, regions_of}
use Rattle.big_world.specs.World.{entry_data, group_data, groups_data, node_data, nodes_data, pool_data, pools_data, region_data}
use Rattle.topology_text.specs.Names.{ascend, entry_at, has_repeat, is_called, is_deep, is_misplaced, is_other, is_pool, is_pool_number, is_taken, number_of, parent_of, text_at, texts_of}
use Rattle.topology_text.specs.Plan.{number_in}
use Rattle.topology_text.specs.Texts.{is_name, is_name_byte}
use Rattle.topology_text.specs.Topology.{name_of}
use Rattle.topology_text.specs.declared.schema.Key.TheVariants.{Name, Parent}
use Rattle.big_world_read.specs.Read.{pool_node}
use Rattle.big_world_read.proofs.Visits.{group_entry, node_entry}
use Rattle.big_world_read.proofs.Decimals.{decimal_has_no, decimal_passes, decimal_short, decimal_tells}
use Rattle.big_world_read.proofs.Lists.{found_at, found_from, map_twice, no_repeat, other_bytes, same_bytes, same_length, texts_from}

-- the name of node p
abbrev pub node_name : ℕ → List ℕ
node_name p = if p % 5 == 0 then region_name (p / 5) else pool_name (p / 5) (p % 5 - 1)

pub named_region : (p : ℕ) → (p % 5 == 0) ≡ true → node_name p ≡ region_name (p / 5)
named_region p first = ap (λ (b : Bool). if b then region_name (p / 5) else pool_name (p / 5) (p % 5 - 1)) first

pub named_pool : (p : ℕ) → (p % 5 == 0) ≡ false → node_name p ≡ pool_name (p / 5) (p % 5 - 1)
named_pool p other = ap (λ (b : Bool). if b then region_name (p / 5) else pool_name (p / 5) (p % 5 - 1)) other

-- a region's name tells the region, and a group's the group
pub region_tells : (i k : ℕ) → i < 2 ^ 64 → k < 2 ^ 64 → region_name i ≡ region_name k → i ≡ k
region_tells i k low high h = let tails : decimal i ≡ decimal k = cc in decimal_tells i k low high tails

pub group_tells : (i k : ℕ) → i < 2 ^ 64 → k < 2 ^ 64 → group_name i ≡ group_name k → i ≡ k
group_tells i k low high h = let tails : decimal i ≡ decimal k = cc in decimal_tells i k low high tails

-- a pool's name is its region's, a dash and a digit
pub pool_parts : (i j : ℕ) → pool_name i j ≡ region_name i ++ (45 ∷ decimal j)
pool_parts i j = append_assoc (region_name i) (codes "-") (decimal j)

pub pool_ends : (i j : ℕ) → j < 10 → pool_name i j ≡ region_name i ++ (45 ∷ (48 + j) ∷ [])
pool_ends i j low = pool_parts i j ∙ ap (λ (ds : List ℕ). region_name i ++ (45 ∷ ds)) (decimal_digit j low)

two_ends : (xs ys : List ℕ) (a b : ℕ) → xs ++ (45 ∷ a ∷ []) ≡ ys ++ (45 ∷ b ∷ []) → (xs ≡ ys) × (a ≡ b)
two_ends xs ys a b h =
    let size : length xs ≡ length ys = same_length xs ys (45 ∷ a ∷ []) (45 ∷ b ∷ []) refl h in
    let fronts : xs ≡ ys = sym (take-append_seam xs (45 ∷ a ∷ [])) ∙ ap (λ n. take n (xs ++ (45 ∷ a ∷ []))) size ∙ ap (take (length ys)) h ∙ take-append_seam ys (45 ∷ b ∷ []) in
    let ends : 45 ∷ a ∷ [] ≡ 45 ∷ b ∷ [] = sym (drop-append_seam xs (45 ∷ a ∷ [])) ∙ ap (λ n. drop n (xs ++ (45 ∷ a ∷ []))) size ∙ ap (drop (length ys)) h ∙ drop-append_seam ys (45 ∷ b ∷ []) in
    (fronts, cc)

-- a pool's name tells the pool
pub pool_tells : (i j k l : ℕ) → i < 2 ^ 64 → k < 2 ^ 64 → j < 10 → l < 10 → pool_name i j ≡ pool_name k l → (i ≡ k) × (j ≡ l)
pool_tells i j k l low high less more h =
    let parts = two_ends (region_name i) (region_name k) (48 + j) (48 + l) (sym (pool_ends i j less) ∙ h ∙ pool_ends k l more) in
    (region_tells i k low high parts.0, omega (arith, parts.1))

-- a region's name has no dash, and a pool's has one
region_dash : (i : ℕ) → i < 2 ^ 64 → list_any (λ b. b == 45) (region_name i) ≡ false
region_dash i low = decimal_has_no 45 (inl (omega arith)) i low

pool_dash : (i j : ℕ) → i < 2 ^ 64 → list_any (λ b. b == 45) (pool_name i j) ≡ true
pool_dash i j low = ap (list_any (λ b. b == 45)) (pool_parts i j) ∙ list_any-append (λ b. b == 45) (region_name i) (45 ∷ decimal j) ∙ ap (λ b. b || true) (region_dash i low)

pub no_region_pool : (i k l : ℕ) → i < 2 ^ 64 → k < 2 ^ 64 → region_name i ≡ pool_name k l → ⊥
no_region_pool i k l low high h =
    let without : list_any (λ b. b == 45) (region_name i) ≡ false = region_dash i low in
    let with_one : list_any (λ b. b == 45) (region_name i) ≡ true = ap (list_any (λ b. b == 45)) h ∙ pool_dash k l high in
    cc

-- a node's name tells the node
pub node_tells : (p q : ℕ) → p < 2 ^ 64 → q < 2 ^ 64 → node_name p ≡ node_name q → p ≡ q
node_tells p q low high h = go (p % 5 == 0) (q % 5 == 0) refl refl
  where
    go : (a b : Bool) → (p % 5 == 0) ≡ a → (q % 5 == 0) ≡ b → p ≡ q
    go true true first second =
        let same : p / 5 ≡ q / 5 = region_tells (p / 5) (q / 5) (omega arith) (omega arith) (sym (named_region p first) ∙ h ∙ named_region q second) in
        let zero_left : p % 5 ≡ 0 = grind (arith, nat_tests) in
        let zero_right : q % 5 ≡ 0 = grind (arith, nat_tests) in
        omega arith
    go true false first second = absurd (no_region_pool (p / 5) (q / 5) (q % 5 - 1) (omega arith) (omega arith) (sym (named_region p first) ∙ h ∙ named_pool q second))
    go false true first second = absurd (no_region_pool (q / 5) (p / 5) (p % 5 - 1) (omega arith) (omega arith) (sym (named_region q second) ∙ sym h ∙ named_pool p first))
    go false false first second =
        let same = pool_tells (p / 5) (p % 5 - 1) (q / 5) (q % 5 - 1) (omega arith) (omega arith) (omega arith) (omega arith) (sym (named_pool p first) ∙ h ∙ named_pool q second) in
        let some_left : 1 ≤ p % 5 = grind (arith, nat_tests) in
        let some_right : 1 ≤ q % 5 = grind (arith, nat_tests) in
        omega (arith, same.0, same.1)

-- a name's octets are those that a name may have
name_bytes : (m : ℕ) → m < 2 ^ 64 → list_all is_name_byte (decimal m) ≡ true
name_bytes m low = decimal_passes is_name_byte (λ d h. grind (arith, nat_tests)) m low

digits_few : (m : ℕ) → m < 2 ^ 64 → length (decimal m) ≤ 20
digits_few m low = decimal_short 20 m (omega arith) (omega arith) low

good_name : (text : List ℕ) → 1 ≤ length text → length text ≤ 32 → list_all is_name_byte text ≡ true → is_name text ≡ true
good_name text some few bytes =
    let low : nat_le 1 (length text) ≡ true = grind (arith, nat_tests) in
    let high : nat_le (length text) 32 ≡ true = grind (arith, nat_tests) in
    ap (λ b. (b && nat_le (length text) 32) && list_all is_name_byte text) low ∙ ap (λ b. b && list_all is_name_byte text) high ∙ bytes

pub region_good : (i : ℕ) → i < 2 ^ 64 → is_name (region_name i) ≡ true
region_good i low = let few = digits_few i low in good_name (region_name i) (omega arith) (omega arith) (name_bytes i low)

pub group_good : (i : ℕ) → i < 2 ^ 64 → is_name (group_name i) ≡ true
group_good i low = let few = digits_few i low in good_name (group_name i) (omega arith) (omega arith) (name_bytes i low)

pub pool_good : (i j : ℕ) → i < 2 ^ 64 → j < 10 → is_name (pool_name i j) ≡ true
pool_good i j low less =
    let few = digits_few i low in
    let whole : pool_name i j ≡ region_name i ++ (45 ∷ (48 + j) ∷ []) = pool_ends i j less in
    let size : length (region_name i ++ (45 ∷ (48 + j) ∷ [])) ≡ length (region_name i) + 2 = length-append (region_name i) (45 ∷ (48 + j) ∷ []) in
    let last : is_name_byte (48 + j) ≡ true = grind (arith, nat_tests) in
    ap is_name whole
    ∙ good_name (region_name i ++ (45 ∷ (48 + j) ∷ [])) (omega arith) (omega arith)
    (list_all-append is_name_byte (region_name i) (45 ∷ (48 + j) ∷ []) ∙ ap (λ b. b && (is_name_byte (48 + j) && true)) (name_bytes i low) ∙ ap (λ b. b && true) last)

-- what the entry of a region says, and that of a pool
region_named : (i capacity : ℕ) → text_at (region_data i capacity) Name ≡ Some (region_name i)
unfolding region_data
region_named i capacity = refl

region_parent : (i capacity : ℕ) → text_at (region_data i capacity) Parent ≡ None
unfolding region_data
region_parent i capacity = refl

region_flag : (i capacity : ℕ) → is_pool (region_data i capacity) ≡ false
unfolding region_data
region_flag i capacity = refl

pool_named : (i j capacity : ℕ) → text_at (pool_data i j capacity) Name ≡ Some (pool_name i j)
unfolding pool_data
pool_named i j capacity = refl

pool_parent : (i j capacity : ℕ) → text_at (pool_data i j capacity) Parent ≡ Some (region_name i)
unfolding pool_data
pool_parent i j capacity = refl

pool_flag : (i j capacity : ℕ) → is_pool (pool_data i j capacity) ≡ true
unfolding pool_data
pool_flag i j capacity = refl

-- the first of each five nodes is a region, and the others are pools
pub node_is_region : (n p : ℕ) → (p % 5 == 0) ≡ true → node_entry n p ≡ region_data (p / 5) (capacity_of p (behind n p))
unfolding node_data
node_is_region n p first = ap (λ (b : Bool). if b then region_data (p / 5) (capacity_of p (behind n p)) else pool_data (p / 5) (p % 5 - 1) (capacity_of p (behind n p))) first

pub node_is_pool : (n p : ℕ) → (p % 5 == 0) ≡ false → node_entry n p ≡ pool_data (p / 5) (p % 5 - 1) (capacity_of p (behind n p))
unfolding node_data
node_is_pool n p other = ap (λ (b : Bool). if b then region_data (p / 5) (capacity_of p (behind n p)) else pool_data (p / 5) (p % 5 - 1) (capacity_of p (behind n p))) other

-- the name of a node's entry, its parent's, and its kind
pub node_named : (n p : ℕ) → text_at (node_entry n p) Name ≡ Some (node_name p)
node_named n p = go (p % 5 == 0) refl
  where
    go : (b : Bool) → (p % 5 == 0) ≡ b → text_at (node_entry n p) Name ≡ Some (node_name p)
    go true first = ap (λ e. text_at e Name) (node_is_region n p first) ∙ region_named (p / 5) _ ∙ ap Some (sym (named_region p first))
    go false other = ap (λ e. text_at e Name) (node_is_pool n p other) ∙ pool_named (p / 5) (p % 5 - 1) _ ∙ ap Some (sym (named_pool p other))

pub region_has_no_parent : (n p : ℕ) → (p % 5 == 0) ≡ true → text_at (node_entry n p) Parent ≡ None
region_has_no_parent n p first = ap (λ e. text_at e Parent) (node_is_region n p first) ∙ region_parent (p / 5) _

pub pool_has_parent : (n p : ℕ) → (p % 5 == 0) ≡ false → text_at (node_entry n p) Parent ≡ Some (region_name (p / 5))
pool_has_parent n p other = ap (λ e. text_at e Parent) (node_is_pool n p other) ∙ pool_parent (p / 5) (p % 5 - 1) _

pub node_kind : (n p : ℕ) → is_pool (node_entry n p) ≡ not (p % 5 == 0)
node_kind n p = go (p % 5 == 0) refl
  where
    go : (b : Bool) → (p % 5 == 0) ≡ b → is_pool (node_entry n p) ≡ not (p % 5 == 0)
    go true first = ap is_pool (node_is_region n p first) ∙ region_flag (p / 5) _ ∙ ap not (sym first)
    go false other = ap is_pool (node_is_pool n p other) ∙ pool_flag (p / 5) (p % 5 - 1) _ ∙ ap not (sym other)

pub group_named : (n i : ℕ) → text_at (group_entry n i) Name ≡ Some (group_name i)
unfolding group_data entry_data
group_named n i = refl

-- the entries of the two arrays
pub node_at : (n p : ℕ) → p < nodes_of n → entry_at (nodes_data n) p ≡ node_entry n p
node_at n p within = get_or-map-range_with_len (node_entry n) 0 (nodes_of n) p p (boolean false) within (omega arith)

-- an entry is called by its name alone
called_so : (e : Data) (name : List ℕ) → text_at e Name ≡ Some name → is_called name (text_at e Name) ≡ true
called_so e name named = ap (is_called name) named ∙ same_bytes name

called_other : (e : Data) (name text : List ℕ) → text_at e Name ≡ Some name → (name ≡ text → ⊥) → is_called text (text_at e Name) ≡ false
called_other e name text named apart = ap (is_called text) named ∙ other_bytes name text apart

-- a name leads to its node, and to its group
pub node_found : (n p : ℕ) → n ≤ LARGEST_WORLD → p < nodes_of n → number_of (nodes_data n) (node_name p) ≡ Some p
node_found n p few within = found_from (λ e. is_called (node_name p) (text_at e Name)) (node_entry n) (nodes_of n) p within
    (λ q before. called_other (node_entry n q) (node_name q) (node_name p) (node_named n q) (λ same. let one : q ≡ p = node_tells q p (omega arith) (omega arith) same in omega arith))
    (called_so (node_entry n p) (node_name p) (node_named n p))

pub group_found : (n i : ℕ) → n ≤ LARGEST_WORLD → i < n → number_of (groups_data n) (group_name i) ≡ Some i
group_found n i few within = found_from (λ e. is_called (group_name i) (text_at e Name)) (group_entry n) n i within
    (λ q before. called_other (group_entry n q) (group_name q) (group_name i) (group_named n q) (λ same. let one : q ≡ i = group_tells q i (omega arith) (omega arith) same in omega arith))
    (called_so (group_entry n i) (group_name i) (group_named n i))

-- the names of a region and of a pool, as those of nodes
pub region_node_name : (i : ℕ) → node_name (5 * i) ≡ region_name i
region_node_name i =
    let first : ((5 * i) % 5 == 0) ≡ true = grind (arith, nat_tests) in
    let same : (5 * i) / 5 ≡ i = omega arith in
    named_region (5 * i) first ∙ ap region_name same

pub pool_node_name : (i j : ℕ) → j < 4 → node_name (pool_node i j) ≡ pool_name i j
pool_node_name i j less =
    let rest : pool_node i j % 5 ≡ 1 + j = omega arith in
    let other : (pool_node i j % 5 == 0) ≡ false = grind (arith, nat_tests) in
    let same : pool_node i j / 5 ≡ i = omega arith in
    let place : pool_node i j % 5 - 1 ≡ j = omega arith in
    named_pool (pool_node i j) other ∙ ap (λ k. pool_name k (pool_node i j % 5 - 1)) same ∙ ap (pool_name i) place

pub region_found : (n i : ℕ) → n ≤ LARGEST_WORLD → i < regions_of n → number_of (nodes_data n) (region_name i) ≡ Some (5 * i)
region_found n i few within = ap (number_of (nodes_data n)) (sym (region_node_name i)) ∙ node_found n (5 * i) few (omega arith)

pub pool_found : (n i j : ℕ) → n ≤ LARGEST_WORLD → i < regions_of n → j < 4 → number_of (nodes_data n) (pool_name i j) ≡ Some (pool_node i j)
pool_found n i j few within less = ap (number_of (nodes_data n)) (sym (pool_node_name i j less)) ∙ node_found n (pool_node i j) few (omega arith)

-- the parent of a node: none of a region, and of a pool its region
parent_as : (n p : ℕ) (o : Option (List ℕ)) → p < nodes_of n → text_at (node_entry n p) Parent ≡ o → parent_of (nodes_data n) p ≡ option_and_then (number_of (nodes_data n)) o
parent_as n p o within is = ap (λ (e : Data). option_and_then (number_of (nodes_data n)) (text_at e Parent)) (node_at n p within) ∙ ap (option_and_then (number_of (nodes_data n))) is

pub region_parent_of : (n p : ℕ) → p < nodes_of n → (p % 5 == 0) ≡ true → parent_of (nodes_data n) p ≡ None
region_parent_of n p within first = parent_as n p None within (region_has_no_parent n p first)

pub pool_parent_of : (n p : ℕ) → n ≤ LARGEST_WORLD → p < nodes_of n → (p % 5 == 0) ≡ false → parent_of (nodes_data n) p ≡ Some (5 * (p / 5))
pool_parent_of n p few within other = parent_as n p (Some (region_name (p / 5))) within (pool_has_parent n p other) ∙ region_found n (p / 5) few (omega arith)

-- no path is deep
up_once : (steps : ℕ) (nodes : List Data) (i : ℕ) → parent_of nodes i ≡ None → ascend (suc (suc steps)) nodes (Some i) ≡ i ∷ []
unfolding ascend
up_once steps nodes i none = rw none refl

up_twice : (steps : ℕ) (nodes : List Data) (i j : ℕ) → parent_of nodes i ≡ Some j → parent_of nodes j ≡ None → ascend (suc (suc (suc steps))) nodes (Some i) ≡ i ∷ j ∷ []
unfolding ascend
up_twice steps nodes i j once none = rw once (ap (λ (ns : List ℕ). i ∷ ns) (up_once steps nodes j none))

pub region_path : (n p : ℕ) → p < nodes_of n → (p % 5 == 0) ≡ true → ascend 9 (nodes_data n) (Some p) ≡ p ∷ []
region_path n p within first = up_once 7 (nodes_data n) p (region_parent_of n p within first)

pub pool_path : (n p : ℕ) → n ≤ LARGEST_WORLD → p < nodes_of n → (p % 5 == 0) ≡ false → ascend 9 (nodes_data n) (Some p) ≡ p ∷ 5 * (p / 5) ∷ []
pool_path n p few within other =
    let first : ((5 * (p / 5)) % 5 == 0) ≡ true = grind (arith, nat_tests) in
    up_twice 6 (nodes_data n) p (5 * (p / 5)) (pool_parent_of n p few within other) (region_parent_of n (5 * (p / 5)) (omega arith) first)

pub not_deep : (n p : ℕ) → n ≤ LARGEST_WORLD → p < nodes_of n → is_deep (nodes_data n) p ≡ false
not_deep n p few within = go (p % 5 == 0) refl
  where
    go : (b : Bool) → (p % 5 == 0) ≡ b → is_deep (nodes_data n) p ≡ false
    go true first = ap (λ (ns : List ℕ). nat_lt 8 (length ns)) (region_path n p within first)
    go false other = ap (λ (ns : List ℕ). nat_lt 8 (length ns)) (pool_path n p few within other)

-- each parent is a region that stands before its pools
pub not_misplaced : (n p : ℕ) → n ≤ LARGEST_WORLD → p < nodes_of n → is_misplaced (nodes_data n) p (parent_of (nodes_data n) p) ≡ false
not_misplaced n p few within = go (p % 5 == 0) refl
  where
    go : (b : Bool) → (p % 5 == 0) ≡ b → is_misplaced (nodes_data n) p (parent_of (nodes_data n) p) ≡ false
    go true first = ap (is_misplaced (nodes_data n) p) (region_parent_of n p within first)
    go false other =
        let some : 1 ≤ p % 5 = grind (arith, nat_tests) in
        let before : nat_lt (5 * (p / 5)) p ≡ true = grind (arith, nat_tests) in
        let first : ((5 * (p / 5)) % 5 == 0) ≡ true = grind (arith, nat_tests) in
        let inner : is_pool (entry_at (nodes_data n) (5 * (p / 5))) ≡ false = ap is_pool (node_at n (5 * (p / 5)) (omega arith)) ∙ node_kind n (5 * (p / 5)) ∙ ap not first in
        ap (is_misplaced (nodes_data n) p) (pool_parent_of n p few within other)
        ∙ ap (λ b. not b || is_pool (entry_at (nodes_data n) (5 * (p / 5)))) before ∙ inner

-- no name is taken
free_at : (entries : List Data) (i : ℕ) (o : Option (List ℕ)) (name : List ℕ) → o ≡ Some name → number_of entries name ≡ Some i → is_taken entries i o ≡ false
free_at entries i o name named found =
    let same : (i == i) ≡ true = grind (arith, nat_tests) in
    ap (is_taken entries i) named ∙ ap (λ (k : Option ℕ). is_other k i) found ∙ ap not same

pub node_name_free : (n p : ℕ) → n ≤ LARGEST_WORLD → p < nodes_of n → is_taken (nodes_data n) p (text_at (node_entry n p) Name) ≡ false
node_name_free n p few within = free_at (nodes_data n) p (text_at (node_entry n p) Name) (node_name p) (node_named n p) (node_found n p few within)

pub group_name_free : (n i : ℕ) → n ≤ LARGEST_WORLD → i < n → is_taken (groups_data n) i (text_at (group_entry n i) Name) ≡ false
group_name_free n i few within = free_at (groups_data n) i (text_at (group_entry n i) Name) (group_name i) (group_named n i) (group_found n i few within)

-- the names of a plan
pub node_name_of : (n p : ℕ) → name_of (node_entry n p) ≡ node_name p
node_name_of n p = ap (λ (o : Option (List ℕ)). unwrap_or o []) (node_named n p)

pub group_name_of : (n i : ℕ) → name_of (group_entry n i) ≡ group_name i
group_name_of n i = ap (λ (o : Option (List ℕ)). unwrap_or o []) (group_named n i)

pub node_names : (n : ℕ) → map name_of (nodes_data n) ≡ map node_name (range_with_len 0 (nodes_of n))
node_names n = map_twice name_of (node_entry n) node_name (node_name_of n) (range_with_len 0 (nodes_of n))

pub group_names : (n : ℕ) → map name_of (groups_data n) ≡ map group_name (range_with_len 0 n)
group_names n = map_twice name_of (group_entry n) group_name (group_name_of n) (range_with_len 0 n)

-- a plan's names lead to the same numbers
pub node_in_plan : (n p : ℕ) → n ≤ LARGEST_WORLD → p < nodes_of n → number_in (map name_of (nodes_data n)) (node_name p) ≡ Some p
node_in_plan n p few within =
    ap (λ (names : List (List ℕ)). number_in names (node_name p)) (node_names n)
    ∙ found_at (bytes_eq (node_name p)) node_name (nodes_of n) p within
    (λ q before. other_bytes (node_name p) (node_name q) (λ same. let one : p ≡ q = node_tells p q (omega arith) (omega arith) same in omega arith))
    (same_bytes (node_name p))

pub group_in_plan : (n i : ℕ) → n ≤ LARGEST_WORLD → i < n → number_in (map name_of (groups_data n)) (group_name i) ≡ Some i
group_in_plan n i few within =
    ap (λ (names : List (List ℕ)). number_in names (group_name i)) (group_names n)
    ∙ found_at (bytes_eq (group_name i)) group_name n i within
    (λ q before. other_bytes (group_name i) (group_name q) (λ same. let one : i ≡ q = group_tells i q (omega arith) (omega arith) same in omega arith))
    (same_bytes (group_name i))

pub pool_in_plan : (n i j : ℕ) → n ≤ LARGEST_WORLD → i < regions_of n → j < 4 → number_in (map name_of (nodes_data n)) (pool_name i j) ≡ Some (pool_node i j)
pool_in_plan n i j few within less = ap (number_in (map name_of (nodes_data n))) (sym (pool_node_name i j less)) ∙ node_in_plan n (pool_node i j) few (omega arith)

-- pool q of all is a pool among the nodes
pub pool_number_found : (n q : ℕ) → n ≤ LARGEST_WORLD → q < pools_of n → number_of (nodes_data n) (name_of_pool q) ≡ Some (pool_node (q / 4) (q % 4))
pool_number_found n q few within = pool_found n (q / 4) (q % 4) few (omega arith) (omega arith)

pub listed_is_pool : (n q : ℕ) → n ≤ LARGEST_WORLD → q < pools_of n → is_pool_number (nodes_data n) (number_of (nodes_data n) (name_of_pool q)) ≡ true
listed_is_pool n q few within =
    let other : (pool_node (q / 4) (q % 4) % 5 == 0) ≡ false = grind (arith, nat_tests) in
    ap (is_pool_number (nodes_data n)) (pool_number_found n q few within)
    ∙ ap is_pool (node_at n (pool_node (q / 4) (q % 4)) (omega arith)) ∙ node_kind n (pool_node (q / 4) (q % 4)) ∙ ap not other

-- the pools of a list are pools, and no two the same
pub listed_within : (n s t : ℕ) → listed_pool n s t < pools_of n
listed_within n s t = omega arith

pub listed_known : (n s t : ℕ) → n ≤ LARGEST_WORLD → is_pool_number (nodes_data n) (number_of (nodes_data n) (name_of_pool (listed_pool n s t))) ≡ true
listed_known n s t few = listed_is_pool n (listed_pool n s t) few (listed_within n s t)

-- once round at most
round_once : (m x : ℕ) → x < m + m → (x % m ≡ x) ⊎ (x % m + m ≡ x)
round_once m x low = go (nat_lt x m) refl
  where
    go : (b : Bool) → nat_lt x m ≡ b → (x % m ≡ x) ⊎ (x % m + m ≡ x)
    go true is = let under : x < m = grind (arith, nat_tests) in inl (mod-eq_of_lt under)
    go false is =
        let over : m ≤ x = grind (arith, nat_tests) in
        let back : x - m < m = omega arith in
        let rest : x % m ≡ x - m = mod-eq-sub-mod over ∙ mod-eq_of_lt back in
        inr (omega arith)

round_tells : (m s t u : ℕ) → s < m → t < u → u < m → (s + t) % m ≡ (s + u) % m → ⊥
round_tells m s t u start less high h = go (round_once m (s + t) (omega arith)) (round_once m (s + u) (omega arith))
  where
    go : ((s + t) % m ≡ s + t) ⊎ ((s + t) % m + m ≡ s + t) → ((s + u) % m ≡ s + u) ⊎ ((s + u) % m + m ≡ s + u) → ⊥
    go (inl a) (inl b) = omega arith
    go (inl a) (inr b) = omega arith
    go (inr a) (inl b) = omega arith
    go (inr a) (inr b) = omega arith

pub pool_text_tells : (q r : ℕ) → q < 2 ^ 64 → r < 2 ^ 64 → name_of_pool q ≡ name_of_pool r → q ≡ r
pool_text_tells q r low high h =
    let same = pool_tells (q / 4) (q % 4) (r / 4) (r % 4) (omega arith) (omega arith) (omega arith) (omega arith) h in
    omega (arith, same.0, same.1)

pub listed_once : (n s length : ℕ) → n ≤ LARGEST_WORLD → s < pools_of n → length ≤ pools_of n → has_repeat (texts_of (pools_data n s length)) ≡ false
listed_once n s length few start short =
    ap has_repeat (texts_from (λ t. name_of_pool (listed_pool n s t)) (range_with_len 0 length))
    ∙ no_repeat (λ t. name_of_pool (listed_pool n s t)) 0 length
    (λ t u low less high same. round_tells (pools_of n) s t u start less (omega arith)
    (pool_text_tells (listed_pool n s t) (listed_pool n s u) (omega (arith, listed_within n s t)) (omega (arith, listed_within n s u)) same))
