-- The prefixes of a big world's topology: each is read, none stands twice, and all addresses are held.
use Rattle.std.proofs.Common.{◌≡◌, ℕ, zero, suc, ◌+◌, ◌-◌, ◌*◌, ◌<◌, ◌≤◌, ◌==◌, Bool, true, false, not, ◌&&◌, ◌||◌, cond, List, [], ◌∷◌, ◌++◌, length, map, take, Option, Some, option_map, is_some, codes, if◌then◌else◌, refl, ap, sym, ◌∙◌, arith}
use Rattle.std.proofs.lemmas.Bool.Decides.{nat_tests}
use Rattle.std.proofs.lemmas.List.Concat.{flat_map-append}
use Rattle.std.proofs.lemmas.List.FromFn.{take-map-range_with_len}
use Rattle.std.proofs.lemmas.List.Sums.{sum_by-append, sum_by-cons, sum_by-take-le}
use Rattle.std.specs.List.{AllByRecursion, cons_option, flat_map, range_with_len, sum_by}
use Rattle.addr_text.specs.declared.address.Addr.{Addr}
use Rattle.addr_text.specs.declared.address.Addr.TheVariants.{V4}
use Rattle.addr_text.specs.declared.address.Prefix.{Prefix}
use Rattle.addr_text.specs.Addresses.{default_v4, default_v6}
use Rattle.toml.specs.Data.{Data, string}
use Rattle.topology_text.specs.Prefixes.{all_prefixes, count_at, duplicate_prefixes, has_prefix, is_past, is_same_prefix, no_default, passing, place_of, prefixes_at, prefixes_from, total}
use Rattle.topology_text.specs.Values.{is_bad_address, is_bad_prefix}
use Rattle.topology_text.specs.Walk.{Visit, items_at, marked_from}
use Rattle.topology_text.specs.declared.prefixes.PrefixAt.{PrefixAt}
use Rattle.topology_text.specs.declared.schema.Key.TheVariants.{A, Prefixes}
use Rattle.topology_text.specs.declared.schema.At.TheVariants.{Whole}
use Rattle.big_world.specs.declared.TheConstants.{LARGEST_WORLD}
use Rattle.big_world.specs.Topology.{block_text, host_text, nodes_of}
use Rattle.big_world.specs.World.{entry_data, group_data, prefixes_data}
use Rattle.big_world_read.proofs.Addresses.{block_of, block_read, default_v4_read, default_v6_read, host_read}
use Rattle.big_world_read.proofs.Numbered.{listed_again}
use Rattle.big_world_read.proofs.Visits.{group_entry, group_visit, members_of, node_visit, top_visit, visits, zone_visit}

-- the prefix of a group behind the first
abbrev pub block_prefix : ℕ → Prefix
block_prefix i = record { addr = V4 (block_of i * 256); len = 24 }

-- where each prefix stands
abbrev pub all_v4_at : PrefixAt
all_v4_at = record { prefix = default_v4; group = 0; item = 0 }

abbrev pub all_v6_at : PrefixAt
all_v6_at = record { prefix = default_v6; group = 0; item = 1 }

abbrev pub block_at : ℕ → PrefixAt
block_at i = record { prefix = block_prefix i; group = i; item = 0 }

-- all of them: two of group 0, and one of each other
abbrev pub world_prefixes : ℕ → List PrefixAt
world_prefixes n = all_v4_at ∷ all_v6_at ∷ map block_at (range_with_len 1 (n - 1))

-- each item of `prefixes` is a prefix
no_bad_block : (i : ℕ) → i < LARGEST_WORLD → is_bad_prefix Prefixes (string (block_text i)) ≡ false
no_bad_block i small = ap (λ (o : Option Prefix). not (is_some o)) (block_read i small)

pub no_bad_prefix : (i : ℕ) → i < LARGEST_WORLD → AllByRecursion (λ d. is_bad_prefix Prefixes d ≡ false) (prefixes_data i)
unfolding prefixes_data
no_bad_prefix i small = go (i == 0)
  where
    go : (b : Bool) → AllByRecursion (λ d. is_bad_prefix Prefixes d ≡ false) (if b then string (codes "0.0.0.0/0") ∷ string (codes "::/0") ∷ [] else string (block_text i) ∷ [])
    go true = (ap (λ (o : Option Prefix). not (is_some o)) default_v4_read, (ap (λ (o : Option Prefix). not (is_some o)) default_v6_read, tt))
    go false = (no_bad_block i small, tt)

-- the item of a pool's `a` is an address of version 4
pub no_bad_host : (i j : ℕ) → i < 65536 → j < 255 → is_bad_address A (string (host_text i j)) ≡ false
no_bad_host i j small few = ap (λ (o : Option Addr). not (is_some o)) (host_read i j small few)

-- the items of a group
group_items : (n i : ℕ) → items_at (members_of (group_entry n i)) Prefixes ≡ prefixes_data i
unfolding group_data entry_data
group_items n i = listed_again (prefixes_data i)

-- the prefixes of a table
abbrev seen : Visit → List PrefixAt
seen v = prefixes_at v.spot (items_at v.members Prefixes)

first_items : prefixes_from 0 0 (prefixes_data 0) ≡ all_v4_at ∷ all_v6_at ∷ []
unfolding prefixes_data
first_items =
    ap (λ (o : Option Prefix). cons_option (option_map (λ x. record { prefix = x; group = 0; item = 0 }) o) (prefixes_from 0 1 (string (codes "::/0") ∷ []))) default_v4_read
    ∙ ap (λ (o : Option Prefix). all_v4_at ∷ cons_option (option_map (λ x. record { prefix = x; group = 0; item = 1 }) o) []) default_v6_read

later_items : (i : ℕ) → 1 ≤ i → i < LARGEST_WORLD → prefixes_from i 0 (prefixes_data i) ≡ block_at i ∷ []
unfolding prefixes_data
later_items i some small =
    let other : (i == 0) ≡ false = grind (arith, nat_tests) in
    ap (λ (b : Bool). prefixes_from i 0 (if b then string (codes "0.0.0.0/0") ∷ string (codes "::/0") ∷ [] else string (block_text i) ∷ [])) other
    ∙ ap (λ (o : Option Prefix). cons_option (option_map (λ x. record { prefix = x; group = i; item = 0 }) o) []) (block_read i small)

first_seen : (n : ℕ) → seen (group_visit n 0) ≡ all_v4_at ∷ all_v6_at ∷ []
first_seen n = ap (λ (ds : List Data). prefixes_from 0 0 ds) (group_items n 0) ∙ first_items

later_seen : (n i : ℕ) → 1 ≤ i → i < LARGEST_WORLD → seen (group_visit n i) ≡ block_at i ∷ []
later_seen n i some small = ap (λ (ds : List Data). prefixes_from i 0 ds) (group_items n i) ∙ later_items i some small

-- no node has one
nodes_seen : (n a k : ℕ) → flat_map seen (map (node_visit n) (range_with_len a k)) ≡ []
nodes_seen n a zero = refl
nodes_seen n a (suc k) = nodes_seen n (a + 1) k

groups_seen : (n a k : ℕ) → 1 ≤ a → a + k ≤ LARGEST_WORLD → flat_map seen (map (group_visit n) (range_with_len a k)) ≡ map block_at (range_with_len a k)
groups_seen n a zero some most = refl
groups_seen n a (suc k) some most =
    ap (λ (es : List PrefixAt). es ++ flat_map seen (map (group_visit n) (range_with_len (a + 1) k))) (later_seen n a some (omega arith))
    ∙ ap (λ (es : List PrefixAt). block_at a ∷ es) (groups_seen n (a + 1) k (omega arith) (omega arith))

pub prefixes_are : (n : ℕ) → 1 ≤ n → n ≤ LARGEST_WORLD → all_prefixes (visits n) ≡ world_prefixes n
prefixes_are zero some most = absurd (omega arith)
prefixes_are (suc m) some most =
    let n = suc m in
    let nodes = map (node_visit n) (range_with_len 0 (nodes_of n)) in
    let later = map (group_visit n) (range_with_len 1 m) in
    let less : suc m - 1 ≡ m = omega arith in
    flat_map-append seen nodes (group_visit n 0 ∷ later)
    ∙ ap (λ (es : List PrefixAt). es ++ flat_map seen (group_visit n 0 ∷ later)) (nodes_seen n 0 (nodes_of n))
    ∙ ap (λ (es : List PrefixAt). es ++ flat_map seen later) (first_seen n)
    ∙ ap (λ (es : List PrefixAt). all_v4_at ∷ all_v6_at ∷ es) (groups_seen n 1 m (omega arith) (omega arith))
    ∙ ap (λ (k : ℕ). all_v4_at ∷ all_v6_at ∷ map block_at (range_with_len 1 k)) (sym less)

-- all addresses of either version are held
pub defaults_there : (n : ℕ) → 1 ≤ n → n ≤ LARGEST_WORLD → no_default (all_prefixes (visits n)) ≡ []
defaults_there n some most = ap no_default (prefixes_are n some most)

-- the prefix of a group is not that of an earlier one
block_apart : (a c : ℕ) → a < c → is_same_prefix (block_prefix c) (block_prefix a) ≡ false
block_apart a c before =
    let above : block_of a * 256 < block_of c * 256 = omega arith in
    let other : (block_of c * 256 == block_of a * 256) ≡ false = grind (arith, nat_tests) in
    ap (λ (b : Bool). b && (24 == 24)) other

block_new : (a k c : ℕ) → a + k ≤ c → has_prefix (map block_at (range_with_len a k)) (block_prefix c) ≡ false
block_new a zero c above = refl
block_new a (suc k) c above =
    ap (λ (b : Bool). b || has_prefix (map block_at (range_with_len (a + 1) k)) (block_prefix c)) (block_apart a c (omega arith)) ∙ block_new (a + 1) k c (omega arith)

-- nor one of the two of group 0
not_v4 : (i : ℕ) → is_same_prefix (block_prefix i) default_v4 ≡ false
not_v4 i = let other : (block_of i * 256 == 0) ≡ false = grind (arith, nat_tests) in ap (λ (b : Bool). b && (24 == 0)) other

-- nothing is marked in a list that is made number by number
none_marked : {X : Type 0} (test : ℕ → X → Bool) (f : ℕ → X) (i a k : ℕ) → ((j : ℕ) → j < k → test (i + j) (f (a + j)) ≡ false) → marked_from test i (map f (range_with_len a k)) ≡ []
none_marked test f i a zero never = refl
none_marked test f i a (suc k) never =
    let i_now : i + 0 ≡ i = omega arith in
    let a_now : a + 0 ≡ a = omega arith in
    let here : test i (f a) ≡ false = sym (ap (λ (m : ℕ). test m (f (a + 0))) i_now ∙ ap (λ (m : ℕ). test i (f m)) a_now) ∙ never 0 (omega arith) in
    ap (λ (b : Bool). cond b ((i, f a) ∷ marked_from test (i + 1) (map f (range_with_len (a + 1) k))) (marked_from test (i + 1) (map f (range_with_len (a + 1) k)))) here
    ∙ none_marked test f (i + 1) (a + 1) k (λ j below.
    let i_next : (i + 1) + j ≡ i + suc j = omega arith in
    let a_next : (a + 1) + j ≡ a + suc j = omega arith in
    ap (λ (m : ℕ). test m (f ((a + 1) + j))) i_next ∙ ap (λ (m : ℕ). test (i + suc j) (f m)) a_next ∙ never (suc j) (omega arith))

-- no prefix stands earlier too
twice_test : (m j : ℕ) → j < m → has_prefix (take (2 + j) (all_v4_at ∷ all_v6_at ∷ map block_at (range_with_len 1 m))) (block_prefix (1 + j)) ≡ false
twice_test m j below =
    let two : 2 + j ≡ suc (suc j) = omega arith in
    ap (λ (k : ℕ). has_prefix (take k (all_v4_at ∷ all_v6_at ∷ map block_at (range_with_len 1 m))) (block_prefix (1 + j))) two
    ∙ ap (λ (es : List PrefixAt). has_prefix (all_v4_at ∷ all_v6_at ∷ es) (block_prefix (1 + j))) (take-map-range_with_len block_at 1 m j (omega arith))
    ∙ ap (λ (b : Bool). b || has_prefix (all_v6_at ∷ map block_at (range_with_len 1 j)) (block_prefix (1 + j))) (not_v4 (1 + j))
    ∙ block_new 1 j (1 + j) (omega arith)

twice_none : (m : ℕ) → duplicate_prefixes (all_v4_at ∷ all_v6_at ∷ map block_at (range_with_len 1 m)) ≡ []
twice_none m =
    let es : List PrefixAt = all_v4_at ∷ all_v6_at ∷ map block_at (range_with_len 1 m) in
    ap (map (λ (p : ℕ × PrefixAt). place_of p.1)) (none_marked (λ i e. has_prefix (take i es) e.prefix) block_at 2 1 m (λ j below. twice_test m j below))

pub prefixes_once : (n : ℕ) → 1 ≤ n → n ≤ LARGEST_WORLD → duplicate_prefixes (all_prefixes (visits n)) ≡ []
prefixes_once n some most = ap duplicate_prefixes (prefixes_are n some most) ∙ twice_none (n - 1)

-- no table has more than two
abbrev count : Visit → ℕ
count v = count_at v.spot (items_at v.members Prefixes)

few_data : (i : ℕ) → length (prefixes_data i) ≤ 2
unfolding prefixes_data
few_data i = go (i == 0)
  where
    go : (b : Bool) → length (if b then string (codes "0.0.0.0/0") ∷ string (codes "::/0") ∷ [] else string (block_text i) ∷ []) ≤ 2
    go true = omega arith
    go false = omega arith

few_items : (n i : ℕ) → count (group_visit n i) ≤ 2
few_items n i = let same : count (group_visit n i) ≡ length (prefixes_data i) = ap length (group_items n i) in omega (arith, same, few_data i)

few_sum : (g : ℕ → Visit) (a k : ℕ) → ((p : ℕ) → count (g p) ≤ 2) → sum_by count (map g (range_with_len a k)) ≤ 2 * k
few_sum g a zero few = omega arith
few_sum g a (suc k) few = omega (arith, sum_by-cons count (g a) (map g (range_with_len (a + 1) k)), few a, few_sum g (a + 1) k few)

few_nodes : (n p : ℕ) → count (node_visit n p) ≤ 2
few_nodes n p = omega arith

few_prefixes : (n : ℕ) → n ≤ LARGEST_WORLD → total (visits n) ≤ 262144
few_prefixes n most =
    let nodes = map (node_visit n) (range_with_len 0 (nodes_of n)) in
    let groups = map (group_visit n) (range_with_len 0 n) in
    let few : nodes_of n ≤ 1285 = omega arith in
    let first : total (visits n) ≡ 0 + sum_by count (zone_visit ∷ nodes ++ groups) = sum_by-cons count (top_visit n) (zone_visit ∷ nodes ++ groups) in
    let second : sum_by count (zone_visit ∷ nodes ++ groups) ≡ 0 + sum_by count (nodes ++ groups) = sum_by-cons count zone_visit (nodes ++ groups) in
    let parts : sum_by count (nodes ++ groups) ≡ sum_by count nodes + sum_by count groups = sum_by-append count nodes groups in
    let of_nodes : sum_by count nodes ≤ 2 * nodes_of n = few_sum (node_visit n) 0 (nodes_of n) (few_nodes n) in
    let of_groups : sum_by count groups ≤ 2 * n = few_sum (group_visit n) 0 n (few_items n) in
    omega arith

-- the total never passes its limit
never_past : (n k : ℕ) → n ≤ LARGEST_WORLD → is_past (visits n) k ≡ false
never_past n k most =
    let part : total (take k (visits n)) ≤ total (visits n) = sum_by-take-le count (visits n) k in
    let whole = few_prefixes n most in
    grind (arith, nat_tests)

unmarked : {X : Type 0} (test : ℕ → X → Bool) (i : ℕ) (xs : List X) → ((j : ℕ) (x : X) → test j x ≡ false) → marked_from test i xs ≡ []
unmarked test i [] never = refl
unmarked test i (x ∷ xs) never =
    ap (λ (b : Bool). cond b ((i, x) ∷ marked_from test (i + 1) xs) (marked_from test (i + 1) xs)) (never i x) ∙ unmarked test (i + 1) xs never

pub never_passing : (n : ℕ) → n ≤ LARGEST_WORLD → passing (visits n) ≡ []
never_passing n most =
    let test : ℕ → Visit → Bool = λ i v. is_past (visits n) (i + 1) && not (is_past (visits n) i) in
    ap (map (λ (p : ℕ × Visit). record { spot = p.1.spot; key = Some Prefixes; at = Whole }))
    (unmarked test 0 (visits n) (λ i v. ap (λ (b : Bool). b && not (is_past (visits n) i)) (never_past n (i + 1) most)))
