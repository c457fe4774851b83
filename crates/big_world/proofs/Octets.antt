-- The text of a world is ASCII, and so UTF-8.
use Rattle.std.proofs.Common.{◌≡◌, ◌+◌, ◌%◌, ◌/◌, ◌-◌, ◌==◌, ◌++◌, if◌then◌else◌, Bool, true, false, codes, nat_lt, List, [], ◌∷◌, ℕ, zero, suc, refl, arith, IsAscii, ltb-true}
use Rattle.std.proofs.lemmas.Bool.{and_from, and_parts}
use Rattle.std.proofs.lemmas.Bool.Decides.{nat_tests}
use Rattle.std.proofs.lemmas.Str.{is_utf8-from_IsUtf8, IsUtf8-from_ascii}
use Rattle.std.specs.Fmt.{decimal}
use Rattle.std.specs.List.{list_all}
use Rattle.std.specs.Str.{is_utf8}
use Rattle.big_world.specs.Numbers.{behind, draw}
use Rattle.big_world.specs.Pieces.{ahead, listed, texts_below}
use Rattle.big_world.specs.declared.TheConstants.{ZONE}
use Rattle.big_world.specs.Topology.{address_line, ahead_of_groups, behind_group, block_text, capacity_line, capacity_of, demand_line, entry_text, group_name, group_text, groups_text, host_text, length_at, line, listed_pool, name_line, name_of_pool, node_text, nodes_of, nodes_text, parent_line, pool_name, pool_text, pools_line, pools_of, pools_text, prefixes_line, prefixes_text, quoted, region_name, region_text, score_at, scores_line, scores_text, topology_of}
use Rattle.big_world.proofs.GroupBlocks.{block_plain, group_plain}
use Rattle.big_world.proofs.NodeBlocks.{host_plain, pool_plain, region_plain}
use Rattle.big_world.proofs.Plain.{AllPass, AllPass-append, decimal_plain, is_plain}

-- each octet is below 128
abbrev is_low : ℕ → Bool
is_low c = nat_lt c 128

abbrev IsLow : List ℕ → Type 0
IsLow text = AllPass is_low text

joined_low : (front back : List ℕ) → IsLow front → IsLow back → IsLow (front ++ back)
joined_low front back f b = AllPass-append is_low front back f b

plain_low : (text : List ℕ) → AllPass is_plain text → IsLow text
plain_low [] h = refl
plain_low (c ∷ cs) h =
    let (here, more) = and_parts (is_plain c) (list_all is_plain cs) h in
    let low : is_low c ≡ true = grind (arith, nat_tests) in
    and_from (is_low c) (list_all is_low cs) low (plain_low cs more)

low_ascii : (text : List ℕ) → IsLow text → IsAscii text
low_ascii [] h i = omega arith
low_ascii (c ∷ cs) h zero = ltb-true c 128 (and_parts (is_low c) (list_all is_low cs) h).0
low_ascii (c ∷ cs) h (suc i) = low_ascii cs (and_parts (is_low c) (list_all is_low cs) h).1 i

low_below : (text_at : ℕ → List ℕ) → ((i : ℕ) → IsLow (text_at i)) → (k : ℕ) → IsLow (texts_below text_at k)
low_below text_at low zero = refl
low_below text_at low (suc k) = joined_low (texts_below text_at k) (text_at k) (low_below text_at low k) (low k)

low_quoted : (text : List ℕ) → AllPass is_plain text → IsLow (quoted text)
low_quoted text plain = joined_low text (34 ∷ []) (plain_low text plain) refl

low_decimal : (n : ℕ) → IsLow (decimal n)
low_decimal n = plain_low (decimal n) (decimal_plain n)

low_listed : (text_at : ℕ → List ℕ) → ((t : ℕ) → IsLow (text_at t)) → (k : ℕ) → IsLow (listed text_at k)
low_listed text_at low = low_below (λ t. (if t == 0 then [] else (44 ∷ 32 ∷ [])) ++ text_at t) (λ t. joined_low (if t == 0 then [] else (44 ∷ 32 ∷ [])) (text_at t) (mark (t == 0)) (low t))
  where
    mark : (b : Bool) → IsLow (if b then [] else (44 ∷ 32 ∷ []))
    mark true = refl
    mark false = refl

-- a line that begins with a mark, and one that ends with one too
low_line : (front text : List ℕ) → IsLow front → IsLow text → IsLow (line (front ++ text))
low_line front text f t = joined_low (front ++ text) (10 ∷ []) (joined_low front text f t) refl

low_array : (front text : List ℕ) → IsLow front → IsLow text → IsLow (line (front ++ text ++ codes "]"))
low_array front text f t = joined_low (front ++ text ++ codes "]") (10 ∷ []) (joined_low (front ++ text) (codes "]") (joined_low front text f t) refl) refl

-- the lines
low_address : (i j : ℕ) → IsLow (address_line i j)
unfolding address_line
low_address i j = low_array (codes "a = [") (quoted (host_text i j)) refl (low_quoted (host_text i j) (host_plain i j))

low_capacity : (capacity : ℕ) → IsLow (capacity_line capacity)
unfolding capacity_line
low_capacity capacity = low_line (codes "capacity = ") (decimal capacity) refl (low_decimal capacity)

low_name : (name : List ℕ) → AllPass is_plain name → IsLow (name_line name)
unfolding name_line
low_name name plain = low_line (codes "name = ") (quoted name) refl (low_quoted name plain)

low_parent : (i : ℕ) → IsLow (parent_line i)
unfolding parent_line
low_parent i = low_line (codes "parent = ") (quoted (region_name i)) refl (low_quoted (region_name i) (region_plain i))

low_demand : (demand : ℕ) → IsLow (demand_line demand)
unfolding demand_line
low_demand demand = low_line (codes "demand = ") (decimal demand) refl (low_decimal demand)

low_pools : (n s length : ℕ) → IsLow (pools_line n s length)
unfolding pools_line pools_text
low_pools n s length =
    let name_low = λ (t : ℕ). let q = listed_pool n s t in low_quoted (name_of_pool q) (pool_plain (q / 4) (q % 4)) in
    low_array (codes "pools = [") (pools_text n s length) refl (low_listed (λ t. quoted (name_of_pool (listed_pool n s t))) name_low length)

low_prefixes : (i : ℕ) → IsLow (prefixes_line i)
unfolding prefixes_line prefixes_text
low_prefixes i = low_array (codes "prefixes = [") (prefixes_text i) refl (by (i == 0))
  where
    by : (b : Bool) → IsLow (if b then codes "\"0.0.0.0/0\", \"::/0\"" else quoted (block_text i))
    by true = refl
    by false = low_quoted (block_text i) (block_plain i)

low_scores : (x length : ℕ) → IsLow (scores_line x length)
unfolding scores_line scores_text
low_scores x length = low_array (codes "scores = [") (scores_text x length) refl (low_listed (λ t. decimal (score_at x t)) (λ t. low_decimal (score_at x t)) length)

-- a table of five lines, with its header and an empty line
low_table : (header a b c d e : List ℕ) → IsLow header → IsLow a → IsLow b → IsLow c → IsLow d → IsLow e → IsLow (header ++ a ++ b ++ c ++ d ++ e ++ line [])
low_table header a b c d e header_low a_low b_low c_low d_low e_low =
    let first = joined_low header a header_low a_low in
    let second = joined_low (header ++ a) b first b_low in
    let third = joined_low (header ++ a ++ b) c second c_low in
    let fourth = joined_low (header ++ a ++ b ++ c) d third d_low in
    let last = joined_low (header ++ a ++ b ++ c ++ d) e fourth e_low in
    joined_low (header ++ a ++ b ++ c ++ d ++ e) (line []) last refl

low_region : (i capacity : ℕ) → IsLow (region_text i capacity)
unfolding region_text
low_region i capacity =
    let header = line (codes "[[node]]") in
    let first = joined_low header (capacity_line capacity) refl (low_capacity capacity) in
    let second = joined_low (header ++ capacity_line capacity) (name_line (region_name i)) first (low_name (region_name i) (region_plain i)) in
    joined_low (header ++ capacity_line capacity ++ name_line (region_name i)) (line []) second refl

low_pool : (i j capacity : ℕ) → IsLow (pool_text i j capacity)
unfolding pool_text
low_pool i j capacity =
    low_table (line (codes "[[node]]")) (address_line i j) (capacity_line capacity) (name_line (pool_name i j)) (parent_line i) (line (codes "pool = true"))
    refl (low_address i j) (low_capacity capacity) (low_name (pool_name i j) (pool_plain i j)) (low_parent i) refl

low_node : (p x : ℕ) → IsLow (node_text p x)
unfolding node_text
low_node p x = by (p % 5 == 0)
  where
    by : (b : Bool) → IsLow (if b then region_text (p / 5) (capacity_of p x) else pool_text (p / 5) (p % 5 - 1) (capacity_of p x))
    by true = low_region (p / 5) (capacity_of p x)
    by false = low_pool (p / 5) (p % 5 - 1) (capacity_of p x)

low_entry : (n i demand s length x : ℕ) → IsLow (entry_text n i demand s length x)
unfolding entry_text
low_entry n i demand s length x =
    low_table (line (codes "[[group]]")) (demand_line demand) (name_line (group_name i)) (pools_line n s length) (prefixes_line i) (scores_line x length)
    refl (low_demand demand) (low_name (group_name i) (group_plain i)) (low_pools n s length) (low_prefixes i) (low_scores x length)

low_group : (n i x : ℕ) → IsLow (group_text n i x)
unfolding group_text
low_group n i x = low_entry n i (1 + draw x 1 15) (draw x 3 (pools_of n)) (length_at n x) (behind x 3)

-- the text of a world is UTF-8
pub is_text : (n : ℕ) → is_utf8 (topology_of n) ≡ true
is_text n =
    let groups = low_below (λ i. group_text n i (ahead (behind_group n) (ahead_of_groups n) i)) (λ i. low_group n i (ahead (behind_group n) (ahead_of_groups n) i)) n in
    let nodes = low_below (λ p. node_text p (behind n p)) (λ p. low_node p (behind n p)) (nodes_of n) in
    let all = joined_low (groups_text n ++ nodes_text n) ZONE.now (joined_low (groups_text n) (nodes_text n) groups nodes) refl in
    is_utf8-from_IsUtf8 (topology_of n) (IsUtf8-from_ascii (topology_of n) (low_ascii (topology_of n) all))
