-- A table without faults is sound: what the rules say of its prefixes.
use Rattle.std.proofs.Common.{◌≡◌, ℕ, ◌+◌, ◌<◌, ◌≤◌, suc, zero, Bool, true, false, not, ◌&&◌, ◌||◌, ◌==◌, nat_lt, List, [], ◌∷◌, ◌++◌, length, get_or, map, take, Option, None, Some, option_map, All, AllPairs, Contains, refl, ap, sym, ◌∙◌, subst, arith}
use Rattle.std.proofs.lemmas.Bool.{and_parts}
use Rattle.std.proofs.lemmas.Bool.Decides.{nat_tests}
use Rattle.std.proofs.lemmas.List.{get_or-map, get_or-take, length-append, length-map, length-take-le}
use Rattle.std.proofs.Math.Seq.{take-length}
use Rattle.std.proofs.lemmas.List.Concat.{flat_map-append}
use Rattle.std.proofs.lemmas.List.Sums.{sum_by-append}
use Rattle.std.proofs.lemmas.List.Elements.{All-append, All-cons, All-nil}
use Rattle.std.specs.List.{cons_option}
use Rattle.addr_text.specs.declared.address.Addr.{Addr}
use Rattle.addr_text.specs.declared.address.Addr.TheVariants.{V4, V6}
use Rattle.addr_text.specs.declared.address.Prefix.{Prefix}
use Rattle.addr_text.specs.Addresses.{IsPrefix, default_v4, default_v6}
use Rattle.addr_text.proofs.Prefixed.{prefix_is}
use Rattle.toml.specs.Data.{Data, Members, no_members, string, integer, float, boolean, datetime, array, table}
use Rattle.topology_text.specs.Faults.{faults_of}
use Rattle.topology_text.specs.Names.{entries_of}
use Rattle.topology_text.specs.Plan.{ArePrefixes}
use Rattle.topology_text.specs.Prefixes.{all_prefixes, count_at, duplicate_prefixes, has_prefix, is_past, is_same_addr, is_same_prefix, lacking, passing, prefix_in, prefixes_at, prefixes_from, total}
use Rattle.topology_text.specs.Topology.{owned}
use Rattle.topology_text.specs.Walk.{Visit, entries_from, items_at, value_at, walk, zone_visits}
use Rattle.topology_text.specs.declared.prefixes.PrefixAt.{PrefixAt}
use Rattle.topology_text.specs.declared.schema.Key.TheVariants.{Zone, Node, Group, Class, Prefixes}
use Rattle.topology_text.specs.declared.schema.Spot.{Spot}
use Rattle.topology_text.specs.declared.schema.Spot.TheVariants.{Top, ZoneTable, NodeTable, GroupTable, ClassTable, Family}
use Rattle.topology_text.proofs.Clean.{quiet}
use Rattle.topology_text.proofs.Quiet.{empty_first, empty_map, empty_second}
use Rattle.topology_text.proofs.Repeats.{none_marked}
use Rattle.topology_text.proofs.Totals.{passes}
use Rattle.topology_text.proofs.Twice.{is_later}

-- prefixes of one text are one prefix
same_addr : (a b : Addr) → is_same_addr a b ≡ true → a ≡ b
same_addr (V4 m) (V4 n) h = let e : m ≡ n = grind (arith, nat_tests) in ap V4 e
same_addr (V4 m) (V6 n) h = cc
same_addr (V6 m) (V4 n) h = cc
same_addr (V6 m) (V6 n) h = let e : m ≡ n = grind (arith, nat_tests) in ap V6 e

made : Addr → ℕ → Prefix
made a n = record { addr = a; len = n }

same_prefix : (p q : Prefix) → is_same_prefix p q ≡ true → p ≡ q
unfolding made
same_prefix p q h =
    let (a, l) = and_parts (is_same_addr p.addr q.addr) (p.len == q.len) h in
    let e : p.len ≡ q.len = grind (arith, nat_tests) in
    ap (λ x. made x p.len) (same_addr p.addr q.addr a) ∙ ap (made q.addr) e

own_addr : (a : Addr) → is_same_addr a a ≡ true
own_addr (V4 m) = grind (arith, nat_tests)
own_addr (V6 m) = grind (arith, nat_tests)

own_prefix : (p : Prefix) → is_same_prefix p p ≡ true
own_prefix p = let e : (p.len == p.len) ≡ true = grind (arith, nat_tests) in ap (λ b. b && (p.len == p.len)) (own_addr p.addr) ∙ e

-- an entry that has a prefix
has_at : (es : List PrefixAt) (p : Prefix) (i : ℕ) (d : PrefixAt) → i < length es → (get_or es i d).prefix ≡ p → has_prefix es p ≡ true
has_at [] p i d l is = absurd (omega arith)
has_at (e ∷ es) p zero d l is = ap (λ b. b || has_prefix es p) (ap (is_same_prefix p) is ∙ own_prefix p)
has_at (e ∷ es) p (suc i) d l is = right (is_same_prefix p e.prefix) (has_at es p i d (omega arith) is)
  where
    right : (b : Bool) → has_prefix es p ≡ true → (b || has_prefix es p) ≡ true
    right true h = refl
    right false h = h

-- each prefix stands once
twice_not : (es : List PrefixAt) → duplicate_prefixes es ≡ [] → AllPairs (λ a b. a.0 ≡ b.0 → ⊥) (map owned es)
twice_not es none i j d before h same =
    let l : j < length es = omega (arith, length-map es owned) in
    let p : PrefixAt = record { prefix = d.0; group = d.1.0; item = 0 } in
    let left : get_or (map owned es) i d ≡ owned (get_or es i p) = get_or-map owned es i p d (omega arith) in
    let right : get_or (map owned es) j d ≡ owned (get_or es j p) = get_or-map owned es j p d l in
    let one : (get_or es i p).prefix ≡ (get_or es j p).prefix = sym (ap (λ e. e.0) left) ∙ same ∙ ap (λ e. e.0) right in
    let len : length (take j es) ≡ j = length-take-le j es (omega arith) in
    let there : has_prefix (take j es) (get_or es j p).prefix ≡ true = has_at (take j es) (get_or es j p).prefix i p (omega arith) (ap (λ (e : PrefixAt). e.prefix) (get_or-take j es i p before) ∙ one) in
    let never : is_later es (0 + j) (get_or es j p) ≡ false = none_marked (is_later es) 0 es (empty_map _ _ none) j p l in
    let e : 0 + j ≡ j = omega arith in
    let never2 : has_prefix (take j es) (get_or es j p).prefix ≡ false = rw e at never in
    cc

-- a default prefix is there
default_at : (es : List PrefixAt) (p : Prefix) → has_prefix es p ≡ true → Contains (map (λ e. e.0) (map owned es)) p
default_at [] p h = cc
default_at (e ∷ es) p h = here (is_same_prefix p e.prefix) refl h (λ q. default_at es p q)
  where
    here : (b : Bool) → is_same_prefix p e.prefix ≡ b → (b || has_prefix es p) ≡ true → (has_prefix es p ≡ true → Contains (map (λ x. x.0) (map owned es)) p) → Contains (map (λ x. x.0) (map owned (e ∷ es))) p
    here true is q more = (0, omega arith, sym (same_prefix p e.prefix is))
    here false is q more = let (k, l, at) = more q in (suc k, omega arith, at)

not_lacking : (family : ℕ) (there : Bool) → lacking family there ≡ [] → there ≡ true
not_lacking family true h = refl
not_lacking family false h = cc

-- no more prefixes than items
few_from : (g i : ℕ) (ds : List Data) → length (prefixes_from g i ds) ≤ length ds
few_from g i [] = omega arith
few_from g i (d ∷ ds) = one (option_map (λ x. record { prefix = x; group = g; item = i }) (prefix_in d)) (few_from g (i + 1) ds)
  where
    one : (o : Option PrefixAt) → length (prefixes_from g (i + 1) ds) ≤ length ds → length (cons_option o (prefixes_from g (i + 1) ds)) ≤ suc (length ds)
    one None h = omega arith
    one (Some p) h = omega arith

few_at : (spot : Spot) (ds : List Data) → length (prefixes_at spot ds) ≤ count_at spot ds
few_at Top ds = omega arith
few_at ZoneTable ds = omega arith
few_at (NodeTable n) ds = omega arith
few_at (GroupTable g) ds = few_from g 0 ds
few_at (ClassTable c) ds = omega arith
few_at (Family f) ds = omega arith

few_all : (visits : List Visit) → length (all_prefixes visits) ≤ total visits
few_all [] = omega arith
few_all (v ∷ vs) =
    let h = few_all vs in
    let k = few_at v.spot (items_at v.members Prefixes) in
    let e : length (all_prefixes (v ∷ vs)) ≡ length (prefixes_at v.spot (items_at v.members Prefixes)) + length (all_prefixes vs) = length-append (prefixes_at v.spot (items_at v.members Prefixes)) (all_prefixes vs) in
    let t : total (v ∷ vs) ≡ (0 + count_at v.spot (items_at v.members Prefixes)) + total vs = sum_by-append (λ w. count_at w.spot (items_at w.members Prefixes)) (v ∷ []) vs in
    omega arith

-- no table passes the limit: the total does not
not_past : (visits : List Visit) → passing visits ≡ [] → (n : ℕ) → n ≤ length visits → is_past visits n ≡ false
not_past visits none zero h = refl
not_past visits none (suc n) h = apart (is_past visits n) (is_past visits (suc n)) (not_past visits none n (omega arith)) step
  where
    apart : (a b : Bool) → a ≡ false → (b && not a) ≡ false → b ≡ false
    apart true b e q = cc
    apart false true e q = cc
    apart false false e q = refl

    blank : Visit
    blank = record { spot = Top; members = no_members }

    step : (is_past visits (suc n) && not (is_past visits n)) ≡ false
    step =
        let e : 0 + n ≡ n = omega arith in
        let f : n + 1 ≡ suc n = omega arith in
        rw f at (rw e at (none_marked (passes visits) 0 visits (empty_map _ _ none) n blank (omega arith)))

total_within : (visits : List Visit) → passing visits ≡ [] → total visits ≤ 262144
total_within visits none =
    let past : nat_lt 262144 (total (take (length visits) visits)) ≡ false = not_past visits none (length visits) (omega arith) in
    let whole : nat_lt 262144 (total visits) ≡ false = ap (λ vs. nat_lt 262144 (total vs)) (sym (take-length visits)) ∙ past in
    grind (arith, nat_tests)

-- each is a prefix
item_is : (d : Data) (p : Prefix) → prefix_in d ≡ Some p → IsPrefix p
item_is (string t) p h = prefix_is t p h
item_is (integer z) p h = cc
item_is (float x) p h = cc
item_is (boolean b) p h = cc
item_is (datetime t) p h = cc
item_is (array ds) p h = cc
item_is (table ms) p h = cc

from_is : (g i : ℕ) (ds : List Data) → All (λ e. IsPrefix e.prefix) (prefixes_from g i ds)
from_is g i [] = All-nil (λ e. IsPrefix e.prefix)
from_is g i (d ∷ ds) = one (prefix_in d) refl (from_is g (i + 1) ds)
  where
    one : (o : Option Prefix) → prefix_in d ≡ o → All (λ e. IsPrefix e.prefix) (prefixes_from g (i + 1) ds) → All (λ e. IsPrefix e.prefix) (cons_option (option_map (λ x. record { prefix = x; group = g; item = i }) o) (prefixes_from g (i + 1) ds))
    one None is rest = rest
    one (Some p) is rest = All-cons (λ e. IsPrefix e.prefix) (record { prefix = p; group = g; item = i }) (prefixes_from g (i + 1) ds) (item_is d p is) rest

at_is : (spot : Spot) (ds : List Data) → All (λ e. IsPrefix e.prefix) (prefixes_at spot ds)
at_is Top ds = All-nil (λ e. IsPrefix e.prefix)
at_is ZoneTable ds = All-nil (λ e. IsPrefix e.prefix)
at_is (NodeTable n) ds = All-nil (λ e. IsPrefix e.prefix)
at_is (GroupTable g) ds = from_is g 0 ds
at_is (ClassTable c) ds = All-nil (λ e. IsPrefix e.prefix)
at_is (Family f) ds = All-nil (λ e. IsPrefix e.prefix)

all_is : (visits : List Visit) → All (λ e. IsPrefix e.prefix) (all_prefixes visits)
all_is [] = All-nil (λ e. IsPrefix e.prefix)
all_is (v ∷ vs) = All-append (λ e. IsPrefix e.prefix) (prefixes_at v.spot (items_at v.members Prefixes)) (all_prefixes vs) (at_is v.spot (items_at v.members Prefixes)) (all_is vs)

-- each prefix stands in a group that is there
from_below : (g i n : ℕ) (ds : List Data) → g < n → All (λ e. e.group < n) (prefixes_from g i ds)
from_below g i n [] h = All-nil (λ e. e.group < n)
from_below g i n (d ∷ ds) h = one (prefix_in d) (from_below g (i + 1) n ds h)
  where
    one : (o : Option Prefix) → All (λ e. e.group < n) (prefixes_from g (i + 1) ds) → All (λ e. e.group < n) (cons_option (option_map (λ x. record { prefix = x; group = g; item = i }) o) (prefixes_from g (i + 1) ds))
    one None rest = rest
    one (Some p) rest = All-cons (λ e. e.group < n) (record { prefix = p; group = g; item = i }) (prefixes_from g (i + 1) ds) h rest

zone_below : (n : ℕ) (o : Option Data) → All (λ e. e.group < n) (all_prefixes (zone_visits o))
zone_below n None = All-nil (λ e. e.group < n)
zone_below n (Some (string t)) = All-nil (λ e. e.group < n)
zone_below n (Some (integer z)) = All-nil (λ e. e.group < n)
zone_below n (Some (float x)) = All-nil (λ e. e.group < n)
zone_below n (Some (boolean b)) = All-nil (λ e. e.group < n)
zone_below n (Some (datetime t)) = All-nil (λ e. e.group < n)
zone_below n (Some (array ds)) = All-nil (λ e. e.group < n)
zone_below n (Some (table ms)) = All-nil (λ e. e.group < n)

nodes_below : (n i : ℕ) (ds : List Data) → All (λ e. e.group < n) (all_prefixes (entries_from Node i ds))
nodes_below n i [] = All-nil (λ e. e.group < n)
nodes_below n i (string t ∷ es) = nodes_below n (i + 1) es
nodes_below n i (integer z ∷ es) = nodes_below n (i + 1) es
nodes_below n i (float x ∷ es) = nodes_below n (i + 1) es
nodes_below n i (boolean b ∷ es) = nodes_below n (i + 1) es
nodes_below n i (datetime t ∷ es) = nodes_below n (i + 1) es
nodes_below n i (array ds ∷ es) = nodes_below n (i + 1) es
nodes_below n i (table ms ∷ es) = nodes_below n (i + 1) es

classes_below : (n i : ℕ) (ds : List Data) → All (λ e. e.group < n) (all_prefixes (entries_from Class i ds))
classes_below n i [] = All-nil (λ e. e.group < n)
classes_below n i (string t ∷ es) = classes_below n (i + 1) es
classes_below n i (integer z ∷ es) = classes_below n (i + 1) es
classes_below n i (float x ∷ es) = classes_below n (i + 1) es
classes_below n i (boolean b ∷ es) = classes_below n (i + 1) es
classes_below n i (datetime t ∷ es) = classes_below n (i + 1) es
classes_below n i (array ds ∷ es) = classes_below n (i + 1) es
classes_below n i (table ms ∷ es) = classes_below n (i + 1) es

groups_below : (n i : ℕ) (ds : List Data) → i + length ds ≤ n → All (λ e. e.group < n) (all_prefixes (entries_from Group i ds))
groups_below n i [] h = All-nil (λ e. e.group < n)
groups_below n i (table ms ∷ es) h =
    All-append (λ e. e.group < n) (prefixes_from i 0 (items_at ms Prefixes)) (all_prefixes (entries_from Group (i + 1) es)) (from_below i 0 n (items_at ms Prefixes) (omega arith)) (groups_below n (i + 1) es (omega arith))
groups_below n i (string t ∷ es) h = groups_below n (i + 1) es (omega arith)
groups_below n i (integer z ∷ es) h = groups_below n (i + 1) es (omega arith)
groups_below n i (float x ∷ es) h = groups_below n (i + 1) es (omega arith)
groups_below n i (boolean b ∷ es) h = groups_below n (i + 1) es (omega arith)
groups_below n i (datetime t ∷ es) h = groups_below n (i + 1) es (omega arith)
groups_below n i (array ds ∷ es) h = groups_below n (i + 1) es (omega arith)

below_append : (n : ℕ) (xs ys : List Visit) → All (λ e. e.group < n) (all_prefixes xs) → All (λ e. e.group < n) (all_prefixes ys) → All (λ e. e.group < n) (all_prefixes (xs ++ ys))
below_append n xs ys a b =
    subst (All (λ e. e.group < n)) (sym (flat_map-append (λ (v : Visit). prefixes_at v.spot (items_at v.members Prefixes)) xs ys)) (All-append (λ e. e.group < n) (all_prefixes xs) (all_prefixes ys) a b)

walk_below : (top : Members) → All (λ e. e.group < length (items_at top Group)) (all_prefixes (walk top))
walk_below top =
    let n = length (items_at top Group) in
    below_append n (zone_visits (value_at top Zone) ++ entries_from Node 0 (items_at top Node) ++ entries_from Group 0 (items_at top Group)) (entries_from Class 0 (items_at top Class))
    (below_append n (zone_visits (value_at top Zone) ++ entries_from Node 0 (items_at top Node)) (entries_from Group 0 (items_at top Group))
    (below_append n (zone_visits (value_at top Zone)) (entries_from Node 0 (items_at top Node)) (zone_below n (value_at top Zone)) (nodes_below n 0 (items_at top Node)))
    (groups_below n 0 (items_at top Group) (omega arith)))
    (classes_below n 0 (items_at top Class))

pub prefixes_sound : (top : Members) → faults_of top ≡ [] → ArePrefixes (map owned (all_prefixes (walk top))) (length (entries_of top).groups)
prefixes_sound top h =
    let q = quiet top h in
    let es = all_prefixes (walk top) in
    record {
      few = omega (arith, length-map es owned, few_all (walk top), total_within (walk top) q.passed);
      each = λ k d l.
          let p : PrefixAt = record { prefix = d.0; group = d.1.0; item = 0 } in
          let m : k < length es = omega (arith, length-map es owned) in
          subst (λ e. IsPrefix e.0) (sym (get_or-map owned es k p d m)) (all_is (walk top) k p m);
      owned = λ k d l.
          let p : PrefixAt = record { prefix = d.0; group = d.1.0; item = 0 } in
          let m : k < length es = omega (arith, length-map es owned) in
          subst (λ e. e.1.0 < length (items_at top Group)) (sym (get_or-map owned es k p d m)) (walk_below top k p m);
      once = twice_not es q.twice;
      all_v4 = default_at es default_v4 (not_lacking 4 _ (empty_first _ _ q.defaults));
      all_v6 = default_at es default_v6 (not_lacking 6 _ (empty_second (lacking 4 (has_prefix es default_v4)) _ q.defaults));
    }
