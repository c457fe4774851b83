-- A good map of the program is a good map.
use Rattle.std.proofs.Common.{◌≡◌, inl, inr, ℕ, zero, suc, ◌+◌, ◌-◌, ◌<◌, ◌≤◌, ◌==◌, ◌&&◌, ◌||◌, nat_lt, nat_le, Bool, true, false, if◌then◌else◌, List, [], ◌∷◌, length, map, sum_by, All, Contains, slice_get, slice_index_or, Option, None, Some, IsSome, IsTrue, option_map, option_and_then, refl, ap, sym, subst, ◌∙◌, arith, nat_cmp}
use Rattle.std.specs.Ordering.{ordering_then, is_le}
use Rattle.std.specs.List.{AllPairs, list_any, range_with_len}
use Rattle.std.proofs.lemmas.Bool.{cases_Bool, cases_order, cases_lt, and_parts, and_from, eqb-true, eq-eqb, ne_eqb, ltb-true, lt-ltb, le-ltb, or_cases, false≢true}
use Rattle.std.proofs.lemmas.Bool.Decides.{nat_tests}
use Rattle.std.proofs.lemmas.List.Sums.{sum_by-cons}
use Rattle.std.proofs.lemmas.List.Elements.{All-from_get_or}
use Rattle.std.proofs.lemmas.List.{length-map}
use Rattle.std.proofs.lemmas.Option.{same_Some, slice_get_within, none-some}
use Rattle.map_model.specs.declared.instance.Offer.{Offer}
use Rattle.map_model.specs.declared.lines.By.{By}
use Rattle.map_model.specs.declared.lines.By.TheVariants as by
use Rattle.map_model.specs.declared.lines.MapLine.{MapLine}
use Rattle.map_model.specs.declared.lines.NameLine.{NameLine}
use Rattle.map_model.specs.Market.{Market, capacity_of, choice_at, choices_of, demand_of, group_at, key_of, limit_of, node_at, path, pool_of}
use Rattle.map_model.specs.Allocation.{AreLines, IsOffer, amount_at, counts_at, is_at_limit, is_before, is_full_of_better, is_line, is_wanted, key_le, line_at, line_key, load, name_of, names_of, none_worse, offers_from, offers_of, placed_through, refuser_of, refusing_node, units_of}
use Rattle.map_model.specs.Allocation as code
use Rattle.headline.specs.Headline.{Has, IsAhead, IsAtLeast, IsFeasible, IsGood, Refuses, Wants, is_under, pool_at, units, up}
use Rattle.headline.specs.View.{Choice, Group, Line, Name, Node, choice, group, instance, line, name, node, node_of}
use Rattle.headline.specs.Headline as page
use Rattle.headline.proofs.Lists.{In, all_in, contains_from, found, from_flat, from_kept, from_map, from_range, got, in_flat, in_from, in_kept, in_map, in_range, sum_kept}
use Rattle.headline.proofs.Trees.{IsForest, climb_all, path_there, up_is}

-- OFFERS

pub has_of : (m : Market) (g k : ℕ) → IsOffer m g k → Has (instance m) g k (choice (choice_at m g k))
has_of m g k o = (group (group_at m g), got group m.groups g (record { demand = 0; choices = [] }) o.group, got choice (choices_of m g) k (record { pool = record { 0 = 0 }; score = 0; limit = 0 }) o.place)

pub at_same : {X : Type 0} (o : Option X) (x y : X) → o ≡ Some x → o ≡ Some y → x ≡ y
at_same o x y a b = same_Some x y (sym a ∙ b)

pub group_of : (m : Market) (g : ℕ) (G : Group) → slice_get (map group m.groups) g ≡ Some G → (g < length m.groups) × (group (group_at m g) ≡ G)
group_of m g G h =
    let within : g < length (map group m.groups) = slice_get_within (map group m.groups) g G h in
    let l : g < length m.groups = omega (arith, within, length-map m.groups group) in
    (l, at_same (slice_get (map group m.groups) g) _ G (got group m.groups g (record { demand = 0; choices = [] }) l) h)

pub group_has : (m : Market) (g : ℕ) → g < length m.groups → slice_get (instance m).groups g ≡ Some (group (group_at m g))
group_has m g l = got group m.groups g (record { demand = 0; choices = [] }) l

pub node_has : (m : Market) (n : ℕ) → n < length m.nodes → slice_get (instance m).nodes n ≡ Some (node (node_at m n))
node_has m n l = got node m.nodes n (record { capacity = 0; parent = None; is_pool = false }) l

pub node_of_page : (m : Market) (n : ℕ) (N : Node) → slice_get (map node m.nodes) n ≡ Some N → (n < length m.nodes) × (N.capacity ≡ capacity_of m n)
node_of_page m n N at =
    let within : n < length (map node m.nodes) = slice_get_within (map node m.nodes) n N at in
    let l : n < length m.nodes = omega (arith, within, length-map m.nodes node) in
    (l, ap (λ (x : Node). x.capacity) (sym (at_same (slice_get (map node m.nodes) n) _ N (node_has m n l) at)))

pub demand_is : (m : Market) (g : ℕ) (G : Group) → slice_get (map group m.groups) g ≡ Some G → (g < length m.groups) × (G.demand ≡ demand_of m g)
demand_is m g G at = let r = group_of m g G at in (r.0, ap (λ (x : Group). x.demand) (sym r.1))

pub offer_of : (m : Market) (g k : ℕ) (c : Choice) → Has (instance m) g k c → IsOffer m g k × (choice (choice_at m g k) ≡ c)
offer_of m g k c (G, at, h) =
    let there = group_of m g G at in
    let chosen : slice_get (map choice (choices_of m g)) k ≡ Some c = subst (λ (x : Group). slice_get x.choices k ≡ Some c) (sym there.1) h in
    let within : k < length (map choice (choices_of m g)) = slice_get_within (map choice (choices_of m g)) k c chosen in
    let l : k < length (choices_of m g) = omega (arith, within, length-map (choices_of m g) choice) in
    (record { group = there.0; place = l }, at_same (slice_get (map choice (choices_of m g)) k) _ c (got choice (choices_of m g) k (record { pool = record { 0 = 0 }; score = 0; limit = 0 }) l) chosen)

pub pool_there : (m : Market) → IsForest m → (g k : ℕ) → IsOffer m g k → pool_of m g k < length m.nodes
pool_there m ok g k o = ok.pools g k o

pool_is : (m : Market) (g k : ℕ) → IsOffer m g k → pool_at (instance m) g k ≡ Some (pool_of m g k)
pool_is m g k o =
    let h = has_of m g k o in
    ap (λ (x : Option Group). option_map (λ (c : Choice). c.pool) (option_and_then (λ (y : Group). slice_get y.choices k) x)) h.1 ∙ ap (option_map (λ (c : Choice). c.pool)) h.2

-- the path of a pool
pub path_is : (m : Market) → IsForest m → (n : ℕ) → n < length m.nodes → page.path (instance m) (Some n) ≡ path m n
path_is m ok n l =
    ap (λ most. up most (map node m.nodes) (Some n)) (length-map m.nodes node) ∙ up_is (length m.nodes) m (Some (record { 0 = n })) ∙ climb_all m ok (record { 0 = n }) l

-- LINES

offered : (m : Market) (lines : List MapLine) (i : ℕ) → is_line m lines i ≡ true → IsOffer m (line_at lines i).group.0 (line_at lines i).place
offered m lines i h =
    let a = and_parts _ _ h in
    let b = and_parts _ _ a.0 in
    let c = and_parts _ _ b.0 in
    record { group = ltb-true _ _ c.0; place = ltb-true _ _ c.1 }

pub some_units : (m : Market) (lines : List MapLine) (i : ℕ) → is_line m lines i ≡ true → 0 < (line_at lines i).amount
some_units m lines i h = ltb-true _ _ (and_parts _ _ (and_parts _ _ h).0).1

-- a line at an offer
abbrev At : Market → MapLine → Type 0
At m l = IsOffer m l.group.0 l.place

pub all_at : (m : Market) (lines : List MapLine) → AreLines m lines → (l : MapLine) → In lines l → At m l
all_at m lines form l i = from (contains_from lines l i)
  where
    from : Contains lines l → At m l
    from (k, within, is) =
        let all : All (At m) lines = All-from_get_or (At m) lines (record { group = record { 0 = 0 }; place = 0; amount = 0 }) (λ j low. offered m lines j (form j low)) in
        subst (At m) is (all k l within)

pub some_units_in : (m : Market) (lines : List MapLine) → AreLines m lines → (l : MapLine) → In lines l → 0 < l.amount
some_units_in m lines form l i = from (contains_from lines l i)
  where
    from : Contains lines l → 0 < l.amount
    from (k, within, is) =
        let all : All (λ (x : MapLine). 0 < x.amount) lines = All-from_get_or (λ (x : MapLine). 0 < x.amount) lines (record { group = record { 0 = 0 }; place = 0; amount = 0 }) (λ j low. some_units m lines j (form j low)) in
        subst (λ (x : MapLine). 0 < x.amount) is (all k l within)

-- SUMS

pub tested : (T : Line → Bool) (t : ℕ → ℕ → Bool) (lines : List MapLine) → ((l : MapLine) → In lines l → T (line l) ≡ t l.group.0 l.place) → units T (map line lines) ≡ units_of t lines
tested T t lines same = sum_kept (λ (l : Line). l.units) T (map line lines) ∙ go lines same
  where
    go : (ls : List MapLine) → ((l : MapLine) → In ls l → T (line l) ≡ t l.group.0 l.place) → sum_by (λ (l : Line). if T l then l.units else 0) (map line ls) ≡ units_of t ls
    go [] h = refl
    go (l ∷ ls) h =
        let here : (if T (line l) then l.amount else 0) ≡ (if t l.group.0 l.place then l.amount else 0) = ap (λ b. if b then l.amount else 0) (h l (inl refl)) in
        let rest : sum_by (λ (x : Line). if T x then x.units else 0) (map line ls) ≡ units_of t ls = go ls (λ x i. h x (inr i)) in
        omega (
          arith,
          sum_by-cons (λ (x : Line). if T x then x.units else 0) (line l) (map line ls),
          sum_by-cons (λ (x : MapLine). if t x.group.0 x.place then x.amount else 0) l ls,
          here,
          rest,
        )

pub placed_is : (lines : List MapLine) (g : ℕ) → page.placed (map line lines) g ≡ code.placed lines g
placed_is lines g = tested (λ l. l.group == g) (λ h _. h == g) lines (λ l i. refl)

pub amount_is : (lines : List MapLine) (g k : ℕ) → page.amount (map line lines) g k ≡ amount_at lines g k
amount_is lines g k = tested (λ l. l.group == g && l.place == k) (λ h j. (h == g) && (j == k)) lines (λ l i. refl)

pub under_is : (m : Market) → IsForest m → (n : ℕ) (l : MapLine) → At m l → is_under (instance m) n (line l) ≡ counts_at m n l.group.0 l.place
under_is m ok n l o =
    ap (λ at. list_any (λ x. x == n) (page.path (instance m) at)) (pool_is m l.group.0 l.place o) ∙ ap (list_any (λ x. x == n)) (path_is m ok (pool_of m l.group.0 l.place) (pool_there m ok l.group.0 l.place o))

pub load_is : (m : Market) → IsForest m → (lines : List MapLine) → AreLines m lines → (n : ℕ) → page.load (instance m) (map line lines) n ≡ load m lines n
load_is m ok lines form n = tested (is_under (instance m) n) (counts_at m n) lines (λ l i. under_is m ok n l (all_at m lines form l i))

-- PLACES THAT A GROUP WOULD RATHER USE

-- what a group has at places 0 to k and what it has behind them
split : (lines : List MapLine) (g k : ℕ) → code.placed lines g ≡ placed_through lines g k + units_of (λ h j. (h == g) && nat_lt k j) lines
split [] g k = refl
split (l ∷ ls) g k = omega (
  arith,
  sum_by-cons (λ (x : MapLine). if x.group.0 == g then x.amount else 0) l ls,
  sum_by-cons (λ (x : MapLine). if (x.group.0 == g) && nat_le x.place k then x.amount else 0) l ls,
  sum_by-cons (λ (x : MapLine). if (x.group.0 == g) && nat_lt k x.place then x.amount else 0) l ls,
  one (l.group.0 == g) l.place l.amount,
  split ls g k,
)
  where
    one : (b : Bool) (j a : ℕ) → (if b then a else 0) ≡ (if b && nat_le j k then a else 0) + (if b && nat_lt k j then a else 0)
    one b j a = grind (arith, nat_tests)

-- units that pass a test are those of some line, and of any line that passes it
pub some_line : (t : ℕ → ℕ → Bool) (lines : List MapLine) → 0 < units_of t lines → (l : MapLine) × In lines l × (t l.group.0 l.place ≡ true) × (0 < l.amount)
some_line t [] h = absurd (omega (arith, h))
some_line t (l ∷ ls) h = by (λ more. some_line t ls more) (t l.group.0 l.place) refl
  where
    sum_is : units_of t (l ∷ ls) ≡ (if t l.group.0 l.place then l.amount else 0) + units_of t ls
    sum_is = sum_by-cons (λ (x : MapLine). if t x.group.0 x.place then x.amount else 0) l ls

    by : (0 < units_of t ls → (x : MapLine) × In ls x × (t x.group.0 x.place ≡ true) × (0 < x.amount)) → (b : Bool) → t l.group.0 l.place ≡ b → (x : MapLine) × In (l ∷ ls) x × (t x.group.0 x.place ≡ true) × (0 < x.amount)
    by rest true is = elim (cases_lt 0 l.amount) [
      | inl some ↦ (l, inl refl, is, some)
      | inr none ↦ let c : (if t l.group.0 l.place then l.amount else 0) ≡ l.amount = rw is refl in let r = rest (omega (arith, c, sum_is, h, none)) in (r.0, inr r.1, r.2, r.3)
    ]
    by rest false is = let c : (if t l.group.0 l.place then l.amount else 0) ≡ 0 = rw is refl in let r = rest (omega (arith, c, sum_is, h)) in (r.0, inr r.1, r.2, r.3)

pub at_least : (t : ℕ → ℕ → Bool) (lines : List MapLine) (l : MapLine) → In lines l → t l.group.0 l.place ≡ true → l.amount ≤ units_of t lines
at_least t [] l i h = absurd i
at_least t (x ∷ xs) l (inl e) h =
    let is : t x.group.0 x.place ≡ true = subst (λ (v : MapLine). t v.group.0 v.place ≡ true) (sym e) h in
    let c : (if t x.group.0 x.place then x.amount else 0) ≡ x.amount = rw is refl in
    let same : x.amount ≡ l.amount = ap (λ (v : MapLine). v.amount) e in
    omega (arith, c, sum_by-cons (λ (v : MapLine). if t v.group.0 v.place then v.amount else 0) x xs, same)
at_least t (x ∷ xs) l (inr i) h = omega (arith, sum_by-cons (λ (v : MapLine). if t v.group.0 v.place then v.amount else 0) x xs, at_least t xs l i h)

pub wanted_from : (m : Market) (lines : List MapLine) (g k : ℕ) → code.placed lines g ≤ demand_of m g → Wants (instance m) (map line lines) g k → IsTrue (is_wanted m lines g k)
wanted_from m lines g k fits (G, at, h) =
    let there = group_of m g G at in
    let asks : G.demand ≡ demand_of m g = ap (λ (x : Group). x.demand) (sym there.1) in
    lt-ltb (placed_through lines g k) (demand_of m g) (elim h [
      | inl less ↦ omega (arith, less, placed_is lines g, asks, split lines g k)
      | inr later ↦ behind later
    ])
  where
    behind : (l : Line) × Contains (map line lines) l × (l.group ≡ g) × (k < l.place) × (0 < l.units) → placed_through lines g k < demand_of m g
    behind (l, c, of, past, some) =
        let r = from_map line lines l (in_from (map line lines) l c) in
        let of' : r.0.group.0 ≡ g = ap (λ (v : Line). v.group) r.2 ∙ of in
        let place : r.0.place ≡ l.place = ap (λ (v : Line). v.place) r.2 in
        let units : r.0.amount ≡ l.units = ap (λ (v : Line). v.units) r.2 in
        let test : ((r.0.group.0 == g) && nat_lt k r.0.place) ≡ true = and_from _ _ (eq-eqb _ _ of') (lt-ltb _ _ (omega (arith, past, place))) in
        omega (arith, fits, split lines g k, at_least (λ h j. (h == g) && nat_lt k j) lines r.0 r.1 test, units, some)

pub wants_from : (m : Market) (lines : List MapLine) (g k : ℕ) → g < length m.groups → IsTrue (is_wanted m lines g k) → Wants (instance m) (map line lines) g k
wants_from m lines g k l h = (
  group (group_at m g),
  got group m.groups g (record { demand = 0; choices = [] }) l,
  elim (cases_lt (code.placed lines g) (demand_of m g)) [
    | inl less ↦ inl (omega (arith, less, placed_is lines g))
    | inr all ↦ inr (behind (some_line (λ h j. (h == g) && nat_lt k j) lines (omega (arith, all, split lines g k, ltb-true (placed_through lines g k) (demand_of m g) h))))
  ],
)
  where
    behind : (l : MapLine) × In lines l × (((l.group.0 == g) && nat_lt k l.place) ≡ true) × (0 < l.amount) → (l : Line) × Contains (map line lines) l × (l.group ≡ g) × (k < l.place) × (0 < l.units)
    behind (x, i, test, some) = let parts = and_parts (x.group.0 == g) (nat_lt k x.place) test in (line x, contains_from (map line lines) (line x) (in_map line lines x i), eqb-true _ _ parts.0, ltb-true _ _ parts.1, some)

-- WHAT REFUSES

at_least_from : (s g p t h q : ℕ) → is_le (ordering_then (nat_cmp s t) (ordering_then (nat_cmp g h) (nat_cmp p q))) ≡ true → IsAtLeast s g p t h q
at_least_from s g p t h q le = elim (cases_order s t) [
  | inl e ↦ inr (
    e,
    elim (cases_order g h) [
      | inl f ↦ inr (
        f,
        elim (cases_lt q p) [
          | inl more ↦ absurd (false≢true (sym (worse e f more) ∙ le))
          | inr less ↦ less
        ],
      )
      | inr (inl less) ↦ inl less
      | inr (inr more) ↦ absurd (false≢true (sym (later e more) ∙ le))
    ],
  )
  | inr (inl less) ↦ inl less
  | inr (inr more) ↦ absurd (false≢true (sym (last more) ∙ le))
]
  where
    order : Type 0
    order = is_le (ordering_then (nat_cmp s t) (ordering_then (nat_cmp g h) (nat_cmp p q))) ≡ false

    last : t < s → is_le (ordering_then (nat_cmp s t) (ordering_then (nat_cmp g h) (nat_cmp p q))) ≡ false
    last more = let a : nat_lt s t ≡ false = le-ltb s t (omega arith) in let b : (s == t) ≡ false = ne_eqb s t (λ e. absurd (omega arith)) in rw (a, b) refl

    later : s ≡ t → h < g → is_le (ordering_then (nat_cmp s t) (ordering_then (nat_cmp g h) (nat_cmp p q))) ≡ false
    later e more =
        let a : nat_lt s t ≡ false = le-ltb s t (omega arith) in let b : (s == t) ≡ true = eq-eqb s t e in
        let c : nat_lt g h ≡ false = le-ltb g h (omega arith) in let d : (g == h) ≡ false = ne_eqb g h (λ e. absurd (omega arith)) in
        rw (a, b, c, d) refl

    worse : s ≡ t → g ≡ h → q < p → is_le (ordering_then (nat_cmp s t) (ordering_then (nat_cmp g h) (nat_cmp p q))) ≡ false
    worse e f more =
        let a : nat_lt s t ≡ false = le-ltb s t (omega arith) in let b : (s == t) ≡ true = eq-eqb s t e in
        let c : nat_lt g h ≡ false = le-ltb g h (omega arith) in let d : (g == h) ≡ true = eq-eqb g h f in
        let x : nat_lt p q ≡ false = le-ltb p q (omega arith) in let y : (p == q) ≡ false = ne_eqb p q (λ e. absurd (omega arith)) in
        rw (a, b, c, d, x, y) refl

refuses_from : (m : Market) → IsForest m → (lines : List MapLine) → AreLines m lines → (g k : ℕ) (o : IsOffer m g k) (b : By) → refuser_of m lines g k ≡ Some b → Refuses (instance m) (map line lines) g k (choice (choice_at m g k)) (node_of b)
refuses_from m ok lines form g k o b h = elim (cases_Bool (is_at_limit m lines g k)) [
  | inl e ↦ subst (λ x. Refuses (instance m) (map line lines) g k (choice (choice_at m g k)) (node_of x)) (same_Some by.Limit b (rw e at h)) (amount_is lines g k ∙ eqb-true (amount_at lines g k) (limit_of m g k) e)
  | inr e ↦ some_node (refusing_node m lines g k) refl (rw e at h)
]
  where
    some_node : (r : Option ℕ) → refusing_node m lines g k ≡ r → option_map (λ n. by.Node (record { 0 = n })) r ≡ Some b → Refuses (instance m) (map line lines) g k (choice (choice_at m g k)) (node_of b)
    some_node None is e = absurd (none-some b e)
    some_node (Some n) is e =
        let f = found (λ x. is_full_of_better m lines x (key_of m g k)) (path m (pool_of m g k)) n is in
        let parts = and_parts (load m lines n == capacity_of m n) (none_worse m lines n (key_of m g k)) f.1 in
        let pool : pool_of m g k < length m.nodes = pool_there m ok g k o in
        let there : n < length m.nodes = path_there 8 m ok (Some (record { 0 = pool_of m g k })) pool n f.0 in
        subst (λ x. Refuses (instance m) (map line lines) g k (choice (choice_at m g k)) (node_of x)) (same_Some (by.Node (record { 0 = n })) b e) (
          contains_from (page.path (instance m) (Some (pool_of m g k))) n (subst (λ xs. In xs n) (sym (path_is m ok (pool_of m g k) pool)) f.0),
          (node (node_at m n), got node m.nodes n (record { capacity = 0; parent = None; is_pool = false }) there, load_is m ok lines form n ∙ eqb-true (load m lines n) (capacity_of m n) parts.0),
          λ l d c under has. better n parts.1 l d (from_map line lines l (in_from (map line lines) l c)) under has,
        )
      where
        better : (n : ℕ) → none_worse m lines n (key_of m g k) ≡ true → (l : Line) (d : Choice) → (x : MapLine) × In lines x × (line x ≡ l) → IsTrue (is_under (instance m) n l) → Has (instance m) l.group l.place d
            → IsAtLeast d.score l.group d.pool (choice_at m g k).score g (choice_at m g k).pool.0
        better n none l d (x, i, e) under has =
            let ax : At m x = all_at m lines form x i in
            let under' : counts_at m n x.group.0 x.place ≡ true = sym (under_is m ok n x ax) ∙ subst (λ v. is_under (instance m) n v ≡ true) (sym e) under in
            let le : key_le (line_key m x) (key_of m g k) ≡ true = rw under' at (all_in (λ (v : MapLine). if counts_at m n v.group.0 v.place then key_le (line_key m v) (key_of m g k) else true) lines x none i) in
            let has' : Has (instance m) x.group.0 x.place d = subst (λ (v : Line). Has (instance m) v.group v.place d) (sym e) has in
            let is = (offer_of m x.group.0 x.place d has').1 in
            subst (λ (v : Line). IsAtLeast d.score v.group d.pool (choice_at m g k).score g (choice_at m g k).pool.0) e
            (subst (λ (v : Choice). IsAtLeast v.score x.group.0 v.pool (choice_at m g k).score g (choice_at m g k).pool.0) is
            (at_least_from (choice_at m x.group.0 x.place).score x.group.0 (choice_at m x.group.0 x.place).pool.0 (choice_at m g k).score g (choice_at m g k).pool.0 le))

-- NAMES

in_offers : (m : Market) (g k : ℕ) → IsOffer m g k → In (offers_of m) (record { group = record { 0 = g }; place = k })
in_offers m g k o =
    in_flat (λ h. offers_from m h 0) (range_with_len 0 (length m.groups)) g (record { group = record { 0 = g }; place = k }) (in_range 0 (length m.groups) g (omega arith) (let l = o.group in omega (arith, l)))
    (in_map (λ j. record { group = record { 0 = g }; place = j }) (range_with_len 0 (length (choices_of m g) - 0)) k (in_range 0 (length (choices_of m g) - 0) k (omega arith) (let l = o.place in omega (arith, l))))

from_offers : (m : Market) (o : Offer) → In (offers_of m) o → IsOffer m o.group.0 o.place
from_offers m o i =
    let r = from_flat (λ h. offers_from m h 0) (range_with_len 0 (length m.groups)) o i in
    let s = from_map (λ j. record { group = record { 0 = r.0 }; place = j }) (range_with_len 0 (length (choices_of m r.0) - 0)) o r.2 in
    let g = (from_range 0 (length m.groups) r.0 r.1).1 in
    let k = (from_range 0 (length (choices_of m r.0) - 0) s.0 s.1).1 in
    subst (λ (x : Offer). IsOffer m x.group.0 x.place) s.2 (record { group = omega (arith, g); place = omega (arith, k) })

some_of : (o : Option By) → IsSome o → (b : By) × (o ≡ Some b)
some_of None h = absurd (false≢true h)
some_of (Some b) h = (b, refl)

name_from : (m : Market) (lines : List MapLine) (g k : ℕ) (b : By) → IsTrue (is_wanted m lines g k) → refuser_of m lines g k ≡ Some b
    → name_of m lines (record { group = record { 0 = g }; place = k }) ≡ Some (record { group = record { 0 = g }; place = k; by = b })
name_from m lines g k b wanted is = rw wanted (ap (option_map (λ x. record { group = record { 0 = g }; place = k; by = x })) is)

of_name : (m : Market) (lines : List MapLine) (o : Offer) (x : NameLine) → name_of m lines o ≡ Some x → IsTrue (is_wanted m lines o.group.0 o.place) × ((b : By) × (refuser_of m lines o.group.0 o.place ≡ Some b) × (record { group = o.group; place = o.place; by = b } ≡ x))
of_name m lines o x h = elim (cases_Bool (is_wanted m lines o.group.0 o.place)) [
  | inl e ↦ (e, made (refuser_of m lines o.group.0 o.place) refl (rw e at h))
  | inr e ↦ absurd (none-some x (rw e at h))
]
  where
    made : (r : Option By) → refuser_of m lines o.group.0 o.place ≡ r → option_map (λ (b : By). record { group = o.group; place = o.place; by = b }) r ≡ Some x
        → (b : By) × (refuser_of m lines o.group.0 o.place ≡ Some b) × (record { group = o.group; place = o.place; by = b } ≡ x)
    made None is e = absurd (none-some x e)
    made (Some b) is e = (b, is, same_Some _ x e)

-- ORDER

ahead_on : (a b c : Line) → IsAhead a b → IsAhead b c → IsAhead a c
ahead_on a b c (inl x) (inl y) = inl (omega (arith, x, y))
ahead_on a b c (inl x) (inr (e, y)) = inl (omega (arith, x, e))
ahead_on a b c (inr (e, x)) (inl y) = inl (omega (arith, e, y))
ahead_on a b c (inr (e, x)) (inr (f, y)) = inr (e ∙ f, omega (arith, x, y))

ahead_from : (a b : MapLine) → is_before a b ≡ true → IsAhead (line a) (line b)
ahead_from a b h = elim (or_cases _ _ h) [
  | inl less ↦ inl (ltb-true _ _ less)
  | inr same ↦ let p = and_parts _ _ same in inr (eqb-true _ _ p.0, ltb-true _ _ p.1)
]

ahead_next : (m : Market) (lines : List MapLine) → AreLines m lines → (i : ℕ) → suc i < length lines → IsAhead (line (line_at lines i)) (line (line_at lines (suc i)))
ahead_next m lines form i l =
    let here : Bool = is_before (line_at lines (suc i - 1)) (line_at lines (suc i)) in
    let p = and_parts (nat_lt (line_at lines (suc i)).group.0 (length m.groups) && nat_lt (line_at lines (suc i)).place (length (choices_of m (line_at lines (suc i)).group.0)) && nat_lt 0 (line_at lines (suc i)).amount) ((suc i == 0) || here) (form (suc i) l) in
    let e : suc i - 1 ≡ i = omega arith in
    elim (or_cases (suc i == 0) here p.1) [
      | inl none ↦ absurd (omega (arith, eqb-true (suc i) 0 none))
      | inr before ↦ ahead_from (line_at lines i) (line_at lines (suc i)) (subst (λ k. is_before (line_at lines k) (line_at lines (suc i)) ≡ true) e before)
    ]

ahead_all : (m : Market) (lines : List MapLine) → AreLines m lines → (i j : ℕ) → i < j → j < length lines → IsAhead (line (line_at lines i)) (line (line_at lines j))
ahead_all m lines form i zero low l = absurd (omega (arith, low))
ahead_all m lines form i (suc j) low l = elim (cases_lt i j) [
  | inl less ↦ ahead_on (line (line_at lines i)) (line (line_at lines j)) (line (line_at lines (suc j))) (ahead_all m lines form i j less (omega (arith, l))) (ahead_next m lines form j l)
  | inr all ↦ let e : j ≡ i = omega (arith, low, all) in subst (λ n. IsAhead (line (line_at lines n)) (line (line_at lines (suc j)))) e (ahead_next m lines form j l)
]

line_at_page : (lines : List MapLine) (i : ℕ) (d : Line) → i < length lines → slice_index_or (map line lines) i d ≡ line (line_at lines i)
line_at_page [] i d l = absurd (omega (arith, l))
line_at_page (x ∷ xs) zero d l = refl
line_at_page (x ∷ xs) (suc i) d l = line_at_page xs i d (omega (arith, l))

in_order : (m : Market) (lines : List MapLine) → AreLines m lines → AllPairs IsAhead (map line lines)
in_order m lines form i j d low l =
    let there : j < length lines = omega (arith, l, length-map lines line) in
    subst (λ x. IsAhead x (slice_index_or (map line lines) j d)) (sym (line_at_page lines i d (omega (arith, low, there))))
    (subst (λ y. IsAhead (line (line_at lines i)) y) (sym (line_at_page lines j d there)) (ahead_all m lines form i j low there))

all_some : (m : Market) (lines : List MapLine) → AreLines m lines → All (λ (l : Line). 0 < l.units) (map line lines)
all_some m lines form i d l =
    let there : i < length lines = omega (arith, l, length-map lines line) in
    subst (λ (x : Line). 0 < x.units) (sym (line_at_page lines i d there)) (some_units m lines i (form i there))

pub feasible_is : (m : Market) → IsForest m → (lines : List MapLine) → AreLines m lines → code.IsFeasible m lines → IsFeasible (instance m) (map line lines)
feasible_is m ok lines form feasible = record {
  order = in_order m lines form;
  some = all_some m lines form;
  there = λ l c. there l (from_map line lines l (in_from (map line lines) l c));
  demands = λ g G at. let r = demand_is m g G at in let h = feasible.demands g r.0 in omega (arith, placed_is lines g, r.1, h);
  capacities = λ n N at. let r = node_of_page m n N at in let h = feasible.capacities n r.0 in omega (arith, load_is m ok lines form n, r.1, h);
  limits = λ g k c has. let r = offer_of m g k c has in let d : c.limit ≡ limit_of m g k = ap (λ (x : Choice). x.limit) (sym r.1) in omega (arith, amount_is lines g k, d, feasible.limits g k r.0);
}
  where
    there : (l : Line) → (x : MapLine) × In lines x × (line x ≡ l) → (c : Choice) × Has (instance m) l.group l.place c
    there l (x, i, e) = (choice (choice_at m x.group.0 x.place), subst (λ (v : Line). Has (instance m) v.group v.place (choice (choice_at m x.group.0 x.place))) e (has_of m x.group.0 x.place (all_at m lines form x i)))

-- ALL TOGETHER

pub good_is_good : (m : Market) (lines : List MapLine) (names : List NameLine) → IsForest m → code.IsGood m lines names → IsGood (instance m) (map line lines) (map name names)
good_is_good m lines names ok good = record {
  feasible = feasible_is m ok lines good.form good.feasible;
  named = λ g k c has wants. named g k c (offer_of m g k c has) wants;
  no_more = λ x c. no_more x (from_map name names x (in_from (map name names) x c));
}
  where
    named : (g k : ℕ) (c : Choice) → IsOffer m g k × (choice (choice_at m g k) ≡ c) → Wants (instance m) (map line lines) g k
        → (b : Option ℕ) × Contains (map name names) (record { group = g; place = k; node = b }) × Refuses (instance m) (map line lines) g k c b
    named g k c (o, is) wants =
        let wanted = wanted_from m lines g k (good.feasible.demands g o.group) wants in
        let r = some_of (refuser_of m lines g k) (good.stable g k o wanted) in
        let x : NameLine = record { group = record { 0 = g }; place = k; by = r.0 } in
        let i : In (names_of m lines) x = in_kept (name_of m lines) (offers_of m) (record { group = record { 0 = g }; place = k }) x (in_offers m g k o) (name_from m lines g k r.0 wanted r.1) in
        (node_of r.0, contains_from (map name names) (name x) (in_map name names x (subst (λ ns. In ns x) (sym good.named) i)), subst (λ v. Refuses (instance m) (map line lines) g k v (node_of r.0)) is (refuses_from m ok lines good.form g k o r.0 r.1))

    no_more : (x : Name) → (y : NameLine) × In names y × (name y ≡ x) → (c : Choice) × Has (instance m) x.group x.place c × Wants (instance m) (map line lines) x.group x.place × Refuses (instance m) (map line lines) x.group x.place c x.node
    no_more x (y, i, e) =
        let f = from_kept (name_of m lines) (offers_of m) y (subst (λ ns. In ns y) good.named i) in
        let o = from_offers m f.0 f.1 in
        let n = of_name m lines f.0 y f.2 in
        let c = choice (choice_at m f.0.group.0 f.0.place) in
        subst (λ (v : Name). (c : Choice) × Has (instance m) v.group v.place c × Wants (instance m) (map line lines) v.group v.place × Refuses (instance m) (map line lines) v.group v.place c v.node) (ap name n.1.2 ∙ e)
        (c, has_of m f.0.group.0 f.0.place o, wants_from m lines f.0.group.0 f.0.place o.group n.0, refuses_from m ok lines good.form f.0.group.0 f.0.place o n.1.0 n.1.1)
