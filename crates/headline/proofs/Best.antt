-- A good map of the page is a stable map of the program, and so the best ones are the same.
use Rattle.std.proofs.Common.{◌≡◌, inl, inr, ℕ, zero, suc, ◌-◌, ◌<◌, ◌≤◌, ◌==◌, ◌&&◌, nat_lt, nat_le, nat_cmp, Bool, true, false, if◌then◌else◌, List, [], ◌∷◌, length, map, slice_index_or, find, cond, Option, None, Some, IsSome, refl, ap, sym, subst, ◌∙◌, arith}
use Rattle.std.specs.Ordering.{ordering_then, is_le}
use Rattle.std.specs.List.{list_all}
use Rattle.std.proofs.lemmas.Bool.{cases_Bool, cases_lt, and_from, eq-eqb, lt-ltb, le-ltb, false≢true}
use Rattle.std.proofs.lemmas.List.{length-map}
use Rattle.map_model.specs.declared.lines.MapLine.{MapLine}
use Rattle.map_model.specs.Market.{IsMarket, Market, capacity_of, choice_at, group_at, key_of, node_at, path, pool_of}
use Rattle.map_model.specs.Allocation.{AreLines, IsOffer, amount_at, counts_at, is_full_of_better, is_line, is_before, is_wanted, key_le, line_at, line_key, load, names_of, none_worse, placed_through, refuser_of, refusing_node}
use Rattle.map_model.specs.Allocation as code
use Rattle.map_model.specs.Progress.{IsGroupBest}
use Rattle.map_model.proofs.Refused.{refused_limit, refused_node}
use Rattle.map_model.proofs.Rising.{first_or}
use Rattle.best_laws.specs.Ahead.{IsRightMap}
use Rattle.map_laws.proofs.Amounts.{same_amounts}
use Rattle.map_laws.proofs.Same.{same_lines}
use Rattle.headline.specs.Headline.{Has, IsAhead, IsAtLeast, IsBestOf, IsFeasible, IsGood, Refuses, Wants, is_under, units}
use Rattle.headline.specs.View.{Choice, Line, Name, choice, group, instance, line, name, node}
use Rattle.headline.specs.Headline as page
use Rattle.headline.proofs.Lists.{In, contains_from, in_from, in_map}
use Rattle.headline.proofs.Trees.{IsForest, forest}
use Rattle.headline.proofs.Good.{all_at, good_is_good, amount_is, group_has, has_of, load_is, node_has, node_of_page, offer_of, path_is, placed_is, pool_there, tested, under_is, wants_from}

-- LINES

-- a line of the page, as one of the program
abbrev pub line_of : Line → MapLine
line_of l = record { group = record { 0 = l.group }; place = l.place; amount = l.units }

pub lines_of : (lines : List Line) → map line (map line_of lines) ≡ lines
lines_of [] = refl
lines_of (l ∷ lines) = ap (λ ls. l ∷ ls) (lines_of lines)

at_map : {X Y : Type 0} (f : X → Y) (xs : List X) (i : ℕ) (d : X) → slice_index_or (map f xs) i (f d) ≡ f (slice_index_or xs i d)
at_map f [] i d = refl
at_map f (x ∷ xs) zero d = refl
at_map f (x ∷ xs) (suc i) d = at_map f xs i d

abbrev no_line : MapLine
no_line = record { group = record { 0 = 0 }; place = 0; amount = 0 }

in_at : (xs : List MapLine) (i : ℕ) → i < length xs → In xs (line_at xs i)
in_at [] i l = absurd (omega (arith, l))
in_at (x ∷ xs) zero l = inl refl
in_at (x ∷ xs) (suc i) l = inr (in_at xs i (omega (arith, l)))

before_from : (a b : MapLine) → IsAhead (line a) (line b) → is_before a b ≡ true
before_from a b (inl less) = let t : nat_lt a.group.0 b.group.0 ≡ true = lt-ltb _ _ less in rw t refl
before_from a b (inr (same, less)) =
    let t : (a.group.0 == b.group.0) ≡ true = eq-eqb _ _ same in
    let u : nat_lt a.place b.place ≡ true = lt-ltb _ _ less in
    elim (cases_Bool (nat_lt a.group.0 b.group.0)) [ inl e ↦ rw e refl | inr e ↦ rw (e, t, u) refl ]

-- lines that are feasible stand in the program's form
form_of : (m : Market) (xs : List MapLine) → IsFeasible (instance m) (map line xs) → AreLines m xs
form_of m xs f i l =
    let x = line_at xs i in
    let c = contains_from (map line xs) (line x) (in_map line xs x (in_at xs i l)) in
    let t = f.there (line x) c in
    let o : IsOffer m x.group.0 x.place = (offer_of m x.group.0 x.place t.0 t.1).0 in
    let some : 0 < x.amount = subst (λ (y : Line). 0 < y.units) (at_map line xs i no_line) (f.some i (line no_line) (omega (arith, l, length-map xs line))) in
    let before : 0 < i → is_before (line_at xs (i - 1)) x ≡ true = λ behind.
    before_from (line_at xs (i - 1)) x (subst (λ (y : Line). IsAhead (line (line_at xs (i - 1))) y) (at_map line xs i no_line)
    (subst (λ (y : Line). IsAhead y (slice_index_or (map line xs) i (line no_line))) (at_map line xs (i - 1) no_line) (f.order (i - 1) i (line no_line) (omega (arith, behind)) (omega (arith, l, length-map xs line))))) in
    and_from _ _ (and_from _ _ (and_from _ _ (lt-ltb _ _ o.group) (lt-ltb _ _ o.place)) (lt-ltb _ _ some)) (first_or i _ before)

feasible_of : (m : Market) → IsForest m → (xs : List MapLine) → IsFeasible (instance m) (map line xs) → code.IsFeasible m xs
feasible_of m ok xs f = record {
  demands = λ g l. let h = f.demands g (group (group_at m g)) (group_has m g l) in omega (arith, h, placed_is xs g);
  capacities = λ n l. let h = f.capacities n (node (node_at m n)) (node_has m n l) in omega (arith, h, load_is m ok xs (form_of m xs f) n);
  limits = λ g k o. let h = f.limits g k (choice (choice_at m g k)) (has_of m g k o) in omega (arith, h, amount_is xs g k);
}

-- WHAT REFUSES

all_from : {X : Type 0} (test : X → Bool) (xs : List X) → ((x : X) → In xs x → test x ≡ true) → list_all test xs ≡ true
all_from test [] h = refl
all_from test (x ∷ xs) h = and_from _ _ (h x (inl refl)) (all_from test xs (λ y i. h y (inr i)))

finds : (test : ℕ → Bool) (xs : List ℕ) (n : ℕ) → In xs n → test n ≡ true → IsSome (find test xs)
finds test [] n i h = absurd i
finds test (x ∷ xs) n i h = elim (cases_Bool (test x)) [
  | inl e ↦ subst (λ b. IsSome (cond b (Some x) (find test xs))) (sym e) refl
  | inr e ↦ subst (λ b. IsSome (cond b (Some x) (find test xs))) (sym e) (elim i [
    | inl same ↦ absurd (false≢true (sym e ∙ ap test same ∙ h))
    | inr more ↦ finds test xs n more h
  ])
]

at_least_is : (s g p t h q : ℕ) → IsAtLeast s g p t h q → is_le (ordering_then (nat_cmp s t) (ordering_then (nat_cmp g h) (nat_cmp p q))) ≡ true
at_least_is s g p t h q (inl less) = let a : nat_lt s t ≡ true = lt-ltb s t less in rw a refl
at_least_is s g p t h q (inr (same, inl less)) =
    let a : nat_lt s t ≡ false = le-ltb s t (omega (arith, same)) in let b : (s == t) ≡ true = eq-eqb s t same in
    let c : nat_lt g h ≡ true = lt-ltb g h less in
    rw (a, b, c) refl
at_least_is s g p t h q (inr (same, inr (also, le))) =
    let a : nat_lt s t ≡ false = le-ltb s t (omega (arith, same)) in let b : (s == t) ≡ true = eq-eqb s t same in
    let c : nat_lt g h ≡ false = le-ltb g h (omega (arith, also)) in let d : (g == h) ≡ true = eq-eqb g h also in
    elim (cases_lt p q) [
      | inl less ↦ let e : nat_lt p q ≡ true = lt-ltb p q less in rw (a, b, c, d, e) refl
      | inr more ↦
          let e : nat_lt p q ≡ false = le-ltb p q more in
          let f : (p == q) ≡ true = eq-eqb p q (omega (arith, le, more)) in
          rw (a, b, c, d, e, f) refl
    ]

refused_of : (m : Market) → IsForest m → (xs : List MapLine) → AreLines m xs → (g k : ℕ) → IsOffer m g k → (by : Option ℕ) → Refuses (instance m) (map line xs) g k (choice (choice_at m g k)) by → IsSome (refuser_of m xs g k)
refused_of m ok xs form g k o None same = refused_limit m xs g k (eq-eqb _ _ (sym (amount_is xs g k) ∙ same))
refused_of m ok xs form g k o (Some n) (on, full, better) =
    let pool : pool_of m g k < length m.nodes = pool_there m ok g k o in
    let on_path : In (path m (pool_of m g k)) n = subst (λ ns. In ns n) (path_is m ok (pool_of m g k) pool) (in_from _ n on) in
    refused_node m xs g k (finds (λ x. is_full_of_better m xs x (key_of m g k)) (path m (pool_of m g k)) n on_path (and_from _ _ load_full none))
  where
    load_full : (load m xs n == capacity_of m n) ≡ true
    load_full =
        let at = node_of_page m n full.0 full.1 in
        eq-eqb _ _ (sym (load_is m ok xs form n) ∙ full.2 ∙ at.1)

    none : none_worse m xs n (key_of m g k) ≡ true
    none = all_from _ xs each
      where
        each : (x : MapLine) → In xs x → (if counts_at m n x.group.0 x.place then key_le (line_key m x) (key_of m g k) else true) ≡ true
        each x i = elim (cases_Bool (counts_at m n x.group.0 x.place)) [
          | inr e ↦ rw e refl
          | inl e ↦
              let at = all_at m xs form x i in
              let le = at_least_is (choice_at m x.group.0 x.place).score x.group.0 (choice_at m x.group.0 x.place).pool.0 (choice_at m g k).score g (choice_at m g k).pool.0
              (better (line x) (choice (choice_at m x.group.0 x.place)) (contains_from (map line xs) (line x) (in_map line xs x i)) (under_is m ok n x at ∙ e) (has_of m x.group.0 x.place at)) in
              rw e le
        ]

-- a good map of the page
pub right_of : (m : Market) → IsForest m → (xs : List MapLine) (names : List Name) → IsGood (instance m) (map line xs) names → IsRightMap m xs
right_of m ok xs names s =
    let form = form_of m xs s.feasible in
    record {
      form = form;
      feasible = feasible_of m ok xs s.feasible;
      stable = λ g k o wanted.
          let r = s.named g k (choice (choice_at m g k)) (has_of m g k o) (wants_from m xs g k o.group wanted) in
          refused_of m ok xs form g k o r.0 r.2;
    }

-- what a group has up to a place
pub through_is : (lines : List MapLine) (g k : ℕ) → page.through (map line lines) g k ≡ placed_through lines g k
through_is lines g k = tested (λ l. l.group == g && nat_le l.place k) (λ h j. (h == g) && nat_le j k) lines (λ l i. refl)

-- the best of some maps of the program is the best of those of the page that are among them
pub best_of : (m : Market) → IsForest m → (P : List MapLine → Type 0) (Q : List Line → Type 0) (xs : List MapLine) → Q (map line xs) → ((ys : List MapLine) → IsRightMap m ys → Q (map line ys) → P ys)
    → ((other : List MapLine) → IsRightMap m other → P other → (g k : ℕ) → IsOffer m g k → placed_through other g k ≤ placed_through xs g k) → IsBestOf (instance m) Q (map line xs)
best_of m ok P Q xs is among best = (
  is,
  λ other names good q. subst (λ (ls : List Line). (g k : ℕ) (c : Choice) → Has (instance m) g k c → page.through ls g k ≤ page.through (map line xs) g k) (lines_of other)
      (of (map line_of other) names (subst (λ (ls : List Line). IsGood (instance m) ls names) (sym (lines_of other)) good) (subst Q (sym (lines_of other)) q)),
)
  where
    of : (ys : List MapLine) (names : List Name) → IsGood (instance m) (map line ys) names → Q (map line ys) → (g k : ℕ) (c : Choice) → Has (instance m) g k c → page.through (map line ys) g k ≤ page.through (map line xs) g k
    of ys names good q g k c has =
        let right = right_of m ok ys names good in
        let o = (offer_of m g k c has).0 in
        omega (arith, through_is ys g k, through_is xs g k, best ys right (among ys right q) g k o)

pub best_is : (m : Market) → IsForest m → (xs : List MapLine) → IsGroupBest m xs → IsBestOf (instance m) (λ _. Unit {0}) (map line xs)
best_is m ok xs best = best_of m ok (λ _. Unit {0}) (λ _. Unit {0}) xs tt (λ ys right t. tt) (λ other right t g k o. best other right.form right.feasible right.stable g k o)

-- THE OTHER WAY ROUND

-- a stable map of the program, with its names, is a good map of the page
good_of : (m : Market) → IsForest m → (xs : List MapLine) → IsRightMap m xs → IsGood (instance m) (map line xs) (map name (names_of m xs))
good_of m ok xs right = good_is_good m xs (names_of m xs) ok (record { form = right.form; feasible = right.feasible; stable = right.stable; named = refl })

-- the best of all on the page is the best of all of the program
pub best_back : (m : Market) → IsForest m → (xs : List MapLine) → IsBestOf (instance m) (λ _. Unit {0}) (map line xs) → IsGroupBest m xs
best_back m ok xs best other form feasible stable g k o =
    let right : IsRightMap m other = record { form = form; feasible = feasible; stable = stable } in
    let le = best.1 (map line other) (map name (names_of m other)) (good_of m ok other right) tt g k (choice (choice_at m g k)) (has_of m g k o) in
    omega (arith, le, through_is other g k, through_is xs g k)

-- of some good maps there is one best
pub one_best : (m : Market) → IsMarket m → (P : List Line → Type 0) (xs ys : List MapLine) (of_xs of_ys : List Name) → IsGood (instance m) (map line xs) of_xs → IsGood (instance m) (map line ys) of_ys → IsBestOf (instance m) P (map line xs) → IsBestOf (instance m) P (map line ys) → xs ≡ ys
one_best m market P xs ys of_xs of_ys good also best other =
    let ok = forest m market in
    let same : (g k : ℕ) → IsOffer m g k → placed_through xs g k ≡ placed_through ys g k =
    λ g k o.
    let a = best.1 (map line ys) of_ys also other.0 g k (choice (choice_at m g k)) (has_of m g k o) in
    let b = other.1 (map line xs) of_xs good best.0 g k (choice (choice_at m g k)) (has_of m g k o) in
    omega (arith, a, b, through_is xs g k, through_is ys g k) in
    same_lines m market xs ys (right_of m ok xs of_xs good).form (right_of m ok ys of_ys also).form (same_amounts m xs ys same)
