-- One eviction in the middle of a put.
use Rattle.std.proofs.Common.{◌≡◌, ℕ, ◌+◌, ◌-◌, ◌<◌, ◌≤◌, ◌==◌, Bool, true, false, not, ◌&&◌, length, if◌then◌else◌, ◌⊎◌, List, refl, sym, ◌∙◌, subst, inl, inr, arith}
use Rattle.std.proofs.lemmas.Bool.{and_parts, and_from, cases_Bool, cases_eq, false≢true, eq-eqb, ne_eqb, eqb-true, not_from_true}
use Rattle.map_model.specs.declared.instance.Key.{Key}
use Rattle.map_model.specs.declared.lines.MapLine.{MapLine}
use Rattle.map_model.specs.Market.{Market, IsMarket, capacity_of, key_of, pool_of}
use Rattle.map_model.specs.Allocation.{is_under, key_le, units_of, counts_at}
use Rattle.map_model.proofs.Keys.{key_le_trans}
use Rattle.map_model.specs.Holding.{under_within, under_worse, IsSaturated, Takes, Puts}
use Rattle.evict.specs.Putting.{is_later, IsPutting}
use Rattle.map_model.proofs.Trees.{under_itself, under_trans}
use Rattle.map_model.proofs.Units.{units_of-le}
use Rattle.evict.proofs.Evictions.{evict_step, within-all}

-- the worst offer counts_at a node is no better than another that has units there
pub no_better : (m : Market) (lines : List MapLine) (c g k g' k' : ℕ) → units_of (under_worse m c (key_of m g' k')) lines ≡ 0 → counts_at m c g k ≡ true → 0 < units_of (λ h j. (h == g) && (j == k)) lines → key_le (key_of m g k) (key_of m g' k') ≡ true
no_better m lines c g k g' k' none here some = elim (cases_Bool (key_le (key_of m g k) (key_of m g' k'))) [
  | inl e ↦ e
  | inr e ↦ absurd (omega (
    arith,
    units_of-le (λ h j. (h == g) && (j == k)) (under_worse m c (key_of m g' k')) (λ h j t.
        let p = and_parts (h == g) (j == k) t in
        let eg : h ≡ g = eqb-true h g p.0 in
        let ek : j ≡ k = eqb-true j k p.1 in
        rw (eg, ek) (and_from (counts_at m c g k) (not (key_le (key_of m g k) (key_of m g' k'))) here (rw e refl))) lines,
    none,
    some,
  ))
]

not_later : (m : Market) (c : ℕ) → is_later m c c ≡ true → ⊥
not_later m c l = false≢true (sym (not_from_true (c == c) (eq-eqb c c refl)) ∙ (and_parts (is_under m c c) (not (c == c)) l).1)

pub at_most : (b : Bool) (a : ℕ) → (if b then a else 0) ≤ a
at_most true a = omega arith
at_most false a = omega arith

-- one eviction in the middle of a put
pub IsPutting-evict : (m : Market) → IsMarket m → (start old new : List MapLine) (g k c r : ℕ) → IsPutting m start old g k c r
    → (h j units : ℕ) → Takes old new h j units → pool_of m h j < length m.nodes → counts_at m c h j ≡ true → units_of (under_worse m c (key_of m h j)) old ≡ 0
    → c < length m.nodes → 0 < units → capacity_of m c + units ≤ units_of (counts_at m c) old
    → IsPutting m start new g k c (r - units)
IsPutting-evict m market start old new g k c r put h j units takes pool here worst there some over =
    record {
      path = put.path;
      held = let t = takes (λ x y. (x == g) && (y == k)) in omega (arith, t, put.held, at_most ((h == g) && (j == k)) units);
      fits = λ n l e. omega (arith, takes (counts_at m n), put.fits n l e);
      over = λ n l e. let t = takes (counts_at m n) in
          let all : (if counts_at m n h j then units else 0) ≡ units = rw (under_trans m market n c (pool_of m h j) pool e here) refl in
          omega (arith, t, all, put.over n l e, small);
      kept = λ n l key full. let w = put.kept n l key full in after n l key w.0 w.1 w.2 w.3;
    }
  where
    small : units ≤ r
    small = omega (arith, put.over c there (under_itself m c), over)

    after : (n : ℕ) → n < length m.nodes → (key : Key) (o : ℕ) → is_under m o n ≡ true → IsSaturated m old o key → (is_later m c o ≡ true → key_le (key_of m g k) key ≡ true → capacity_of m o + r ≤ units_of (under_within m o key) old)
        → (o : ℕ) × (is_under m o n ≡ true) × IsSaturated m new o key × (is_later m c o ≡ true → key_le (key_of m g k) key ≡ true → capacity_of m o + (r - units) ≤ units_of (under_within m o key) new)
    after n l key o up full bound = elim (evict_step m old new h j units c takes here worst over o key full) [
      | inl s ↦ (o, up, s, λ later le. omega (arith, takes (under_within m o key), at_most (under_within m o key h j) units, bound later le, small))
      | inr (inl s) ↦ (c, under_trans m market c o n l s.0 up, s.1, λ later le. absurd (not_later m c later))
      | inr (inr s) ↦ elim (cases_eq o c) [
        | inl same ↦
            let none : units_of (under_worse m c (key_of m h j)) new ≡ 0 = omega (arith, takes (under_worse m c (key_of m h j)), worst) in
            let all = within-all m new c (key_of m h j) key none (and_parts (counts_at m o h j) (key_le (key_of m h j) key) s.1).1 in
            let t = takes (counts_at m c) in
            (c, subst (λ x. is_under m x n ≡ true) same up, omega (arith, all, t, over, at_most (counts_at m c h j) units), λ later _. absurd (not_later m c later))
        | inr ne ↦
            let later : is_later m c o ≡ true = and_from (is_under m o c) (not (o == c)) s.0 (rw (ne_eqb o c ne) refl) in
            let le : key_le (key_of m g k) key ≡ true = key_le_trans (key_of m g k) (key_of m h j) key (no_better m old c g k h j worst put.path (omega (arith, put.held, small, some))) (and_parts (counts_at m o h j) (key_le (key_of m h j) key) s.1).1 in
            let room = bound later le in
            let t = takes (under_within m o key) in
            (o, up, omega (arith, room, t, at_most (under_within m o key h j) units, small), λ _ _. omega (arith, room, t, at_most (under_within m o key h j) units, small))
      ]
    ]

-- on to the parent, once the node is within its capacity
pub IsPutting-up : (m : Market) → IsMarket m → (start lines : List MapLine) (g k c p r : ℕ) → IsPutting m start lines g k c r → units_of (counts_at m c) lines ≤ capacity_of m c
    → p < length m.nodes → c < length m.nodes → is_under m p c ≡ true → pool_of m g k < length m.nodes
    → ((n : ℕ) → is_under m n p ≡ true → is_under m n c ≡ true) → ((n : ℕ) → is_under m n c ≡ true → (n ≡ c) ⊎ (is_under m n p ≡ true))
    → (is_under m c p ≡ false)
    → IsPutting m start lines g k p r
IsPutting-up m market start lines g k c p r put done in_p in_c above pool down split apart = record {
  path = under_trans m market p c (pool_of m g k) pool above put.path;
  held = put.held;
  fits = λ n l e. elim (cases_Bool (is_under m n c)) [
    | inl t ↦ elim (split n t) [ inl same ↦ subst (λ x. units_of (counts_at m x) lines ≤ capacity_of m x) (sym same) done | inr t' ↦ absurd (false≢true (sym e ∙ t')) ]
    | inr f ↦ put.fits n l f
  ];
  over = λ n l e. put.over n l (down n e);
  kept = λ n l key full. let w = put.kept n l key full in (w.0, w.1, w.2, λ later le. w.3 (sooner w.0 later) le);
}
  where
    sooner : (o : ℕ) → is_later m p o ≡ true → is_later m c o ≡ true
    sooner o l =
        let q = and_parts (is_under m o p) (not (o == p)) l in
        and_from (is_under m o c) (not (o == c)) (down o q.0) (elim (cases_eq o c) [
          | inl same ↦ absurd (false≢true (sym apart ∙ subst (λ x. is_under m x p ≡ true) same q.0))
          | inr ne ↦ rw (ne_eqb o c ne) refl
        ])

-- at the start: units have come at the pool of (g, k)
pub IsPutting-start : (m : Market) → IsMarket m → (start lines : List MapLine) (g k units : ℕ) → Puts start lines g k units → pool_of m g k < length m.nodes
    → ((n : ℕ) → n < length m.nodes → units_of (counts_at m n) start ≤ capacity_of m n) → IsPutting m start lines g k (pool_of m g k) units
IsPutting-start m market start lines g k units puts pool fits = record {
  path = under_itself m (pool_of m g k);
  held = let t = puts (λ h j. (h == g) && (j == k)) in
      let all : (if (g == g) && (k == k) then units else 0) ≡ units = rw (eq-eqb g g refl, eq-eqb k k refl) refl in omega (arith, t, all);
  fits = λ n l e. let t = puts (counts_at m n) in let none : (if counts_at m n g k then units else 0) ≡ 0 = rw e refl in omega (arith, t, none, fits n l);
  over = λ n l e. let t = puts (counts_at m n) in omega (arith, t, at_most (counts_at m n g k) units, fits n l);
  kept = λ n l key full. let t = puts (under_within m n key) in (
    n,
    under_itself m n,
    omega (arith, t, full),
    λ later le.
        let q = and_parts (is_under m n (pool_of m g k)) (not (n == pool_of m g k)) later in
        let all : (if under_within m n key g k then units else 0) ≡ units = rw (and_from (counts_at m n g k) (key_le (key_of m g k) key) q.0 le) refl in
        omega (arith, t, all, full),
  );
}
