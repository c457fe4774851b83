-- Good maps and resumable states by computing.
use Rattle.std.proofs.Common.{◌≡◌, ℕ, zero, suc, ◌+◌, ◌==◌, slice_index, ◌<◌, Bool, true, false, sym, ◌∙◌, ◌&&◌, ◌||◌, not, nat_le, List, length, Option, None, Some, IsTrue, IsSome, refl, subst, inl, inr, arith}
use Rattle.std.specs.List.{list_all, range_with_len}
use Rattle.std.specs.Option.{is_some}
use Rattle.std.proofs.lemmas.Bool.{and_parts, eq-eqb, eqb-true, or_cases, leb-true, false≢true}
use Rattle.map_model.specs.declared.lines.MapLine.{MapLine}
use Rattle.map_model.specs.declared.lines.NameLine.{NameLine}
use Rattle.map_model.specs.Market.{Market, capacity_of, choices_of, demand_of, limit_of}
use Rattle.map_model.specs.Allocation.{IsGood, amount_at, is_line, is_wanted, load, names_of, placed, refuser_of}
use Rattle.map_model.specs.Progress.{IsResumable}

-- a test that computes to true at each number below n
below_all : (test : ℕ → Bool) (a n : ℕ) → list_all test (range_with_len a n) ≡ true → (i : ℕ) → i < n → test (a + i) ≡ true
below_all test a zero h i l = absurd (omega arith)
below_all test a (suc n) h zero l = let e : a ≡ a + 0 = omega arith in subst (λ j. test j ≡ true) e (and_parts _ _ h).0
below_all test a (suc n) h (suc i) l = let e : (a + 1) + i ≡ a + suc i = omega arith in subst (λ j. test j ≡ true) e (below_all test (a + 1) n (and_parts _ _ h).1 i (omega arith))

pub below : (test : ℕ → Bool) (n : ℕ) → list_all test (range_with_len 0 n) ≡ true → (i : ℕ) → i < n → test i ≡ true
below test n h i l = let e : 0 + i ≡ i = omega arith in subst (λ j. test j ≡ true) e (below_all test 0 n h i l)

-- whether each number below n passes a test
abbrev pub each : ℕ → (ℕ → Bool) → Bool
each n test = list_all test (range_with_len 0 n)

-- whether the offer is refused if it is wanted
abbrev pub is_refused_if_wanted : Market → List MapLine → ℕ → ℕ → Bool
is_refused_if_wanted m lines g k = not (is_wanted m lines g k) || is_some (refuser_of m lines g k)

-- whether the offer holds no more than its limit
abbrev pub is_within_limit : Market → List MapLine → ℕ → ℕ → Bool
is_within_limit m lines g k = nat_le (amount_at lines g k) (limit_of m g k)

-- whether lines are in form, feasible and stable, as it is computed
abbrev pub are_good_lines : Market → List MapLine → Bool
are_good_lines m lines =
    each (length lines) (is_line m lines) && each (length m.groups) (λ g. nat_le (placed lines g) (demand_of m g)) && each (length m.nodes) (λ n. nat_le (load m lines n) (capacity_of m n))
    && each (length m.groups) (λ g. each (length (choices_of m g)) (is_within_limit m lines g))
    && each (length m.groups) (λ g. each (length (choices_of m g)) (is_refused_if_wanted m lines g))

pub some_from : {X : Type 0} (o : Option X) → is_some o ≡ true → IsSome o
some_from None h = absurd (false≢true h)
some_from (Some x) h = refl

refused_from : (m : Market) (lines : List MapLine) (g k : ℕ) → is_refused_if_wanted m lines g k ≡ true → IsTrue (is_wanted m lines g k) → IsSome (refuser_of m lines g k)
refused_from m lines g k h wanted = elim (or_cases _ _ h) [
  | inl unwanted ↦ absurd (impossible (is_wanted m lines g k) wanted unwanted)
  | inr some ↦ some_from (refuser_of m lines g k) some
]
  where
    impossible : (b : Bool) → b ≡ true → not b ≡ true → ⊥
    impossible b h i = cc

-- a map whose lines and names compute as they should is good
pub IsGood-computed : (m : Market) (lines : List MapLine) (names : List NameLine) → are_good_lines m lines ≡ true → names ≡ names_of m lines → IsGood m lines names
IsGood-computed m lines names h named =
    let p = and_parts _ _ h in
    let t = and_parts _ _ p.0 in
    let q = and_parts _ _ t.0 in
    let r = and_parts _ _ q.0 in
    record {
      form = below (is_line m lines) (length lines) r.0;
      feasible = record { demands = λ g l. leb-true _ _ (below _ (length m.groups) r.1 g l); capacities = λ n l. leb-true _ _ (below _ (length m.nodes) q.1 n l); limits = λ g k o. leb-true _ _ (below _ (length (choices_of m g)) (below _ (length m.groups) t.1 g o.group) k o.place) };
      stable = λ g k o. refused_from m lines g k (below _ (length (choices_of m g)) (below _ (length m.groups) p.1 g o.group) k o.place);
      named = named;
    }

-- whether a state is resumable, as it is computed
abbrev pub is_resumable : Market → List MapLine → List ℕ → List ℕ → Bool
is_resumable m lines pointers free =
    each (length lines) (is_line m lines) && (length pointers == length m.groups) && (length free == length m.groups)
    && each (length m.nodes) (λ n. nat_le (load m lines n) (capacity_of m n))
    && each (length m.groups) (λ g. each (length (choices_of m g)) (is_within_limit m lines g))
    && each (length m.groups) (λ g. placed lines g + slice_index free g == demand_of m g)
    && each (length m.groups) (λ g. nat_le (slice_index pointers g) (length (choices_of m g)))
    && each (length m.groups) (λ g. each (length (choices_of m g)) (λ k. nat_le k (slice_index pointers g) || (amount_at lines g k == 0)))
    && each (length m.groups) (λ g. each (length (choices_of m g)) (λ k. nat_le (slice_index pointers g) k || is_some (refuser_of m lines g k)))

-- a state that computes as it should is resumable
pub IsResumable-computed : (m : Market) (lines : List MapLine) (pointers free : List ℕ) → is_resumable m lines pointers free ≡ true → IsResumable m lines pointers free
IsResumable-computed m lines pointers free h =
    let refused = and_parts _ _ h in
    let past = and_parts _ _ refused.0 in
    let in_list = and_parts _ _ past.0 in
    let totals = and_parts _ _ in_list.0 in
    let limits = and_parts _ _ totals.0 in
    let capacities = and_parts _ _ limits.0 in
    let free_for = and_parts _ _ capacities.0 in
    let pointers_for = and_parts _ _ free_for.0 in
    record {
      form = below (is_line m lines) (length lines) pointers_for.0;
      pointers_for = eqb-true _ _ pointers_for.1;
      free_for = eqb-true _ _ free_for.1;
      capacities = λ n l. leb-true _ _ (below _ (length m.nodes) capacities.1 n l);
      limits = λ g k o. leb-true _ _ (below _ (length (choices_of m g)) (below _ (length m.groups) limits.1 g o.group) k o.place);
      totals = λ g l. eqb-true _ _ (below _ (length m.groups) totals.1 g l);
      in_list = λ g l. leb-true _ _ (below _ (length m.groups) in_list.1 g l);
      none_past = λ g k o later. elim (or_cases (nat_le k (slice_index pointers g)) (amount_at lines g k == 0) (below _ (length (choices_of m g)) (below _ (length m.groups) past.1 g o.group) k o.place)) [
        | inl low ↦ absurd (omega (arith, leb-true _ _ low))
        | inr none ↦ eqb-true (amount_at lines g k) 0 none
      ];
      refused = λ g k o before. elim (or_cases (nat_le (slice_index pointers g) k) (is_some (refuser_of m lines g k)) (below _ (length (choices_of m g)) (below _ (length m.groups) refused.1 g o.group) k o.place)) [
        | inl high ↦ absurd (omega (arith, leb-true _ _ high))
        | inr some ↦ some_from (refuser_of m lines g k) some
      ];
    }

-- two numbers that compute to different ones
pub is_not : (a b : ℕ) → (a == b) ≡ false → a ≡ b → ⊥
is_not a b differ e = absurd (false≢true (sym differ ∙ eq-eqb a b e))
