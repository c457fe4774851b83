-- What refuses, by units.
use Rattle.std.proofs.Common.{◌≡◌, ℕ, ◌<◌, ◌≤◌, ◌==◌, Bool, true, List, [], ◌∷◌, IsSome, All, refl, sym, ap, ◌∙◌, inl, inr, arith}
use Rattle.std.specs.List.{find, list_any}
use Rattle.std.proofs.lemmas.Bool.{and_parts, and_from, cases_Bool, eqb-true, eq-eqb, or_cases, false≢true}
use Rattle.std.proofs.lemmas.List.Elements.{All-from_get_or}
use Rattle.std.proofs.Math.Bool.{or-true}
use Rattle.map_model.specs.declared.instance.Key.{Key}
use Rattle.map_model.specs.declared.lines.MapLine.{MapLine}
use Rattle.map_model.specs.Market.{Market, IsMarket, capacity_of, key_of, path, pool_of}
use Rattle.map_model.specs.Allocation.{AreLines, counts_at, is_full_of_better, load, none_worse, refusing_node, units_of}
use Rattle.map_model.specs.Holding.{IsSaturated, under_worse}
use Rattle.map_model.proofs.MapForm.{IsLineAt-from}
use Rattle.map_model.proofs.Trees.{under_there}
use Rattle.evict.specs.Putting.{IsSettled}
use Rattle.evict.specs.Standing.{KeepsRefusals}
use Rattle.evict.proofs.Bridge.{none_worse-units_of}
use Rattle.evict.proofs.Evictions.{full-IsSaturated, units_of-split}

-- each line of a map has units
pub some-AreLines : (m : Market) (lines : List MapLine) → AreLines m lines → All (λ l. 0 < l.amount) lines
some-AreLines m lines form = All-from_get_or (λ l. 0 < l.amount) lines (record { group = record { 0 = 0 }; place = 0; amount = 0 }) (λ i l. (IsLineAt-from m lines i (form i l)).some)

-- a full node with nothing worse is saturated
pub saturated_from_full : (m : Market) (lines : List MapLine) (n : ℕ) (key : Key) → AreLines m lines → is_full_of_better m lines n key ≡ true → IsSaturated m lines n key
saturated_from_full m lines n key form full =
    let p = and_parts (load m lines n == capacity_of m n) (none_worse m lines n key) full in
    let none : units_of (under_worse m n key) lines ≡ 0 = eqb-true _ _ (sym (none_worse-units_of m n key lines (some-AreLines m lines form)) ∙ p.1) in
    omega (arith, units_of-split m lines n key, none, eqb-true (load m lines n) (capacity_of m n) p.0)

-- and the other way round, within its capacity
pub full_from_saturated : (m : Market) (lines : List MapLine) (n : ℕ) (key : Key) → AreLines m lines → load m lines n ≤ capacity_of m n → IsSaturated m lines n key → is_full_of_better m lines n key ≡ true
full_from_saturated m lines n key form fits full =
    let p = full-IsSaturated m lines n key fits full in
    and_from (load m lines n == capacity_of m n) (none_worse m lines n key) (eq-eqb (load m lines n) (capacity_of m n) p.0)
    (none_worse-units_of m n key lines (some-AreLines m lines form) ∙ eq-eqb (units_of (under_worse m n key) lines) 0 p.1)

find_some : (test : ℕ → Bool) (xs : List ℕ) (n : ℕ) → list_any (λ x. x == n) xs ≡ true → test n ≡ true → IsSome (find test xs)
find_some test [] n there h = absurd (false≢true there)
find_some test (x ∷ xs) n there h = elim (cases_Bool (test x)) [
  | inl e ↦ rw e refl
  | inr e ↦ rw e (elim (or_cases (x == n) (list_any (λ y. y == n) xs) there) [
    | inl same ↦ absurd (false≢true (sym e ∙ ap test (eqb-true x n same) ∙ h))
    | inr more ↦ find_some test xs n more h
  ])
]

found : (test : ℕ → Bool) (xs : List ℕ) → IsSome (find test xs) → (n : ℕ) × (list_any (λ x. x == n) xs ≡ true) × (test n ≡ true)
found test [] h = absurd (false≢true h)
found test (x ∷ xs) h = elim (cases_Bool (test x)) [
  | inl e ↦ (x, rw (eq-eqb x x refl) refl, e)
  | inr e ↦ let r = found test xs (rw e at h) in (r.0, rw r.1 (or-true (x == r.0)), r.2)
]

-- an offer is refused where a node of its path is full of units ranked at least as high
pub refused_at : (m : Market) (lines : List MapLine) (g k n : ℕ) → counts_at m n g k ≡ true → is_full_of_better m lines n (key_of m g k) ≡ true → IsSome (refusing_node m lines g k)
refused_at m lines g k n on full = find_some (λ n. is_full_of_better m lines n (key_of m g k)) (path m (pool_of m g k)) n on full

pub refused_by : (m : Market) (lines : List MapLine) (g k : ℕ) → IsSome (refusing_node m lines g k) → (n : ℕ) × (counts_at m n g k ≡ true) × (is_full_of_better m lines n (key_of m g k) ≡ true)
refused_by m lines g k some = found (λ n. is_full_of_better m lines n (key_of m g k)) (path m (pool_of m g k)) some

-- after a put, what a node refused is refused by it or by a node above it
pub refusals_kept : (m : Market) → IsMarket m → (start lines : List MapLine) → AreLines m start → AreLines m lines → IsSettled m start lines → KeepsRefusals m start lines
refusals_kept m market start lines form form' settled n key l full =
    let w = settled.kept n l key (saturated_from_full m start n key form full) in
    let there = under_there m market w.0 n l w.1 in
    (w.0, w.1, full_from_saturated m lines w.0 key form' (settled.fits w.0 there) w.2)
