-- The nearest full node of a path, and whom an offer would displace there.
use Rattle.std.proofs.Common.{◌≡◌, ℕ, zero, suc, ◌<◌, ◌≤◌, ◌==◌, Bool, true, false, List, ◌∷◌, [], length, Option, None, Some, slice_index, refl, sym, ap, ◌∙◌, subst, inl, inr, if◌then◌else◌, arith}
use Rattle.std.specs.Option.{IfSome}
use Rattle.std.specs.List.{find, list_any}
use Rattle.std.proofs.lemmas.Bool.{cases_Bool, eq-eqb, eqb-true, or_cases, or_right, false≢true}
use Rattle.capacity_tree.specs.Loads.{Loads}
use Rattle.map_model.specs.declared.instance.NodeId.{NodeId}
use Rattle.map_model.specs.declared.lines.MapLine.{MapLine}
use Rattle.map_model.specs.Market.{Market, IsMarket, IsSameShape, capacity_of, climb, parent_of, path, pool_of}
use Rattle.map_model.specs.Allocation.{IsOffer, is_under, load}
use Rattle.map_model.specs.Holding.{IsWorst}
use Rattle.map_model.proofs.Paths.{parent_there, pool_there}
use Rattle.map_model.proofs.Trees.{above_le, climb_longer, comparable, under_there}
use Rattle.evict.specs.declared.rival.Rival.{Rival}
use Rattle.evict.specs.Putting.{AgreesWith}
use Rattle.evict.specs.Standing.{HasNoRival, IsNearestFull, IsRival}
use Rattle.evict.proofs.Shaped.{IsWorst-shape, load-shape}

-- the first node of a climb that passes a test: no other one at or below it passes
record IsFirst (m : Market) (test : ℕ → Bool) (on : List ℕ) (n : ℕ) : Type 0 where
  on_path : list_any (λ x. x == n) on ≡ true
  passes : test n ≡ true
  first : (c : ℕ) → list_any (λ x. x == c) on ≡ true → is_under m n c ≡ true → test c ≡ true → c ≡ n

first_on : (m : Market) → IsMarket m → (test : ℕ → Bool) (steps : ℕ) (at : Option NodeId) (n : ℕ) → steps ≤ 8 → IfSome at (λ p. p.0 < length m.nodes) → find test (climb steps m at) ≡ Some n → IsFirst m test (climb steps m at) n
unfolding climb
first_on m market test zero at n few there found = absurd (let e : None ≡ Some n = found in cc)
first_on m market test (suc steps) None n few there found = absurd (let e : None ≡ Some n = found in cc)
first_on m market test (suc steps) (Some p) n few there found = elim (cases_Bool (test p.0)) [
  | inl e ↦
      let same : Some p.0 ≡ Some n = sym (ap (λ b. if b then Some p.0 else find test (climb steps m (parent_of m p.0))) e) ∙ found in
      let is : p.0 ≡ n = cc in
      record {
        on_path = rw (eq-eqb p.0 n is) refl;
        passes = ap test (sym is) ∙ e;
        first = λ c on under t.
            let long : is_under m c p.0 ≡ true = climb_longer m (suc steps) 8 (Some p) c few on in
            let above : is_under m p.0 c ≡ true = subst (λ x. is_under m x c ≡ true) (sym is) under in
            above_le m market p.0 c there above long ∙ is;
      }
  | inr e ↦
      let next : find test (climb steps m (parent_of m p.0)) ≡ Some n = sym (ap (λ b. if b then Some p.0 else find test (climb steps m (parent_of m p.0))) e) ∙ found in
      let rest = first_on m market test steps (parent_of m p.0) n (omega arith) (parent_there m market p.0 there) next in
      record {
        on_path = or_right (p.0 == n) (list_any (λ x. x == n) (climb steps m (parent_of m p.0))) rest.on_path;
        passes = rest.passes;
        first = λ c on under t. elim (or_cases (p.0 == c) (list_any (λ x. x == c) (climb steps m (parent_of m p.0))) on) [
          | inl here ↦ absurd (false≢true (sym e ∙ ap test (eqb-true p.0 c here) ∙ t))
          | inr more ↦ rest.first c more under t
        ];
      }
]

none_on : (test : ℕ → Bool) (xs : List ℕ) (n : ℕ) → find test xs ≡ None → list_any (λ x. x == n) xs ≡ true → test n ≡ false
none_on test [] n found on = absurd (false≢true on)
none_on test (x ∷ xs) n found on = elim (cases_Bool (test x)) [
  | inl e ↦ absurd (let some : Some x ≡ None = sym (ap (λ b. if b then Some x else find test xs) e) ∙ found in cc)
  | inr e ↦ elim (or_cases (x == n) (list_any (λ y. y == n) xs) on) [
    | inl here ↦ ap test (sym (eqb-true x n here)) ∙ e
    | inr more ↦ none_on test xs n (sym (ap (λ b. if b then Some x else find test xs) e) ∙ found) more
  ]
]

-- the full node that a search up the path finds
pub nearest_is : (m : Market) → IsMarket m → (lines : List MapLine) (tree : Loads) → AgreesWith m lines tree → (g k n : ℕ) → IsOffer m g k → find (λ x. slice_index tree.units x == capacity_of m x) (path m (pool_of m g k)) ≡ Some n → IsNearestFull m lines g k n
nearest_is m market lines tree agrees g k n o found =
    let pool = pool_there m market g k o in
    let first = first_on m market (λ x. slice_index tree.units x == capacity_of m x) 8 (Some (record { 0 = pool_of m g k })) n (omega arith) pool found in
    let there = under_there m market n (pool_of m g k) pool first.on_path in
    record {
      path = first.on_path;
      full = sym (agrees.loads n there) ∙ eqb-true (slice_index tree.units n) (capacity_of m n) first.passes;
      nearest = λ c on under full. first.first c on under (eq-eqb (slice_index tree.units c) (capacity_of m c) (agrees.loads c (under_there m market c (pool_of m g k) pool on) ∙ full));
    }

-- and that it finds none
pub nearest_none : (m : Market) → IsMarket m → (lines : List MapLine) (tree : Loads) → AgreesWith m lines tree → (g k : ℕ) → IsOffer m g k → find (λ x. slice_index tree.units x == capacity_of m x) (path m (pool_of m g k)) ≡ None → HasNoRival m lines g k
nearest_none m market lines tree agrees g k o found = record {
  nothing = λ n near.
      let there = under_there m market n (pool_of m g k) (pool_there m market g k o) near.path in
      let full : (slice_index tree.units n == capacity_of m n) ≡ true = eq-eqb (slice_index tree.units n) (capacity_of m n) (agrees.loads n there ∙ near.full) in
      absurd (false≢true (sym (none_on (λ x. slice_index tree.units x == capacity_of m x) (path m (pool_of m g k)) n found near.path) ∙ full));
}

-- two nearest full nodes are one
pub nearest_one : (m : Market) → IsMarket m → (lines : List MapLine) (g k n o : ℕ) → IsOffer m g k → IsNearestFull m lines g k n → IsNearestFull m lines g k o → n ≡ o
nearest_one m market lines g k n o offer a b = elim (comparable m (pool_of m g k) n o a.path b.path) [
  | inl below ↦ b.nearest n a.path below a.full
  | inr above ↦ sym (a.nearest o b.path above b.full)
]

-- nothing is held under the nearest full node
pub rival_none : (m m' : Market) → IsMarket m → IsSameShape m' m → (lines : List MapLine) (g k n : ℕ) → IsOffer m g k → IsNearestFull m lines g k n → load m' lines n ≡ 0 → HasNoRival m lines g k
rival_none m m' market shape lines g k n offer near none = record {
  nothing = λ o other. ap (load m lines) (nearest_one m market lines g k o n offer other near) ∙ load-shape m' m shape lines n ∙ none;
}

-- the worst offer is held there
pub rival_is : (m m' : Market) → IsSameShape m' m → (lines : List MapLine) (g k : ℕ) (rival : Rival) → IsNearestFull m lines g k rival.node.0 → IsWorst m' lines rival.node.0 rival.offer.group.0 rival.offer.place rival.units → IsRival m lines g k rival
rival_is m m' shape lines g k rival near worst = record { node = near; worst = IsWorst-shape m' m shape lines rival.node.0 rival.offer.group.0 rival.offer.place rival.units worst }
