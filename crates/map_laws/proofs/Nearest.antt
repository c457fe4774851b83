-- Room is made where the full node nearest to the offer's pool is left; so the next in line is the best over the nodes of a path.
use Rattle.std.proofs.Common.{◌≡◌, ℕ, zero, suc, ◌<◌, ◌≤◌, ◌==◌, Bool, true, List, [], ◌∷◌, length, Option, None, Some, if◌then◌else◌, refl, sym, ap, ◌∙◌, subst, inl, inr, arith}
use Rattle.std.specs.List.{find, list_any}
use Rattle.std.proofs.lemmas.Bool.{cases_Bool, eq-eqb, eqb-true, false≢true, or_cases}
use Rattle.std.proofs.Math.Bool.{or-true}
use Rattle.map_model.specs.declared.instance.NodeId.{NodeId}
use Rattle.map_model.specs.declared.lines.MapLine.{MapLine}
use Rattle.map_model.specs.Market.{Market, IsMarket, capacity_of, climb, limit_of, parent_of, path, pool_of}
use Rattle.map_model.specs.Allocation.{IsOffer, is_under, load}
use Rattle.map_model.proofs.Trees.{climb_longer, under_trans}
use Rattle.best_laws.specs.Ahead.{IsRightMap}
use Rattle.best_laws.proofs.Offers.{offer_one}
use Rattle.map_laws.specs.Circles.{IsInLine, IsNextInLine, MakesRoom}
use Rattle.map_laws.specs.Nearest.{IsFirstFull}
use Rattle.map_laws.proofs.Full.{refused_at}

-- so room is made by a unit that leaves a pool just if it leaves that node
pub room_from : (m : Market) → IsMarket m → (lines : List MapLine) (pool n g k : ℕ) → pool < length m.nodes → IsFirstFull m lines (pool_of m g k) n → is_under m n pool ≡ true → MakesRoom m lines pool g k
room_from m market lines pool n g k there near under = λ c on full. under_trans m market c n pool there (near.nearest c on full) under

pub room_at : (m : Market) (lines : List MapLine) (pool n g k : ℕ) → IsFirstFull m lines (pool_of m g k) n → MakesRoom m lines pool g k → is_under m n pool ≡ true
room_at m lines pool n g k near room = room n near.on near.full

some_is : (a b : ℕ) → Some a ≡ Some b → a ≡ b
some_is a b e = cc

-- what a search up a path finds
record IsFound (m : Market) (steps : ℕ) (at : Option NodeId) (test : ℕ → Bool) (n : ℕ) : Type 0 where
  on : list_any (λ x. x == n) (climb steps m at) ≡ true
  passes : test n ≡ true
  nearest : (c : ℕ) → list_any (λ x. x == c) (climb steps m at) ≡ true → test c ≡ true → (s : ℕ) × (s ≤ steps) × (list_any (λ x. x == c) (climb s m (Some (record { 0 = n }))) ≡ true)

found_up : (m : Market) (test : ℕ → Bool) (steps : ℕ) (at : Option NodeId) (n : ℕ) → find test (climb steps m at) ≡ Some n → IsFound m steps at test n
unfolding climb
found_up m test zero at n e = absurd (none_some e)
  where
    none_some : None ≡ Some n → ⊥
    none_some h = cc
found_up m test (suc steps) None n e = absurd (none_some e)
  where
    none_some : None ≡ Some n → ⊥
    none_some h = cc
found_up m test (suc steps) (Some p) n e = elim (cases_Bool (test p.0)) [
  | inl t ↦
      let same : p.0 ≡ n = some_is p.0 n (ap (λ b. if b then Some p.0 else find test (climb steps m (parent_of m p.0))) (sym t) ∙ e) in
      record {
        on = rw (eq-eqb p.0 n same) refl;
        passes = subst (λ x. test x ≡ true) same t;
        nearest = λ c on pass. (suc steps, omega arith, subst (λ x. list_any (λ y. y == c) (climb (suc steps) m (Some (record { 0 = x }))) ≡ true) same on);
      }
  | inr f ↦
      let later : find test (climb steps m (parent_of m p.0)) ≡ Some n = ap (λ b. if b then Some p.0 else find test (climb steps m (parent_of m p.0))) (sym f) ∙ e in
      let r = found_up m test steps (parent_of m p.0) n later in
      record {
        on = rw r.on (or-true (p.0 == n));
        passes = r.passes;
        nearest = λ c on pass. elim (or_cases (p.0 == c) (list_any (λ y. y == c) (climb steps m (parent_of m p.0))) on) [
          | inl here ↦ absurd (false≢true (sym f ∙ ap test (eqb-true p.0 c here) ∙ pass))
          | inr up ↦ let w = r.nearest c up pass in (w.0, omega (arith, w.1), w.2)
        ];
      }
]

-- the first full node of an offer's path is that node
pub nearest_found : (m : Market) (lines : List MapLine) (n g k : ℕ) → find (λ c. load m lines c == capacity_of m c) (path m (pool_of m g k)) ≡ Some n → IsFirstFull m lines (pool_of m g k) n
nearest_found m lines n g k e =
    let r = found_up m (λ c. load m lines c == capacity_of m c) 8 (Some (record { 0 = pool_of m g k })) n e in
    record {
      on = r.on;
      full = eqb-true (load m lines n) (capacity_of m n) r.passes;
      nearest = λ c on full. let w = r.nearest c on (eq-eqb (load m lines c) (capacity_of m c) full) in climb_longer m w.0 8 (Some (record { 0 = n })) c w.1 w.2;
    }

pub not_found : (test : ℕ → Bool) (ns : List ℕ) (n : ℕ) → find test ns ≡ None → list_any (λ x. x == n) ns ≡ true → test n ≡ true → ⊥
not_found test [] n e on pass = false≢true on
not_found test (x ∷ ns) n e on pass = elim (cases_Bool (test x)) [
  | inl t ↦ some_none x (ap (λ b. if b then Some x else find test ns) (sym t) ∙ e)
  | inr f ↦ elim (or_cases (x == n) (list_any (λ y. y == n) ns) on) [
    | inl same ↦ false≢true (sym f ∙ ap test (eqb-true x n same) ∙ pass)
    | inr there ↦ not_found test ns n (ap (λ b. if b then Some x else find test ns) (sym f) ∙ e) there pass
  ]
]
  where
    some_none : (a : ℕ) → Some a ≡ None → ⊥
    some_none a h = cc

-- in a right map each offer in line has one
pub has_nearest : (m : Market) → IsMarket m → (limits : ℕ → ℕ → ℕ) → ((g k : ℕ) → IsOffer m g k → limits g k ≤ limit_of m g k) → (lines : List MapLine) → IsRightMap m lines → (g k : ℕ) → IsInLine m limits lines g k → (n : ℕ) × IsFirstFull m lines (pool_of m g k) n
has_nearest m market limits limited lines right g k line = go (find full (path m (pool_of m g k))) refl
  where
    full : ℕ → Bool
    full c = load m lines c == capacity_of m c

    go : (o : Option ℕ) → find full (path m (pool_of m g k)) ≡ o → (n : ℕ) × IsFirstFull m lines (pool_of m g k) n
    go (Some n) e = (n, nearest_found m lines n g k e)
    go None e =
        let r = refused_at m market lines right g k line.offer line.wanted (omega (arith, line.room, limited g k line.offer)) in
        absurd (not_found full (path m (pool_of m g k)) r.0 e r.1.on (eq-eqb (load m lines r.0) (capacity_of m r.0) r.1.full))

-- and one offer alone is next
pub next_one : (m : Market) → IsMarket m → (limits : ℕ → ℕ → ℕ) (lines : List MapLine) (pool g k h j : ℕ) → IsNextInLine m limits lines pool g k → IsNextInLine m limits lines pool h j → (g ≡ h) × (k ≡ j)
next_one m market limits lines pool g k h j x y = offer_one m market g k h j x.in_line.offer y.in_line.offer (x.best h j y.in_line y.room) (y.best g k x.in_line x.room)
