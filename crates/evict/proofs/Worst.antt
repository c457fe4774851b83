-- The worst offer under a node decides whether all are ranked at least as high as a key.
use Rattle.std.proofs.Common.{◌≡◌, ℕ, ◌==◌, true, false, not, ◌&&◌, List, refl, sym, ap, ◌∙◌, inl, inr, arith}
use Rattle.std.proofs.lemmas.Bool.{and_from, and_parts, cases_Bool, eq-eqb, eqb-true, ne_eqb}
use Rattle.map_model.specs.declared.instance.Key.{Key}
use Rattle.map_model.specs.declared.lines.MapLine.{MapLine}
use Rattle.map_model.specs.Market.{Market, IsSameShape, key_of}
use Rattle.map_model.specs.Allocation.{AreLines, counts_at, key_le, load, none_worse, units_of}
use Rattle.map_model.specs.Holding.{IsWorst, IsWorstKey, under_worse}
use Rattle.map_model.proofs.Shapes.{key_of-shape}
use Rattle.map_model.proofs.Units.{units_of-le}
use Rattle.evict.proofs.Bridge.{none_worse-units_of}
use Rattle.evict.proofs.Evictions.{units_of-split, within-all}
use Rattle.evict.proofs.Refusals.{some-AreLines}
use Rattle.evict.proofs.Shaped.{AreLines-shape, IsWorst-shape, load-shape}

-- nothing under a node is worse than a key where its worst offer is not
none_worse_some : (m : Market) (lines : List MapLine) (n h j units : ℕ) (key : Key) → AreLines m lines → IsWorst m lines n h j units → none_worse m lines n key ≡ key_le (key_of m h j) key
none_worse_some m lines n h j units key form w = none_worse-units_of m n key lines (some-AreLines m lines form) ∙ elim (cases_Bool (key_le (key_of m h j) key)) [
  | inl e ↦
      let all = within-all m lines n (key_of m h j) key w.worst e in
      let none : units_of (under_worse m n key) lines ≡ 0 = omega (arith, all, units_of-split m lines n key) in
      eq-eqb (units_of (under_worse m n key) lines) 0 none ∙ sym e
  | inr e ↦
      let more = units_of-le (λ x y. (x == h) && (y == j)) (under_worse m n key) (λ x y t. itself x y e t) lines in
      ne_eqb (units_of (under_worse m n key) lines) 0 (λ z. absurd (omega (arith, more, w.some, w.held))) ∙ sym e
]
  where
    itself : (x y : ℕ) → key_le (key_of m h j) key ≡ false → ((x == h) && (y == j)) ≡ true → under_worse m n key x y ≡ true
    itself x y e t =
        let p = and_parts (x == h) (y == j) t in
        let ex : x ≡ h = eqb-true x h p.0 in
        let ey : y ≡ j = eqb-true y j p.1 in
        rw (ex, ey) (and_from (counts_at m n h j) (not (key_le (key_of m h j) key)) w.under (rw e refl))

-- and where nothing is held there
none_worse_none : (m : Market) (lines : List MapLine) (n : ℕ) (key : Key) → AreLines m lines → load m lines n ≡ 0 → none_worse m lines n key ≡ true
none_worse_none m lines n key form none =
    none_worse-units_of m n key lines (some-AreLines m lines form) ∙ eq-eqb (units_of (under_worse m n key) lines) 0 (let z : units_of (under_worse m n key) lines ≡ 0 = omega (arith, units_of-split m lines n key, none) in z)

-- the same of an instance of the same shape, by the key of the worst offer
pub worst_key : (m m' : Market) → IsSameShape m m' → (lines : List MapLine) (n : ℕ) (worst key : Key) → AreLines m lines → IsWorstKey m lines n worst → none_worse m' lines n key ≡ key_le worst key
worst_key m m' s lines n worst key form w =
    none_worse_some m' lines n w.0 w.1 w.2 key (AreLines-shape m m' s lines form) (IsWorst-shape m m' s lines n w.0 w.1 w.2 w.3) ∙ ap (λ (x : Key). key_le x key) (key_of-shape m m' s w.0 w.1 ∙ w.4)

pub worst_none : (m m' : Market) → IsSameShape m m' → (lines : List MapLine) (n : ℕ) (key : Key) → AreLines m lines → load m lines n ≡ 0 → none_worse m' lines n key ≡ true
worst_none m m' s lines n key form none = none_worse_none m' lines n key (AreLines-shape m m' s lines form) (load-shape m m' s lines n ∙ none)
