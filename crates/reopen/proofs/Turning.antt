-- Where an offer gives up units, a node of its path is left full of units ranked at least as high.
use Rattle.std.proofs.Common.{◌≡◌, ℕ, ◌+◌, ◌<◌, ◌≤◌, ◌==◌, true, ◌&&◌, if◌then◌else◌, List, length, refl, ap, ◌∙◌, subst, inl, inr, arith}
use Rattle.std.proofs.lemmas.Bool.{and_from, and_parts, cases_Bool, eqb-true}
use Rattle.map_model.specs.declared.instance.Key.{Key}
use Rattle.map_model.specs.declared.lines.MapLine.{MapLine}
use Rattle.map_model.specs.Market.{Market, IsMarket, capacity_of, key_of, pool_of}
use Rattle.map_model.specs.Allocation.{counts_at, key_le, load, units_of}
use Rattle.map_model.specs.Holding.{IsSaturated, IsWorst, Takes, under_within, under_worse}
use Rattle.map_model.proofs.Keys.{key_le_itself, key_le_trans}
use Rattle.map_model.proofs.Paths.{pool_there}
use Rattle.map_model.proofs.Trees.{comparable, under_le, under_trans}
use Rattle.map_model.proofs.Units.{units_of-le}
use Rattle.evict.proofs.Evictions.{units_of-split}
use Rattle.reopen.specs.Cutting.{AreTurnedAway, AreTurnedFrom}

-- as many units of the worst offer under a node go as leave it full: it is left full of units ranked at least as high as that
saturated_left : (m : Market) (old new : List MapLine) (c g k held units : ℕ) → IsWorst m old c g k held → Takes old new g k units → capacity_of m c + units ≤ load m old c → (key : Key) → key_le (key_of m g k) key ≡ true → IsSaturated m new c key
saturated_left m old new c g k held units worst taken room key le =
    let more = units_of-le (under_within m c (key_of m g k)) (under_within m c key) (λ h j t.
    let p = and_parts (counts_at m c h j) (key_le (key_of m h j) (key_of m g k)) t in
    and_from (counts_at m c h j) (key_le (key_of m h j) key) p.0 (key_le_trans (key_of m h j) (key_of m g k) key p.1 le)) new in
    let all : (if counts_at m c g k then units else 0) ≡ units = rw worst.under refl in
    omega (arith, more, units_of-split m new c (key_of m g k), taken (under_worse m c (key_of m g k)), worst.worst, taken (counts_at m c), all, room)

-- a release of such units leaves each offer with fewer than at the start turned away
pub turned_release : (m : Market) → IsMarket m → (all old new : List MapLine) (c g k held units : ℕ) → c < length m.nodes → IsWorst m old c g k held → Takes old new g k units → capacity_of m c + units ≤ load m old c → AreTurnedFrom m c all old → AreTurnedFrom m c all new
turned_release m market all old new c g k held units there worst taken room before h j o less = elim (cases_Bool ((g == h) && (k == j))) [
  | inl e ↦
      let p = and_parts (g == h) (k == j) e in
      let group : g ≡ h = eqb-true g h p.0 in
      let place : k ≡ j = eqb-true k j p.1 in
      let keys : key_of m g k ≡ key_of m h j = ap (λ x. key_of m x k) group ∙ ap (key_of m h) place in
      let le : key_le (key_of m g k) (key_of m h j) ≡ true = subst (λ x. key_le (key_of m g k) x ≡ true) keys (key_le_itself (key_of m g k)) in
      let under : counts_at m c h j ≡ true = subst (λ x. counts_at m c h x ≡ true) place (subst (λ x. counts_at m c x k ≡ true) group worst.under) in
      (c, under, omega arith, full (key_of m h j) le)
  | inr e ↦
      let none : (if (g == h) && (k == j) then units else 0) ≡ 0 = rw e refl in
      let was = before h j o (omega (arith, less, taken (λ x y. (x == h) && (y == j)), none)) in
      let n : ℕ = was.0 in
      let key : Key = key_of m h j in
      elim (cases_Bool (under_within m n key g k)) [
        | inr apart ↦
            let still : (if under_within m n key g k then units else 0) ≡ 0 = rw apart refl in
            let saturated : capacity_of m n ≤ units_of (under_within m n key) old = was.3 in
            (n, was.1, was.2, omega (arith, saturated, taken (under_within m n key), still))
        | inl within ↦
            let p = and_parts (counts_at m n g k) (key_le (key_of m g k) key) within in
            let high : c ≤ n = was.2 in
            let under : counts_at m c h j ≡ true = elim (comparable m (pool_of m g k) n c p.0 worst.under) [
              | inl above ↦ under_trans m market c n (pool_of m h j) (pool_there m market h j o) above was.1
              | inr below ↦ let same : n ≡ c = omega (arith, under_le m market n c there below, high) in subst (λ x. counts_at m x h j ≡ true) same was.1
            ] in
            (c, under, omega arith, full key p.1)
      ]
]
  where
    full : (key : Key) → key_le (key_of m g k) key ≡ true → IsSaturated m new c key
    full = saturated_left m old new c g k held units worst taken room

pub turned_lower : (m : Market) (high low : ℕ) (all left : List MapLine) → low ≤ high → AreTurnedFrom m high all left → AreTurnedFrom m low all left
turned_lower m high low all left le turned g k o less = let t = turned g k o less in let from : high ≤ t.0 = t.2 in (t.0, t.1, omega (arith, from, le), t.3)

pub turned_away : (m : Market) (c : ℕ) (all left : List MapLine) → AreTurnedFrom m c all left → AreTurnedAway m all left
turned_away m c all left turned g k o less = let t = turned g k o less in (t.0, t.1, t.3)
