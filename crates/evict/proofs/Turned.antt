-- Offers that gave up units are refused.
use Rattle.std.proofs.Common.{◌≡◌, ℕ, ◌+◌, ◌<◌, ◌≤◌, true, if◌then◌else◌, List, length, refl, subst, inl, inr, arith}
use Rattle.std.proofs.lemmas.Bool.{and_parts}
use Rattle.map_model.specs.declared.lines.MapLine.{MapLine}
use Rattle.map_model.specs.Market.{Market, IsMarket, capacity_of, key_of, pool_of}
use Rattle.map_model.specs.Allocation.{counts_at, is_under, key_le, units_of}
use Rattle.map_model.specs.Holding.{IsSaturated, Takes, under_within, under_worse}
use Rattle.map_model.proofs.Keys.{key_le_itself}
use Rattle.map_model.proofs.Trees.{under_itself, under_trans, above_le}
use Rattle.evict.specs.declared.freed.Eviction.{Eviction}
use Rattle.evict.specs.Putting.{IsTurnedAway}
use Rattle.evict.proofs.Evictions.{evict_step, within-all}

-- what a node has left of what was over
left_over : (m : Market) (old new : List MapLine) (c h j units : ℕ) → Takes old new h j units → counts_at m c h j ≡ true → capacity_of m c + units ≤ units_of (counts_at m c) old → capacity_of m c ≤ units_of (counts_at m c) new
left_over m old new c h j units takes here over =
    let t = takes (counts_at m c) in
    let z : (if counts_at m c h j then units else 0) ≡ units = rw here refl in
    omega (arith, t, z, over)

none_left : (m : Market) (old new : List MapLine) (c h j units : ℕ) → Takes old new h j units → units_of (under_worse m c (key_of m h j)) old ≡ 0 → units_of (under_worse m c (key_of m h j)) new ≡ 0
none_left m old new c h j units takes worst = omega (arith, takes (under_worse m c (key_of m h j)), worst)

-- the offer that gives up units at a node is turned away there
pub turned_here : (m : Market) (old new : List MapLine) (c : ℕ) (e : Eviction) → Takes old new e.offer.group.0 e.offer.place e.units → counts_at m c e.offer.group.0 e.offer.place ≡ true
    → units_of (under_worse m c (key_of m e.offer.group.0 e.offer.place)) old ≡ 0 → capacity_of m c + e.units ≤ units_of (counts_at m c) old → IsTurnedAway m new c e
turned_here m old new c e takes here worst over =
    let h = e.offer.group.0 in
    let j = e.offer.place in
    let all = within-all m new c (key_of m h j) (key_of m h j) (none_left m old new c h j e.units takes worst) (key_le_itself (key_of m h j)) in
    (c, here, under_itself m c, omega (arith, all, left_over m old new c h j e.units takes here over))

-- an offer that was turned away at or below a node still is, when that node evicts its worst
pub turned_still : (m : Market) → IsMarket m → (old new : List MapLine) (c h j units : ℕ) → c < length m.nodes → Takes old new h j units → counts_at m c h j ≡ true → units_of (under_worse m c (key_of m h j)) old ≡ 0
    → capacity_of m c + units ≤ units_of (counts_at m c) old → (e : Eviction) → pool_of m e.offer.group.0 e.offer.place < length m.nodes → IsTurnedAway m old c e → IsTurnedAway m new c e
turned_still m market old new c h j units there takes here worst over e pool w =
    let key = key_of m e.offer.group.0 e.offer.place in
    let all_of = λ (le : key_le (key_of m h j) key ≡ true). within-all m new c (key_of m h j) key (none_left m old new c h j units takes worst) le in
    let full_now = λ (le : key_le (key_of m h j) key ≡ true). at_c (all_of le) in
    elim (evict_step m old new h j units c takes here worst over w.0 key w.3) [
      | inl s ↦ (w.0, w.1, w.2, s)
      | inr (inl s) ↦ (c, under_trans m market c w.0 (pool_of m e.offer.group.0 e.offer.place) pool w.2 w.1, under_itself m c, s.1)
      | inr (inr s) ↦
          let same : w.0 ≡ c = above_le m market c w.0 there w.2 s.0 in
          let path : counts_at m c e.offer.group.0 e.offer.place ≡ true = subst (λ x. is_under m x (pool_of m e.offer.group.0 e.offer.place) ≡ true) same w.1 in
          (c, path, under_itself m c, full_now (and_parts (counts_at m w.0 h j) (key_le (key_of m h j) key) s.1).1)
    ]
  where
    at_c : units_of (under_within m c (key_of m e.offer.group.0 e.offer.place)) new ≡ units_of (counts_at m c) new → IsSaturated m new c (key_of m e.offer.group.0 e.offer.place)
    at_c all = omega (arith, all, left_over m old new c h j units takes here over)
