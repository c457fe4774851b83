-- Units under a node, within a key and past it.
use Rattle.std.proofs.Common.{◌≡◌, ℕ, ◌+◌, ◌≤◌, Bool, true, false, not, ◌&&◌, if◌then◌else◌, ◌⊎◌, List, refl, inl, inr, arith}
use Rattle.std.proofs.lemmas.Bool.{and_parts, cases_Bool, false≢true}
use Rattle.map_model.specs.declared.instance.Key.{Key}
use Rattle.map_model.specs.declared.lines.MapLine.{MapLine}
use Rattle.map_model.specs.Market.{Market, capacity_of, key_of, pool_of}
use Rattle.map_model.specs.Allocation.{is_under, key_le, units_of, counts_at}
use Rattle.map_model.proofs.Keys.{key_le_trans}
use Rattle.map_model.proofs.Units.{sum_by-add, units_of-le}
use Rattle.map_model.specs.Holding.{under_within, under_worse, IsSaturated, Takes}
use Rattle.map_model.proofs.Trees.{comparable}

-- the units counts_at a node are those within a key and those past it
pub units_of-split : (m : Market) (lines : List MapLine) (n : ℕ) (key : Key) → units_of (counts_at m n) lines ≡ units_of (under_within m n key) lines + units_of (under_worse m n key) lines
units_of-split m lines n key = sum_by-add _ _ _ (λ l. each (counts_at m n l.group.0 l.place) (key_le (key_of m l.group.0 l.place) key) l.amount) lines
  where
    each : (u k : Bool) (a : ℕ) → (if u then a else 0) ≡ (if u && k then a else 0) + (if u && not k then a else 0)
    each true true a = omega arith
    each true false a = omega arith
    each false k a = omega arith

-- a node that is within its capacity and saturated is full, and has nothing worse
pub full-IsSaturated : (m : Market) (lines : List MapLine) (n : ℕ) (key : Key) → units_of (counts_at m n) lines ≤ capacity_of m n → IsSaturated m lines n key
    → (units_of (counts_at m n) lines ≡ capacity_of m n) × (units_of (under_worse m n key) lines ≡ 0)
full-IsSaturated m lines n key fits full = (omega (arith, units_of-split m lines n key), omega (arith, units_of-split m lines n key))

-- where nothing counts_at a node is worse than one key, all of it is within a later one
pub within-all : (m : Market) (lines : List MapLine) (n : ℕ) (worst key : Key) → units_of (under_worse m n worst) lines ≡ 0 → key_le worst key ≡ true → units_of (under_within m n key) lines ≡ units_of (counts_at m n) lines
within-all m lines n worst key none le =
    let more = units_of-le (under_worse m n key) (under_worse m n worst) (λ g k. worse (counts_at m n g k) (key_of m g k)) lines in
    omega (arith, units_of-split m lines n key, more, none)
  where
    worse : (u : Bool) (x : Key) → (u && not (key_le x key)) ≡ true → (u && not (key_le x worst)) ≡ true
    worse u x h = only u (key_le x key) (key_le x worst) (λ e. key_le_trans x worst key e le) h
      where
        only : (u a b : Bool) → (b ≡ true → a ≡ true) → (u && not a) ≡ true → (u && not b) ≡ true
        only u a false f h = only_left u a h
          where
            only_left : (u a : Bool) → (u && not a) ≡ true → (u && true) ≡ true
            only_left true a h = refl
            only_left false a h = h
        only u true true f h = h
        only u false true f h = absurd (false≢true (f refl))

-- Evicting at node o units of the worst offer counts_at it, no more than o is over its capacity: what was saturated stays so, or o is above it and saturated now, or it is above o.
pub evict_step : (m : Market) (old new : List MapLine) (g k units o : ℕ) → Takes old new g k units → counts_at m o g k ≡ true
    → units_of (under_worse m o (key_of m g k)) old ≡ 0 → capacity_of m o + units ≤ units_of (counts_at m o) old
    → (n : ℕ) (key : Key) → IsSaturated m old n key
    → IsSaturated m new n key ⊎ (((is_under m o n ≡ true) × IsSaturated m new o key) ⊎ ((is_under m n o ≡ true) × (under_within m n key g k ≡ true)))
evict_step m old new g k units o takes here worst over n key full = elim (cases_Bool (under_within m n key g k)) [
  | inr e ↦ inl (let t = takes (under_within m n key) in let z : (if under_within m n key g k then units else 0) ≡ 0 = rw e refl in omega (arith, t, z, full))
  | inl e ↦ elim (comparable m (pool_of m g k) n o (left e) here) [
    | inl a ↦ inr (inl (
      a,
      let new_all = within-all m new o (key_of m g k) key none (right e) in
          let t = takes (counts_at m o) in let z : (if counts_at m o g k then units else 0) ≡ units = rw here refl in
          omega (arith, new_all, t, z, over),
    ))
    | inr b ↦ inr (inr (b, e))
  ]
]
  where
    left : (counts_at m n g k && key_le (key_of m g k) key) ≡ true → counts_at m n g k ≡ true
    left h = (and_parts (counts_at m n g k) (key_le (key_of m g k) key) h).0

    right : (counts_at m n g k && key_le (key_of m g k) key) ≡ true → key_le (key_of m g k) key ≡ true
    right h = (and_parts (counts_at m n g k) (key_le (key_of m g k) key) h).1

    none : units_of (under_worse m o (key_of m g k)) new ≡ 0
    none = omega (arith, takes (under_worse m o (key_of m g k)), worst)
