-- Worked rows of batches, of resumable and ended states, and of group-best maps.
use Rattle.std.proofs.Common.{◌≡◌, unwrap_or, ℕ, zero, suc, ◌<◌, ◌≤◌, [], ◌∷◌, List, length, refl, arith}
use Rattle.std.proofs.lemmas.Bool.{false≢true}
use Rattle.map_model.specs.declared.change.Change.{Change}
use Rattle.map_model.specs.declared.change.Change.TheVariants.{Demand, Capacity}
use Rattle.map_model.specs.declared.lines.MapLine.{MapLine}
use Rattle.map_model.specs.Market.{capacity_of, choices_of, climb, demand_of, is_pool_at, parent_of}
use Rattle.map_model.specs.Allocation.{placed_through}
use Rattle.map_model.specs.Batch.{IsApplied, last_capacity, last_demand}
use Rattle.map_model.specs.Progress.{IsEnded, IsGroupBest, IsResumable}
use Rattle.map_model.proofs.Units.{through-le-placed}
use Rattle.map_model.proofs.Decide.{IsResumable-computed, is_not}
use Rattle.map_model.proofs.Rows.{crossed, limited, line, region, scratch-good, two_level}

abbrev asks : ℕ → ℕ → Change
asks g units = Demand (record { 0 = g }) units

abbrev capacity : ℕ → ℕ → Change
capacity n units = Capacity (record { 0 = n }) units

-- a demand given twice in one batch: the last counts, and all else stays
twice-applied : IsApplied (crossed 1) (asks 2 7 ∷ asks 2 2 ∷ []) (crossed 2)
twice-applied = record {
  shape = record { groups = refl; nodes = refl; lists = lists; trees = λ n. refl; pools = λ n. refl };
  demands = demands;
  capacities = λ n l. refl;
}
  where
    lists : (g : ℕ) → choices_of (crossed 2) g ≡ choices_of (crossed 1) g
    lists zero = refl
    lists (suc zero) = refl
    lists (suc (suc zero)) = refl
    lists (suc (suc (suc g))) = refl

    demands : (g : ℕ) → g < 3 → demand_of (crossed 2) g ≡ unwrap_or (last_demand (asks 2 7 ∷ asks 2 2 ∷ []) g) (demand_of (crossed 1) g)
    demands zero l = refl
    demands (suc zero) l = refl
    demands (suc (suc zero)) l = refl
    demands (suc (suc (suc g))) l = absurd (omega arith)

earlier-does-not-count : IsApplied (crossed 1) (asks 2 2 ∷ asks 2 7 ∷ []) (crossed 2) → ⊥
earlier-does-not-count applied = is_not 2 7 refl (applied.demands 2 (omega arith))

nothing-else-changes : IsApplied (crossed 1) [] (crossed 2) → ⊥
nothing-else-changes applied = is_not 2 1 refl (applied.demands 2 (omega arith))

-- a capacity
capacity-applied : IsApplied (region 10) (capacity 1 3 ∷ []) (region 3)
capacity-applied = record {
  shape = record { groups = refl; nodes = refl; lists = λ g. refl; trees = trees; pools = pools };
  demands = λ g l. refl;
  capacities = capacities;
}
  where
    trees : (n : ℕ) → parent_of (region 3) n ≡ parent_of (region 10) n
    trees zero = refl
    trees (suc zero) = refl
    trees (suc (suc n)) = refl

    pools : (n : ℕ) → is_pool_at (region 3) n ≡ is_pool_at (region 10) n
    pools zero = refl
    pools (suc zero) = refl
    pools (suc (suc n)) = refl

    capacities : (n : ℕ) → n < 3 → capacity_of (region 3) n ≡ unwrap_or (last_capacity (capacity 1 3 ∷ []) n) (capacity_of (region 10) n)
    capacities zero l = refl
    capacities (suc zero) l = refl
    capacities (suc (suc zero)) l = refl
    capacities (suc (suc (suc n))) l = absurd (omega arith)

-- in the middle of a run: the first pool is full, and the second group, which it refused, has six units free and asks the second pool next
abbrev half_way : List MapLine
half_way = line 0 0 8 ∷ line 1 0 2 ∷ []

half_way-resumable : IsResumable two_level half_way (0 ∷ 1 ∷ []) (0 ∷ 6 ∷ [])
unfolding climb
half_way-resumable = IsResumable-computed two_level half_way (0 ∷ 1 ∷ []) (0 ∷ 6 ∷ []) refl

-- a pointer past a pool that has room
skips-nothing : IsResumable two_level half_way (0 ∷ 2 ∷ []) (0 ∷ 6 ∷ []) → ⊥
unfolding climb
skips-nothing state = absurd (false≢true (state.refused 1 1 (record { group = omega arith; place = omega arith }) (omega arith)))

-- units that are neither held nor free
loses-nothing : IsResumable two_level half_way (0 ∷ 1 ∷ []) (0 ∷ 5 ∷ []) → ⊥
loses-nothing state = is_not 7 8 refl (state.totals 1 (omega arith))

-- units at a place past the pointer
holds-nothing-past : IsResumable two_level (line 0 0 8 ∷ line 1 0 2 ∷ line 1 1 5 ∷ []) (0 ∷ 0 ∷ []) (0 ∷ 1 ∷ []) → ⊥
holds-nothing-past state = is_not 5 0 refl (state.none_past 1 1 (record { group = omega arith; place = omega arith }) (omega arith))

-- where five units are the limit of the first group at the first pool, its other three ask the second one next, though the first pool has room
abbrev at_limit : List MapLine
at_limit = line 0 0 5 ∷ []

at_limit-resumable : IsResumable limited at_limit (1 ∷ 0 ∷ []) (3 ∷ 8 ∷ [])
unfolding climb
at_limit-resumable = IsResumable-computed limited at_limit (1 ∷ 0 ∷ []) (3 ∷ 8 ∷ []) refl

-- and no more than that may be held there
past_limit : IsResumable limited (line 0 0 6 ∷ []) (0 ∷ 0 ∷ []) (2 ∷ 8 ∷ []) → ⊥
past_limit state = absurd (omega (arith, six state))
  where
    six : IsResumable limited (line 0 0 6 ∷ []) (0 ∷ 0 ∷ []) (2 ∷ 8 ∷ []) → 6 ≤ 5
    six state = state.limits 0 0 (record { group = omega arith; place = omega arith })

-- it is ended where the group has reached the end of its list, or has nothing free
ended-at-end : IsEnded two_level (0 ∷ 2 ∷ []) (0 ∷ 1 ∷ [])
ended-at-end zero l before = refl
ended-at-end (suc zero) l before = absurd (omega (arith, before))
ended-at-end (suc (suc g)) l before = absurd (omega (arith, l))

not-ended : IsEnded two_level (0 ∷ 1 ∷ []) (0 ∷ 6 ∷ []) → ⊥
not-ended ended = is_not 6 0 refl (ended 1 (omega arith) (omega arith))

-- of the two good maps one is group-best: each group has all that it asks for at its first place
scratch-best : IsGroupBest (crossed 2) (line 0 0 1 ∷ line 1 0 1 ∷ line 2 0 2 ∷ [])
scratch-best other form feasible stable g k o = least g k o.group o.place (at_most g k o.group)
  where
    at_most : (g k : ℕ) → g < length (crossed 2).groups → placed_through other g k ≤ demand_of (crossed 2) g
    at_most g k l = omega (arith, through-le-placed other g k, feasible.demands g l)

    least : (g k : ℕ) → g < length (crossed 2).groups → k < length (choices_of (crossed 2) g) → placed_through other g k ≤ demand_of (crossed 2) g → placed_through other g k ≤ placed_through (line 0 0 1 ∷ line 1 0 1 ∷ line 2 0 2 ∷ []) g k
    least zero zero l p h = h
    least zero (suc zero) l p h = h
    least zero (suc (suc k)) l p h = absurd (omega (arith, p))
    least (suc zero) zero l p h = h
    least (suc zero) (suc zero) l p h = h
    least (suc zero) (suc (suc k)) l p h = absurd (omega (arith, p))
    least (suc (suc zero)) zero l p h = h
    least (suc (suc zero)) (suc k) l p h = absurd (omega (arith, p))
    least (suc (suc (suc g))) k l p h = absurd (omega (arith, l))

-- and the other is not
repaired-not-best : IsGroupBest (crossed 2) (line 0 1 1 ∷ line 1 1 1 ∷ line 2 0 2 ∷ []) → ⊥
repaired-not-best best = is_not_less (best (line 0 0 1 ∷ line 1 0 1 ∷ line 2 0 2 ∷ []) scratch-good.form scratch-good.feasible scratch-good.stable 0 0 (record { group = omega arith; place = omega arith }))
  where
    is_not_less : 1 ≤ 0 → ⊥
    is_not_less h = absurd (omega (arith, h))
