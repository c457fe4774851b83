-- What repair keeps, and how many proposals it may make.
use Rattle.std.specs.Prelude.{◌≡◌, ℕ, ◌+◌, ◌*◌, ◌<◌, ◌≤◌, Bool, IsTrue, if◌then◌else◌, List, length, slice_index, sum_by}
use Rattle.std.specs.List.{range_with_len}
use Rattle.map_model.specs.declared.lines.MapLine.{MapLine}
use Rattle.map_model.specs.Market.{Market, choices_of, demand_of}
use Rattle.map_model.specs.Allocation.{IsOffer, amount_at, placed_through, is_wanted, name_of}
use Rattle.evict.specs.Standing.{IsPastWanted, IsReady, Standing}
use Rattle.map_model.specs.Progress.{IsReached, IsSpread, tree_of}

-- a state of a good map: whole and resumable, each pointer the number of its group's wanted places
pub record IsStateOf (m : Market) (state : Standing) : Type 0 where
  pub ready : IsReady m state
  pub pointers : (g : ℕ) → g < length m.groups → IsPastWanted m state.lines g (slice_index state.pointers g)

-- no place of the group that the old map leaves wanted lies in a reached tree
abbrev pub IsUnreached : Market → List MapLine → Market → ℕ → Type 0
IsUnreached old lines new g = (k : ℕ) → IsOffer old g k → IsTrue (is_wanted old lines g k) → IsReached old lines new (tree_of old g k) → ⊥

-- such a group is not moved up: up to each place that was wanted it has no more than before
abbrev pub IsKept : Market → List MapLine → Market → List MapLine → Type 0
IsKept old lines new repaired = (g k : ℕ) → IsOffer old g k → IsUnreached old lines new g → IsTrue (is_wanted old lines g k) → placed_through repaired g k ≤ placed_through lines g k

-- a group with no pool in a spread tree has the same units at each place, and the same names
pub record IsLocal (old : Market) (lines : List MapLine) (new : Market) (repaired : List MapLine) : Type 0 where
  pub amounts : (g k : ℕ) → IsOffer old g k → (IsSpread old lines new (tree_of old g k) → ⊥) → amount_at repaired g k ≡ amount_at lines g k
  pub names : (g k : ℕ) → IsOffer old g k → (IsSpread old lines new (tree_of old g k) → ⊥) → name_of new repaired (record { group = record { 0 = g }; place = k }) ≡ name_of old lines (record { group = record { 0 = g }; place = k })

-- how often groups may offer whose first pool stands in a set of trees: once for each unit of their demand and once more, at each place
abbrev pub most_inside : Market → (ℕ → Bool) → ℕ
most_inside m trees = sum_by (λ g. if trees (tree_of m g 0) then length (choices_of m g) * (demand_of m g + 1) else 0) (range_with_len 0 (length m.groups))

-- a number of proposals is within those of the groups with a pool in a spread tree: within those of the groups whose first pool stands in a set of trees, for each set that holds all spread trees; of these a group's list has all or none
abbrev pub IsWithinSpread : Market → List MapLine → Market → ℕ → ℕ → Type 0
IsWithinSpread old lines new before after = (trees : ℕ → Bool) → ((root : ℕ) → IsSpread old lines new root → IsTrue (trees root)) → after ≤ before + most_inside new trees

-- it is within twice those: once for a try that is thrown away, and once for the way that gives the map
abbrev pub IsWithinTwiceSpread : Market → List MapLine → Market → ℕ → ℕ → Type 0
IsWithinTwiceSpread old lines new before after = (trees : ℕ → Bool) → ((root : ℕ) → IsSpread old lines new root → IsTrue (trees root)) → after ≤ before + most_inside new trees * 2
