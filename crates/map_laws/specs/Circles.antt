-- Offers in line for a unit more, which of them is next where a unit leaves a pool, and maps in which no circle of groups can all do better.
use Rattle.std.specs.Prelude.{◌≡◌, ℕ, ◌<◌, true, min, nat_lt, if◌then◌else◌, List, IsTrue, slice_index}
use Rattle.map_model.specs.declared.lines.MapLine.{MapLine}
use Rattle.map_model.specs.Market.{Market, capacity_of, demand_of, is_pool_at, key_of, limit_of, pool_of}
use Rattle.map_model.specs.Allocation.{IsOffer, amount_at, counts_at, is_under, key_le, load, placed, placed_through}

-- the offer would take a unit more, and may: it is wanted, and holds less than its limit
pub record IsInLine (m : Market) (limits : ℕ → ℕ → ℕ) (lines : List MapLine) (g k : ℕ) : Type 0 where
  pub offer : IsOffer m g k
  pub wanted : placed_through lines g k < demand_of m g
  pub room : amount_at lines g k < limits g k

-- a unit that leaves a pool makes room for the offer: each full node of its path is also on the path of that pool
abbrev pub MakesRoom : Market → List MapLine → ℕ → ℕ → ℕ → Type 0
MakesRoom m lines pool g k = (n : ℕ) → counts_at m n g k ≡ true → load m lines n ≡ capacity_of m n → is_under m n pool ≡ true

-- the best ranked of the offers in line for which a unit that leaves a pool makes room
pub record IsNextInLine (m : Market) (limits : ℕ → ℕ → ℕ) (lines : List MapLine) (pool g k : ℕ) : Type 0 where
  pub in_line : IsInLine m limits lines g k
  pub room : MakesRoom m lines pool g k
  pub best : (h j : ℕ) → IsInLine m limits lines h j → MakesRoom m lines pool h j → key_le (key_of m g k) (key_of m h j) ≡ true

-- the last place at which a group has units
pub record IsLastPlace (lines : List MapLine) (g k : ℕ) : Type 0 where
  pub some : 0 < amount_at lines g k
  pub last : (j : ℕ) → k < j → amount_at lines g j ≡ 0

-- No circle: pools have numbers that fall from each to the pool of the last place of the group that is next in line there, if that group is placed whole. So no groups in a circle can each take the unit that the one before it leaves.
pub record IsCircleFree (m : Market) (limits : ℕ → ℕ → ℕ) (lines : List MapLine) : Type 0 where
  pub numbers : List ℕ
  pub falls : (pool g k j : ℕ) → IsTrue (is_pool_at m pool) → IsNextInLine m limits lines pool g k → placed lines g ≡ demand_of m g → IsLastPlace lines g j → slice_index numbers (pool_of m g j) < slice_index numbers pool

-- what offers may hold if they are to have no more than a state leaves them: before its group's pointer no more than is held there, and nowhere more than their limits
abbrev pub limits_below : Market → List MapLine → List ℕ → ℕ → ℕ → ℕ
limits_below m held pointers g k = if nat_lt k (slice_index pointers g) then min (limit_of m g k) (amount_at held g k) else limit_of m g k
