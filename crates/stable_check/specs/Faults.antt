-- The first fault of each kind.
use Rattle.std.specs.Prelude.{◌≡◌, ℕ, ◌<◌, ◌≤◌, false, List, length, take, None, IsTrue, slice_get, ◌≢◌}
use Rattle.map_model.specs.declared.lines.MapLine.{MapLine}
use Rattle.map_model.specs.declared.lines.NameLine.{NameLine}
use Rattle.map_model.specs.Market.{Market, capacity_of, choices_of, demand_of, limit_of}
use Rattle.map_model.specs.Allocation.{IsOffer, IsRefusedIfWanted, amount_at, is_line, is_wanted, load, placed, refuser_of}

-- the first line that is not in the form of a map
pub record IsFirstBadLine (m : Market) (lines : List MapLine) (i : ℕ) : Type 0 where
  pub within : i < length lines
  pub bad : is_line m lines i ≡ false
  pub before : (j : ℕ) → j < i → IsTrue (is_line m lines j)

-- the first group that has more than its demand
pub record IsFirstOverDemand (m : Market) (lines : List MapLine) (g : ℕ) : Type 0 where
  pub within : g < length m.groups
  pub over : demand_of m g < placed lines g
  pub before : (h : ℕ) → h < g → placed lines h ≤ demand_of m h

-- the first place of a group's list that holds more than its limit
pub record IsOverLimitPlace (m : Market) (lines : List MapLine) (g k : ℕ) : Type 0 where
  pub place : k < length (choices_of m g)
  pub over : limit_of m g k < amount_at lines g k
  pub places : (j : ℕ) → j < k → amount_at lines g j ≤ limit_of m g j

-- the first offer, by group and place, that holds more than its limit
pub record IsFirstOverLimit (m : Market) (lines : List MapLine) (g k : ℕ) : Type 0 where
  pub offer : IsOffer m g k
  pub over : limit_of m g k < amount_at lines g k
  pub groups : (h j : ℕ) → h < g → IsOffer m h j → amount_at lines h j ≤ limit_of m h j
  pub places : (j : ℕ) → j < k → amount_at lines g j ≤ limit_of m g j

-- the first node that has more than its capacity
pub record IsFirstOverCapacity (m : Market) (lines : List MapLine) (n : ℕ) : Type 0 where
  pub within : n < length m.nodes
  pub over : capacity_of m n < load m lines n
  pub before : (o : ℕ) → o < n → load m lines o ≤ capacity_of m o

-- the first wanted place of a group's list that neither its limit nor a node refuses
pub record IsBlockingPlace (m : Market) (lines : List MapLine) (g k : ℕ) : Type 0 where
  pub place : k < length (choices_of m g)
  pub wanted : IsTrue (is_wanted m lines g k)
  pub unrefused : refuser_of m lines g k ≡ None
  pub places : (j : ℕ) → j < k → IsRefusedIfWanted m lines g j

-- the first wanted offer, by group and place, that neither its limit nor a node refuses
pub record IsFirstBlocking (m : Market) (lines : List MapLine) (g k : ℕ) : Type 0 where
  pub offer : IsOffer m g k
  pub wanted : IsTrue (is_wanted m lines g k)
  pub unrefused : refuser_of m lines g k ≡ None
  pub groups : (h j : ℕ) → h < g → IsOffer m h j → IsRefusedIfWanted m lines h j
  pub places : (j : ℕ) → j < k → IsRefusedIfWanted m lines g j

-- the first place at which two lists differ, or at which one of the two has ended
pub record IsFirstDifference (xs ys : List NameLine) (i : ℕ) : Type 0 where
  pub before : take i xs ≡ take i ys
  pub here : slice_get xs i ≢ slice_get ys i

-- no group has more than its demand
abbrev pub MeetsDemands : Market → List MapLine → Type 0
MeetsDemands m lines = (g : ℕ) → g < length m.groups → placed lines g ≤ demand_of m g

-- no offer holds more than its limit
abbrev pub MeetsLimits : Market → List MapLine → Type 0
MeetsLimits m lines = (g k : ℕ) → IsOffer m g k → amount_at lines g k ≤ limit_of m g k

-- no node has more than its capacity
abbrev pub MeetsCapacities : Market → List MapLine → Type 0
MeetsCapacities m lines = (n : ℕ) → n < length m.nodes → load m lines n ≤ capacity_of m n
