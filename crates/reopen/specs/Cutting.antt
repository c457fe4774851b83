-- Giving up what is over demands and capacities.
use Rattle.std.specs.Prelude.{◌≡◌, ℕ, ◌+◌, ◌<◌, ◌≤◌, Bool, true, List, length, IsTrue, slice_index}
use Rattle.map_model.specs.declared.lines.MapLine.{MapLine}
use Rattle.map_model.specs.Market.{Market, IsMarket, IsSameShape, capacity_of, demand_of, key_of}
use Rattle.map_model.specs.Allocation.{AreLines, IsOffer, amount_at, counts_at, load, placed, units_of}
use Rattle.map_model.specs.Holding.{IsSaturated}
use Rattle.map_model.specs.Progress.{HoldsIn, root_of, tree_of}
use Rattle.evict.specs.Standing.{Standing}

-- no unit in the tree has to go: its nodes are within their capacities, and no group that holds units in it holds more than it asks for
pub record IsFitting (m : Market) (lines : List MapLine) (root : ℕ) : Type 0 where
  pub capacities : (n : ℕ) → n < length m.nodes → root_of m n ≡ root → load m lines n ≤ capacity_of m n
  pub demands : (g : ℕ) → HoldsIn m lines g root → placed lines g ≤ demand_of m g

-- Some held units are no longer held, and none came: said of the units that pass any test of group and place. Pointers stay, and so do all units of the trees in which none has to go.
pub record IsLess (m : Market) (old new : Standing) : Type 0 where
  pub whole : IsTrue new.is_whole
  pub market : new.market ≡ old.market
  pub form : AreLines m new.lines
  pub pointers : new.pointers ≡ old.pointers
  pub count : length new.free ≡ length old.free
  pub fewer : (test : ℕ → ℕ → Bool) → units_of test new.lines ≤ units_of test old.lines
  pub still : (test : ℕ → ℕ → Bool) → ((g k : ℕ) → IsOffer m g k → test g k ≡ true → IsFitting m old.lines (tree_of m g k)) → units_of test new.lines ≡ units_of test old.lines

-- what each group holds and has free adds up to as much as before
abbrev pub KeepsSums : Standing → Standing → Type 0
KeepsSums old new = (g : ℕ) → g < length old.free → placed new.lines g + slice_index new.free g ≡ placed old.lines g + slice_index old.free g

-- a state may be cut for an instance: it is whole, and the instance differs from its own in demands and capacities alone
pub record CanCut (m : Market) (state : Standing) : Type 0 where
  pub market : IsMarket m
  pub whole : IsTrue state.is_whole
  pub shape : IsSameShape state.market m
  pub form : AreLines m state.lines
  pub count : length state.free ≡ length m.groups

-- Units that go from the last places of each group that holds more than it asks for, as many as it has to give up and no more: each group then holds at most what it asks for, and where a place has fewer than before no later place has any, and the group still holds what it asks for.
pub record IsTrimmed (m : Market) (old new : List MapLine) : Type 0 where
  pub form : AreLines m new
  pub fewer : (test : ℕ → ℕ → Bool) → units_of test new ≤ units_of test old
  pub fits : (g : ℕ) → g < length m.groups → placed new g ≤ demand_of m g
  pub last : (g j k : ℕ) → IsOffer m g k → j < k → amount_at new g j < amount_at old g j → amount_at new g k ≡ 0
  pub enough : (g k : ℕ) → IsOffer m g k → amount_at new g k < amount_at old g k → demand_of m g ≤ placed new g

-- and of one group
pub record IsGroupTrimmed (m : Market) (g : ℕ) (old new : List MapLine) : Type 0 where
  pub last : (j k : ℕ) → IsOffer m g k → j < k → amount_at new g j < amount_at old g j → amount_at new g k ≡ 0
  pub enough : (k : ℕ) → IsOffer m g k → amount_at new g k < amount_at old g k → demand_of m g ≤ placed new g

-- where an offer has fewer units than before, some node of its path is full of units ranked at least as high
abbrev pub AreTurnedAway : Market → List MapLine → List MapLine → Type 0
AreTurnedAway m all left = (g k : ℕ) → IsOffer m g k → amount_at left g k < amount_at all g k → (n : ℕ) × (counts_at m n g k ≡ true) × IsSaturated m left n (key_of m g k)

-- inside this crate alone: and that node has a number from c on
abbrev pub AreTurnedFrom : Market → ℕ → List MapLine → List MapLine → Type 0
AreTurnedFrom m c all left = (g k : ℕ) → IsOffer m g k → amount_at left g k < amount_at all g k → (n : ℕ) × (counts_at m n g k ≡ true) × (c ≤ n) × IsSaturated m left n (key_of m g k)

-- Units that are left of others: no more at any offer, and all of them in the trees in which none has to go. An offer that has fewer is turned away by units ranked at least as high.
pub record IsLeft (m : Market) (all left : List MapLine) : Type 0 where
  pub fewer : (test : ℕ → ℕ → Bool) → units_of test left ≤ units_of test all
  pub still : (test : ℕ → ℕ → Bool) → ((g k : ℕ) → IsOffer m g k → test g k ≡ true → IsFitting m all (tree_of m g k)) → units_of test left ≡ units_of test all
  pub turned : AreTurnedAway m all left

-- A state cut for an instance: no offer holds more than before, no node is over its capacity, what each group holds and has free adds up to its demand, and in the trees in which no unit has to go all offers hold what they held. What is held is left of what the groups hold once they are trimmed.
pub record IsCut (m : Market) (old new : Standing) : Type 0 where
  pub less : IsLess m old new
  pub capacities : (n : ℕ) → n < length m.nodes → load m new.lines n ≤ capacity_of m n
  pub totals : (g : ℕ) → g < length m.groups → placed new.lines g + slice_index new.free g ≡ demand_of m g
  pub trimmed : (trimmed : List MapLine) × IsTrimmed m old.lines trimmed × IsLeft m trimmed new.lines
