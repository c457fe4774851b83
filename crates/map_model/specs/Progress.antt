-- Resumable, ended and group-best, and the trees to which changes reach and spread.
use Rattle.std.specs.Prelude.{◌≡◌, ◌≢◌, ℕ, ◌+◌, ◌-◌, ◌<◌, ◌≤◌, Bool, List, length, IsTrue, IsSome, slice_index}
use Rattle.map_model.specs.declared.lines.MapLine.{MapLine}
use Rattle.map_model.specs.Market.{Market, capacity_of, choices_of, demand_of, limit_of, path, pool_of}
use Rattle.map_model.specs.Allocation.{AreLines, IsFeasible, IsOffer, IsStable, amount_at, placed_through, is_wanted, load, placed, refuser_of}

-- A resumable state, of what is held, a pointer for each group, and free units for each group: no node is over its capacity and no offer over its limit; what is held and what is free make up the demand; a group holds nothing at a place after its pointer; and each place before it is refused, by its limit or by some node.
pub record IsResumable (m : Market) (lines : List MapLine) (pointers free : List ℕ) : Type 0 where
  pub form : AreLines m lines
  pub pointers_for : length pointers ≡ length m.groups
  pub free_for : length free ≡ length m.groups
  pub capacities : (n : ℕ) → n < length m.nodes → load m lines n ≤ capacity_of m n
  pub limits : (g k : ℕ) → IsOffer m g k → amount_at lines g k ≤ limit_of m g k
  pub totals : (g : ℕ) → g < length m.groups → placed lines g + slice_index free g ≡ demand_of m g
  pub in_list : (g : ℕ) → g < length m.groups → slice_index pointers g ≤ length (choices_of m g)
  pub none_past : (g k : ℕ) → IsOffer m g k → slice_index pointers g < k → amount_at lines g k ≡ 0
  pub refused : (g k : ℕ) → IsOffer m g k → k < slice_index pointers g → IsSome (refuser_of m lines g k)

-- an ended state: no group has free units and a pointer before the end of its list
abbrev pub IsEnded : Market → List ℕ → List ℕ → Type 0
IsEnded m pointers free = (g : ℕ) → g < length m.groups → slice_index pointers g < length (choices_of m g) → slice_index free g ≡ 0

-- group-best: no feasible and stable map has more of any group at its places 0 to k, for any k
abbrev pub IsGroupBest : Market → List MapLine → Type 0
IsGroupBest m lines = (other : List MapLine) → AreLines m other → IsFeasible m other → IsStable m other → (g k : ℕ) → IsOffer m g k → placed_through other g k ≤ placed_through lines g k

-- the root of a node's tree: the last node of its path; it stands for the tree
abbrev pub root_of : Market → ℕ → ℕ
root_of m n = slice_index (path m n) (length (path m n) - 1)

-- the tree of the pool at one place of a list
abbrev pub tree_of : Market → ℕ → ℕ → ℕ
tree_of m g k = root_of m (pool_of m g k)

-- the group has units in the tree
abbrev pub HoldsIn : Market → List MapLine → ℕ → ℕ → Type 0
HoldsIn m lines g root = (k : ℕ) × IsOffer m g k × (tree_of m g k ≡ root) × (0 < amount_at lines g k)

-- the group has a wanted place in the tree
abbrev pub WantsIn : Market → List MapLine → ℕ → ℕ → Type 0
WantsIn m lines g root = (k : ℕ) × IsOffer m g k × (tree_of m g k ≡ root) × IsTrue (is_wanted m lines g k)

-- A set of trees that holds each tree in which a capacity differs, each in which a group with a lowered demand has units, and with a tree in which a group has an old wanted place every tree in which that group has units. The lines are those of the old map.
pub record IsClosedUnderRepair (old : Market) (lines : List MapLine) (new : Market) (trees : ℕ → Bool) : Type 0 where
  pub capacity : (n : ℕ) → n < length old.nodes → capacity_of new n ≢ capacity_of old n → IsTrue (trees (root_of old n))
  pub lowered : (g root : ℕ) → g < length old.groups → demand_of new g < demand_of old g → HoldsIn old lines g root → IsTrue (trees root)
  pub wanting : (g from to : ℕ) → g < length old.groups → IsTrue (trees from) → WantsIn old lines g from → HoldsIn old lines g to → IsTrue (trees to)

-- a reached tree: one of the least such set
abbrev pub IsReached : Market → List MapLine → Market → ℕ → Type 0
IsReached old lines new root = (trees : ℕ → Bool) → IsClosedUnderRepair old lines new trees → IsTrue (trees root)

-- a set of trees that holds each reached tree, each tree of the list of each group with a raised demand, and with one tree of a group's list every tree of that list
pub record IsClosedUnderSpread (old : Market) (lines : List MapLine) (new : Market) (trees : ℕ → Bool) : Type 0 where
  pub reached : (root : ℕ) → IsReached old lines new root → IsTrue (trees root)
  pub raised : (g k : ℕ) → IsOffer old g k → demand_of old g < demand_of new g → IsTrue (trees (tree_of old g k))
  pub lists : (g k j : ℕ) → IsOffer old g k → IsOffer old g j → IsTrue (trees (tree_of old g k)) → IsTrue (trees (tree_of old g j))

-- a spread tree, to which changes can spread: one of the least such set
abbrev pub IsSpread : Market → List MapLine → Market → ℕ → Type 0
IsSpread old lines new root = (trees : ℕ → Bool) → IsClosedUnderSpread old lines new trees → IsTrue (trees root)
