-- Inside this crate alone: trees that are marked at their roots, and which of them are still to be looked at.
use Rattle.std.specs.Prelude.{◌≡◌, ◌⊎◌, ℕ, ◌+◌, ◌*◌, ◌<◌, ◌≤◌, Bool, true, false, if◌then◌else◌, List, length, Contains, slice_index, slice_index_or, sum_by}
use Rattle.map_model.specs.declared.instance.NodeId.{NodeId}
use Rattle.map_model.specs.declared.lines.MapLine.{MapLine}
use Rattle.map_model.specs.Market.{Market}
use Rattle.map_model.specs.Allocation.{IsOffer, amount_at}
use Rattle.map_model.specs.Progress.{IsClosedUnderRepair, IsReached, root_of, tree_of}
use Rattle.evict.specs.Standing.{Standing}

-- whether a node is marked
abbrev pub is_on : List Bool → ℕ → Bool
is_on marks n = slice_index_or marks n false

-- how many nodes are not marked
abbrev pub unmarked : List Bool → ℕ
unmarked marks = sum_by (λ b. if b then 0 else 1) marks

-- a mark for each node, and the marked roots that are still to be looked at
pub record Marking : Type 0 where
  pub on : List Bool
  pub pending : List NodeId

-- a node is still to be looked at
abbrev pub IsPending : Marking → ℕ → Type 0
IsPending marking n = Contains marking.pending (record { 0 = n })

-- what is left to be done at most: each node that is not marked may still be marked and looked at
abbrev pub left_of : Marking → ℕ
left_of marking = unmarked marking.on * 2 + length marking.pending

-- marks may have come, each of them still to be looked at
pub record IsMarking (from to : Marking) : Type 0 where
  pub count : length to.on ≡ length from.on
  pub kept : (n : ℕ) → is_on from.on n ≡ true → is_on to.on n ≡ true
  pub came : (n : ℕ) → is_on to.on n ≡ true → (is_on from.on n ≡ true) ⊎ IsPending to n
  pub waits : (n : ℕ) → IsPending from n → IsPending to n
  pub fewer : left_of to ≤ left_of from

-- only nodes of a set are marked
abbrev pub IsWithin : List Bool → (ℕ → Bool) → Type 0
IsWithin marks trees = (n : ℕ) → is_on marks n ≡ true → trees n ≡ true

-- each tree in which a group holds units is marked
abbrev pub HoldsInMarked : Market → List MapLine → List Bool → ℕ → Type 0
HoldsInMarked m lines on g = (k : ℕ) → IsOffer m g k → 0 < amount_at lines g k → is_on on (tree_of m g k) ≡ true

-- the tree of each node before one is marked
abbrev pub AreMarkedTo : Market → List Bool → ℕ → Type 0
AreMarkedTo m on end = (n : ℕ) → n < end → is_on on (root_of m n) ≡ true

-- groups that are done hold units in marked trees alone
abbrev pub AreDone : Market → List MapLine → List Bool → List Bool → Type 0
AreDone m lines on done = (g : ℕ) → is_on done g ≡ true → HoldsInMarked m lines on g

-- so does each group with a place before its pointer in the tree
abbrev pub IsSettled : Market → Standing → List Bool → ℕ → Type 0
IsSettled m state on root = (g k : ℕ) → IsOffer m g k → tree_of m g k ≡ root → k < slice_index state.pointers g → HoldsInMarked m state.lines on g

-- a set of trees that holds each tree in which a group has units, where it holds one in which the group has a place before its pointer
abbrev pub IsClosedFor : Market → Standing → ℕ → (ℕ → Bool) → Type 0
IsClosedFor m state g trees = (k j : ℕ) → IsOffer m g k → k < slice_index state.pointers g → trees (tree_of m g k) ≡ true → IsOffer m g j → 0 < amount_at state.lines g j → trees (tree_of m g j) ≡ true

-- and so for each group
abbrev pub IsClosedForAll : Market → Standing → (ℕ → Bool) → Type 0
IsClosedForAll m state trees = (g : ℕ) → g < length m.groups → IsClosedFor m state g trees

-- the marks stand at exactly the reached trees
pub record AreReached (old : Market) (lines : List MapLine) (new : Market) (marks : List Bool) : Type 0 where
  pub size : length marks ≡ length old.nodes
  pub closed : IsClosedUnderRepair old lines new (λ n. is_on marks n)
  pub least : (n : ℕ) → is_on marks n ≡ true → IsReached old lines new n
