-- What stays as it is outside a set of trees.
use Rattle.std.specs.Prelude.{◌≡◌, ℕ, ◌+◌, ◌<◌, ◌≤◌, Bool, true, IsTrue, IsFalse, if◌then◌else◌, List, length, slice_index, sum_by}
use Rattle.std.specs.List.{range_with_len}
use Rattle.map_model.specs.Market.{Market}
use Rattle.map_model.specs.Allocation.{IsOffer, amount_at, units_of}
use Rattle.map_model.specs.Progress.{tree_of}
use Rattle.evict.specs.Standing.{Standing}
use Rattle.deferred_accept.specs.Runs.{proposals_of}
use Rattle.deferred_accept.specs.Runs.{IsWaiting}

-- A set of trees is told by a test of their roots. A group is inside where the tree of its first place is one of the set.
abbrev pub is_inside : Market → (ℕ → Bool) → ℕ → Bool
is_inside m trees g = trees (tree_of m g 0)

-- no list has pools both in the set of trees and out of it, and only groups whose lists are in it are waiting
pub record HoldsWork (m : Market) (trees : ℕ → Bool) (state : Standing) : Type 0 where
  pub lists : (g k : ℕ) → IsOffer m g k → trees (tree_of m g k) ≡ is_inside m trees g
  pub waiting : (g : ℕ) → IsWaiting m state g → IsTrue (is_inside m trees g)

-- a group holds the same units at each place, and has the same pointer and the same free units
pub record IsSameFor (old new : Standing) (g : ℕ) : Type 0 where
  pub units : (k : ℕ) → amount_at new.lines g k ≡ amount_at old.lines g k
  pub pointer : slice_index new.pointers g ≡ slice_index old.pointers g
  pub free : slice_index new.free g ≡ slice_index old.free g

-- how many proposals there may still be of groups inside
abbrev pub proposals_inside : Market → (ℕ → Bool) → List ℕ → ℕ
proposals_inside m trees pointers = sum_by (λ g. if is_inside m trees g then proposals_of m pointers g else 0) (range_with_len 0 (length m.groups))

-- for a set of trees that holds the work: a group outside stays as it is, and the proposals are those of groups inside
pub record StaysInside (m : Market) (trees : ℕ → Bool) (old new : Standing) (before after : ℕ) : Type 0 where
  pub outside : (g : ℕ) → g < length m.groups → IsFalse (is_inside m trees g) → IsSameFor old new g
  pub units : (test : ℕ → ℕ → Bool) → ((g k : ℕ) → IsOffer m g k → test g k ≡ true → IsFalse (is_inside m trees g)) → units_of test new.lines ≡ units_of test old.lines
  pub steps : after ≤ before + proposals_inside m trees old.pointers
