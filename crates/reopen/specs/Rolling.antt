-- Sending groups back to the first place in a marked tree.
use Rattle.std.specs.Prelude.{◌≡◌, ℕ, ◌<◌, ◌≤◌, Bool, true, false, not, ◌&&◌, ◌==◌, nat_lt, nat_le, List, length, IsSome, slice_index, slice_index_or, slice_set}
use Rattle.map_model.specs.Market.{Market}
use Rattle.map_model.specs.Allocation.{IsOffer, amount_at, refuser_of, units_of}
use Rattle.map_model.specs.Progress.{tree_of}
use Rattle.evict.specs.Standing.{IsOpen, IsReady, Standing}
use Rattle.reopen.specs.Cutting.{CanCut, KeepsSums}

-- the tree of the pool at one place of a list is marked: the marks stand at the roots
abbrev pub is_marked : Market → List Bool → ℕ → ℕ → Bool
is_marked m marks g k = slice_index_or marks (tree_of m g k) false

-- An open state in which only places of marked trees before a pointer need not be refused. A group with such a place holds units in marked trees alone.
pub record CanRollBack (m : Market) (marks : List Bool) (state : Standing) : Type 0 where
  pub is_open : IsOpen m state
  pub marks_for : length marks ≡ length m.nodes
  pub refused : (g k : ℕ) → IsOffer m g k → k < slice_index state.pointers g → is_marked m marks g k ≡ false → IsSome (refuser_of m state.lines g k)
  pub closed : (g k j : ℕ) → IsOffer m g k → k < slice_index state.pointers g → is_marked m marks g k ≡ true → IsOffer m g j → 0 < amount_at state.lines g j → is_marked m marks g j ≡ true

-- the first place before a group's old pointer whose tree is marked, or that pointer
pub record IsBackAt (m : Market) (marks : List Bool) (g old place : ℕ) : Type 0 where
  pub within : place ≤ old
  pub before : (k : ℕ) → k < place → is_marked m marks g k ≡ false
  pub at : place < old → is_marked m marks g place ≡ true

-- Each group with a place before its pointer in a marked tree is back at the first such place and holds nothing past it; all other pointers, and all units up to the new pointers, stay. The state is resumable.
pub record IsRolledBack (m : Market) (marks : List Bool) (old new : Standing) : Type 0 where
  pub ready : IsReady m new
  pub market : new.market ≡ old.market
  pub pointers : (g : ℕ) → g < length m.groups → IsBackAt m marks g (slice_index old.pointers g) (slice_index new.pointers g)
  pub units : (test : ℕ → ℕ → Bool) → units_of test new.lines ≡ units_of (λ g k. test g k && nat_le k (slice_index new.pointers g)) old.lines

-- what a group held past a place is free, and nothing else changed
pub record IsReleasedPast (m : Market) (g place : ℕ) (old new : Standing) : Type 0 where
  pub can : CanCut m new
  pub market : new.market ≡ old.market
  pub count : length new.free ≡ length old.free
  pub pointers : new.pointers ≡ old.pointers
  pub units : (test : ℕ → ℕ → Bool) → units_of test new.lines ≡ units_of (λ h k. test h k && not ((h == g) && nat_lt place k)) old.lines
  pub sums : KeepsSums old new

-- one group is sent back, and what it held past its new pointer is free
pub record IsGroupBack (m : Market) (marks : List Bool) (g : ℕ) (old new : Standing) : Type 0 where
  pub can : CanCut m new
  pub market : new.market ≡ old.market
  pub count : length new.free ≡ length old.free
  pub place : ℕ
  pub at : IsBackAt m marks g (slice_index old.pointers g) place
  pub pointers : new.pointers ≡ slice_set old.pointers g place
  pub units : (test : ℕ → ℕ → Bool) → units_of test new.lines ≡ units_of (λ h k. test h k && not ((h == g) && nat_lt place k)) old.lines
  pub sums : KeepsSums old new
