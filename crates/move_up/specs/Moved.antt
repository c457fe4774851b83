-- What stays while units move up.
use Rattle.std.specs.Prelude.{◌≡◌, ℕ, ◌<◌, ◌≤◌, Bool, true, false, List, length, slice_index}
use Rattle.map_model.specs.Market.{Market}
use Rattle.map_model.specs.Allocation.{IsOffer, amount_at, units_of}
use Rattle.evict.specs.Standing.{IsOpen, Standing}
use Rattle.reopen.specs.Rolling.{is_marked}

-- Units were moved within marked trees alone: in the others all offers hold what they held. No pointer is higher than before, and none went back past the first place of its group's list whose tree is marked. At its old pointer and past it no group holds more: a move is no proposal, since that is made at the pointer. The new state is open, over the same lists and trees.
pub record IsMoved (m : Market) (marks : List Bool) (old new : Standing) : Type 0 where
  pub is_open : IsOpen m new
  pub market : new.market ≡ old.market
  pub units : (test : ℕ → ℕ → Bool) → ((g k : ℕ) → IsOffer m g k → test g k ≡ true → is_marked m marks g k ≡ false) → units_of test new.lines ≡ units_of test old.lines
  pub pointers : (g : ℕ) → g < length m.groups → slice_index new.pointers g ≤ slice_index old.pointers g
  pub back : (g k : ℕ) → g < length m.groups → k < slice_index old.pointers g → ((j : ℕ) → j ≤ k → is_marked m marks g j ≡ false) → k < slice_index new.pointers g
  pub no_more : (g k : ℕ) → IsOffer m g k → slice_index old.pointers g ≤ k → amount_at new.lines g k ≤ amount_at old.lines g k
