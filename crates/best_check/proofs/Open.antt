-- Places before pointers that are wanted and refused make an open state resumable.
use Rattle.std.proofs.Common.{◌==◌, ◌&&◌, ℕ, ◌+◌, ◌<◌, ◌≤◌, nat_lt, nat_le, List, length, slice_index, arith}
use Rattle.std.proofs.lemmas.Bool.{lt-ltb}
use Rattle.std.proofs.lemmas.Bool.Decides.{nat_tests}
use Rattle.map_model.specs.declared.lines.MapLine.{MapLine}
use Rattle.map_model.specs.Market.{Market, demand_of}
use Rattle.map_model.specs.Allocation.{amount_at, placed, placed_through}
use Rattle.map_model.proofs.Units.{placed_through-split, through-le-placed, units_of-le}
use Rattle.evict.specs.Standing.{IsOpen, Standing}
use Rattle.best_check.specs.Open.{AreWanted}

-- what a group has up to one place and at a later one is among all that it has
through_and_later : (lines : List MapLine) (g k p : ℕ) → k < p → placed_through lines g k + amount_at lines g p ≤ placed lines g
through_and_later lines g k p later =
    omega (
      arith,
      placed_through-split lines g p,
      units_of-le (λ h j. (h == g) && nat_le j k) (λ h j. (h == g) && nat_lt j p) (λ h j t. grind (arith, nat_tests, t, later)) lines,
      through-le-placed lines g p,
    )

-- a group that has units free wants more at each place
pub wanted_by_free : (m : Market) (state : Standing) → IsOpen m state → (g : ℕ) → g < length m.groups → 0 < slice_index state.free g → AreWanted m state g
wanted_by_free m state o g there some = λ k l. lt-ltb (placed_through state.lines g k) (demand_of m g) (omega (arith, through-le-placed state.lines g k, o.totals g there, some))

-- and one that has units at its pointer wants more before it
pub wanted_by_pointer : (m : Market) (state : Standing) → IsOpen m state → (g : ℕ) → g < length m.groups → 0 < amount_at state.lines g (slice_index state.pointers g) → AreWanted m state g
wanted_by_pointer m state o g there some = λ k l. lt-ltb (placed_through state.lines g k) (demand_of m g) (omega (arith, through_and_later state.lines g k (slice_index state.pointers g) l, o.totals g there, some))
