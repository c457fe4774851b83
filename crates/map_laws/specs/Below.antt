-- The best of the maps that move no group up past what a state leaves it.
use Rattle.std.specs.Prelude.{ℕ, ◌≤◌, List}
use Rattle.map_model.specs.declared.lines.MapLine.{MapLine}
use Rattle.map_model.specs.Market.{Market}
use Rattle.map_model.specs.Allocation.{IsOffer, placed_through}
use Rattle.best_laws.specs.Ahead.{IsRightMap, IsWithin}

-- The best of all feasible and stable maps that have no more units than is held, at each place before its group's pointer: none of them has more of any group at its places 0 to k, for any k.
pub record IsBestBelow (m : Market) (held : List MapLine) (pointers : List ℕ) (lines : List MapLine) : Type 0 where
  pub right : IsRightMap m lines
  pub below : IsWithin m lines held pointers
  pub best : (other : List MapLine) → IsRightMap m other → IsWithin m other held pointers → (g k : ℕ) → IsOffer m g k → placed_through other g k ≤ placed_through lines g k
