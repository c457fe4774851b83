-- What these sums say of other maps.
use Rattle.std.specs.Prelude.{ℕ, ◌+◌, ◌≤◌, List, length, sum_by}
use Rattle.std.specs.List.{range_with_len}
use Rattle.map_model.specs.declared.lines.MapLine.{MapLine}
use Rattle.map_model.specs.Market.{Market, IsMarket}
use Rattle.map_model.specs.Allocation.{AreLines, IsFeasible, IsStable, placed_through}
use Rattle.map_model.specs.Progress.{IsGroupBest}
use Rattle.place_counts.specs.Places.{units_at}

-- no feasible and stable map has more of all groups together at the places up to one than a group-best one
abbrev pub PlacesAreBest : Type 0
PlacesAreBest = (m : Market) → IsMarket m → (lines other : List MapLine) → IsGroupBest m lines → AreLines m other → IsFeasible m other → IsStable m other → (k : ℕ)
    → sum_by (λ g. placed_through other g k) (range_with_len 0 (length m.groups)) ≤ sum_by (λ j. units_at m lines j) (range_with_len 0 (k + 1))
