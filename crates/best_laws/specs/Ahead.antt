-- Group-best, as it stands in the middle of a run.
use Rattle.std.specs.Prelude.{ℕ, ◌+◌, ◌<◌, ◌≤◌, ◌==◌, if◌then◌else◌, List, slice_index}
use Rattle.map_model.specs.declared.lines.MapLine.{MapLine}
use Rattle.map_model.specs.Market.{Market}
use Rattle.map_model.specs.Allocation.{AreLines, IsFeasible, IsOffer, IsStable, amount_at}

-- a feasible and stable map of the instance
pub record IsRightMap (m : Market) (lines : List MapLine) : Type 0 where
  pub form : AreLines m lines
  pub feasible : IsFeasible m lines
  pub stable : IsStable m lines

-- another map has no more units than is held, at each place before its group's pointer
abbrev pub IsWithin : Market → List MapLine → List MapLine → List ℕ → Type 0
IsWithin m other lines pointers = (g k : ℕ) → IsOffer m g k → k < slice_index pointers g → amount_at other g k ≤ amount_at lines g k

-- ahead: no feasible and stable map has more units at a place before its group's pointer
abbrev pub IsAhead : Market → List MapLine → List ℕ → Type 0
IsAhead m lines pointers = (other : List MapLine) → IsRightMap m other → IsWithin m other lines pointers

-- offers gained units at pointers alone, and no more than their groups had free
abbrev pub GainsFree : Market → List MapLine → List MapLine → List ℕ → List ℕ → Type 0
GainsFree m old new pointers free = (g k : ℕ) → IsOffer m g k → amount_at new g k ≤ amount_at old g k + (if slice_index pointers g == k then slice_index free g else 0)
