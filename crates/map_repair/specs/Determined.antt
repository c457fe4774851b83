-- What a repaired map is, without the steps that lead to it.
use Rattle.std.specs.Prelude.{◌≡◌, ℕ, Bool, true, false, List, slice_index_or}
use Rattle.map_model.specs.declared.lines.MapLine.{MapLine}
use Rattle.map_model.specs.Market.{Market}
use Rattle.map_model.specs.Progress.{IsReached}
use Rattle.evict.specs.Standing.{Standing}
use Rattle.reopen.specs.Cutting.{IsCut}
use Rattle.reopen.specs.Rolling.{IsRolledBack}
use Rattle.map_laws.specs.Below.{IsBestBelow}
use Rattle.map_repair.specs.Repaired.{IsStateOf}

-- What both ways to a repaired map begin with: a state that holds the lines of the good map was cut for the new numbers, and the reached trees are marked.
pub record IsCutFor (old : Market) (lines : List MapLine) (new : Market) : Type 0 where
  pub from : Standing
  pub of_map : IsStateOf old from
  pub holds : from.lines ≡ lines
  pub marks : List Bool
  pub reached : (root : ℕ) → slice_index_or marks root false ≡ true → IsReached old lines new root
  pub all_reached : (root : ℕ) → IsReached old lines new root → slice_index_or marks root false ≡ true
  pub cut : Standing
  pub is_cut : IsCut new from cut

-- The repaired map of a good map for new numbers: its state is cut for them, each group goes back to the first place before its pointer in a reached tree, and of all feasible and stable maps that move no group up past what it then has, these lines are the best for every group.
pub record IsRepairedOf (old : Market) (lines : List MapLine) (new : Market) (repaired : List MapLine) : Type 0 where
  pub begun : IsCutFor old lines new
  pub back : Standing
  pub rolled_back : IsRolledBack new begun.marks begun.cut back
  pub best : IsBestBelow new back.lines back.pointers repaired
