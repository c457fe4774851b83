-- Inside this crate alone: what a try by moves gives, what a run gives, and all that is promised of a resumed state.
use Rattle.std.specs.Prelude.{ℕ, Bool, List}
use Rattle.map_model.specs.declared.lines.MapLine.{MapLine}
use Rattle.map_model.specs.Market.{Market}
use Rattle.map_model.specs.Progress.{IsEnded}
use Rattle.evict.specs.Standing.{Standing}
use Rattle.deferred_accept.specs.Runs.{HasProposed, HasRun, WantsBefore}
use Rattle.deferred_accept.specs.Spreading.{HoldsWork, StaysInside}
use Rattle.reopen.specs.Cutting.{IsCut}
use Rattle.move_up.specs.Moved.{IsMoved}
use Rattle.map_repair.specs.Determined.{IsRepairedOf}
use Rattle.map_repair.specs.Repaired.{IsKept, IsLocal, IsStateOf, IsWithinSpread}
use Rattle.map_repair.specs.Resumed.{HasResumed, HasThrown}

-- a state was cut for the new numbers, and units were moved within marked trees alone
pub record IsCutAndMoved (m : Market) (marks : List Bool) (from to : Standing) : Type 0 where
  pub cut : Standing
  pub is_cut : IsCut m from cut
  pub is_moved : IsMoved m marks cut to

-- a run from one state to an ended one, as a counter rose
pub record HasRunOut (m : Market) (from to : Standing) (before after : ℕ) : Type 0 where
  pub run : HasRun m from to
  pub ended : IsEnded m to.pointers to.free
  pub wanted : WantsBefore m from → WantsBefore m to
  pub proposed : HasProposed m from to before after
  pub inside : (trees : ℕ → Bool) → HoldsWork m trees from → StaysInside m trees from to before after

-- the proposals of a try that was thrown away, if there was one, and that they are within the bound
pub record IsThrown (old : Market) (lines : List MapLine) (new : Market) (before after : ℕ) : Type 0 where
  pub thrown : HasThrown old lines new before after
  pub steps : IsWithinSpread old lines new before after

-- all that is promised of a state that was resumed from one that holds these lines, with nothing thrown away
pub record IsResumed (old : Market) (lines : List MapLine) (new : Market) (to : Standing) (before after : ℕ) : Type 0 where
  pub of_map : IsStateOf new to
  pub ended : IsEnded new to.pointers to.free
  pub kept : IsKept old lines new to.lines
  pub local : IsLocal old lines new to.lines
  pub determined : IsRepairedOf old lines new to.lines
  pub counted : HasResumed old lines new to before before after
  pub steps : IsWithinSpread old lines new before after
