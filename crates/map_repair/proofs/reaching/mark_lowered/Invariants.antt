use Rattle.std.proofs.Common.{◌≡◌, ◌<◌, ℕ, Bool, true}
use Rattle.map_model.specs.Market.{demand_of}
use Rattle.map_model.specs.Progress.{HoldsIn, IsClosedUnderRepair}
use Rattle.map_repair.specs.Marks.{IsMarking, IsWithin, is_on}
use Rattle.map_repair.proofs.reaching.mark_lowered.Given as goal

abbrev pub invariant-loop-g : goal.invariant-loop-g
invariant-loop-g l = record {
  marking : IsMarking l.fn.marks l.marks;
  all : (h root : ℕ) → h < l.g → demand_of l.new h < demand_of l.old h → HoldsIn l.old l.state.lines h root → is_on l.marks.on root ≡ true;
  within : (trees : ℕ → Bool) → IsClosedUnderRepair l.old l.state.lines l.new trees → IsWithin l.fn.marks.on trees → IsWithin l.marks.on trees;
}
