use Rattle.std.proofs.Common.{◌≡◌, ◌≢◌, ◌<◌, ℕ, Bool, true}
use Rattle.map_model.specs.Market.{capacity_of}
use Rattle.map_model.specs.Progress.{IsClosedUnderRepair, root_of}
use Rattle.map_repair.specs.Marks.{IsMarking, IsWithin, is_on}
use Rattle.map_repair.proofs.reaching.mark_capacities.Given as goal

abbrev pub invariant-loop-n : goal.invariant-loop-n
invariant-loop-n l = record {
  marking : IsMarking l.fn.marks l.marks;
  all : (x : ℕ) → x < l.n → capacity_of l.new x ≢ capacity_of l.old x → is_on l.marks.on (root_of l.old x) ≡ true;
  within : (trees : ℕ → Bool) → IsClosedUnderRepair l.old l.state.lines l.new trees → IsWithin l.fn.marks.on trees → IsWithin l.marks.on trees;
}
