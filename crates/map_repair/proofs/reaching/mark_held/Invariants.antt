use Rattle.std.proofs.Common.{◌≡◌, ◌<◌, ℕ, Bool, true}
use Rattle.map_model.specs.Allocation.{IsOffer, amount_at}
use Rattle.map_model.specs.Progress.{tree_of}
use Rattle.map_repair.specs.Marks.{IsMarking, IsWithin, is_on}
use Rattle.map_repair.proofs.reaching.mark_held.Given as goal

abbrev pub invariant-loop-place : goal.invariant-loop-place
invariant-loop-place l = record {
  marking : IsMarking l.fn.marks l.marks;
  held : (k : ℕ) → k < l.place → IsOffer l.old l.group.0 k → 0 < amount_at l.state.lines l.group.0 k → is_on l.marks.on (tree_of l.old l.group.0 k) ≡ true;
  within : (trees : ℕ → Bool) → ((k : ℕ) → IsOffer l.old l.group.0 k → 0 < amount_at l.state.lines l.group.0 k → trees (tree_of l.old l.group.0 k) ≡ true) → IsWithin l.fn.marks.on trees → IsWithin l.marks.on trees;
}
