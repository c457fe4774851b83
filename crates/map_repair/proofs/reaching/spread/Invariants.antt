use Rattle.std.proofs.Common.{◌≡◌, ◌⊎◌, ℕ, ◌≤◌, Bool, true, length}
use Rattle.map_repair.specs.Marks.{AreDone, AreMarkedTo, IsClosedForAll, IsPending, IsSettled, IsWithin, is_on, left_of}
use Rattle.map_repair.proofs.reaching.spread.Given as goal

abbrev pub invariant-loop-root : goal.invariant-loop-root
invariant-loop-root l = record {
  size : length l.marks.on ≡ length l.fn.marks.on;
  groups : length l.done ≡ length l.fn.done;
  kept : (n : ℕ) → is_on l.fn.marks.on n ≡ true → is_on l.marks.on n ≡ true;
  ahead : l.ahead ≤ length l.old.nodes;
  marked : AreMarkedTo l.old l.marks.on l.ahead;
  done : AreDone l.old l.state.lines l.marks.on l.done;
  looked : (n : ℕ) → is_on l.marks.on n ≡ true → IsPending l.marks n ⊎ IsSettled l.old l.state l.marks.on n;
  within : (trees : ℕ → Bool) → IsClosedForAll l.old l.state trees → IsWithin l.fn.marks.on trees → IsWithin l.marks.on trees;
}

abbrev pub decreases-loop-root : goal.decreases-loop-root
decreases-loop-root l = left_of l.marks
