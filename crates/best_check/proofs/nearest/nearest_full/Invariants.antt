use Rattle.std.proofs.Common.{◌≡◌, length}
use Rattle.best_check.specs.Fullness.{AreFirstFull}
use Rattle.best_check.proofs.nearest.nearest_full.Given as goal

abbrev pub invariant-loop-n : goal.invariant-loop-n
invariant-loop-n l = record {
  size : length l.nearest.items ≡ l.n;
  first : AreFirstFull l.instance l.state.lines l.nearest.items;
}
