use Rattle.std.proofs.Common.{◌≡◌, length}
use Rattle.best_check.specs.Open.{AreBars}
use Rattle.best_check.proofs.bars.bars_of.Given as goal

abbrev pub invariant-loop-n : goal.invariant-loop-n
invariant-loop-n l = record {
  size : length l.bars.items ≡ l.n;
  bars_at : AreBars l.instance l.state.lines l.bars.items;
}
