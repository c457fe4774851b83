use Rattle.std.proofs.Common.{◌≡◌, length}
use Rattle.deferred_accept.specs.Bars.{AreBars}
use Rattle.deferred_accept.proofs.bars.bars_of.Given as goal

abbrev pub invariant-loop-n : goal.invariant-loop-n
invariant-loop-n l = record {
  size : length l.bars.items ≡ l.n;
  bars_at : AreBars l.instance l.state.lines l.bars.items;
}
