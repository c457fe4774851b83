use Rattle.std.proofs.Common.{◌+◌, ◌-◌, ◌<◌, ◌≤◌, ℕ, length}
use Rattle.map_model.specs.Market.{capacity_of}
use Rattle.map_model.specs.Allocation.{load}
use Rattle.reopen.specs.Cutting.{AreTurnedFrom, IsLess, KeepsSums}
use Rattle.reopen.proofs.cutting.cut.Given as goal

abbrev pub invariant-loop-step : goal.invariant-loop-step
invariant-loop-step l = record {
  less : IsLess l.instance l.fn.state l.state;
  sums : KeepsSums l.fn.state l.state;
  fits : (n : ℕ) → n < length l.instance.nodes → length l.instance.nodes ≤ n + l.step → load l.instance l.state.lines n ≤ capacity_of l.instance n;
  turned : AreTurnedFrom l.instance (length l.instance.nodes - l.step) l.fn.state.lines l.state.lines;
}
