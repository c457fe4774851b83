use Rattle.std.proofs.Common.{List}
use Rattle.map_model.specs.declared.lines.MapLine.{MapLine}
use Rattle.map_model.specs.Allocation.{load}
use Rattle.reopen.specs.Cutting.{AreTurnedFrom, IsLess, KeepsSums}
use Rattle.reopen.proofs.cutting.cut_node.Given as goal

abbrev pub invariant-loop-node : goal.invariant-loop-node
invariant-loop-node l = record {
  less : IsLess l.instance l.fn.state l.state;
  sums : KeepsSums l.fn.state l.state;
  turned : (all : List MapLine) → AreTurnedFrom l.instance l.node.0 all l.fn.state.lines → AreTurnedFrom l.instance l.node.0 all l.state.lines;
}

abbrev pub decreases-loop-node : goal.decreases-loop-node
decreases-loop-node l = load l.instance l.state.lines l.node.0
