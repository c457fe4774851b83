use Rattle.std.proofs.Common.{◌≡◌, ◌-◌, ◌<◌, Some, length, slice_index}
use Rattle.map_model.specs.Market.{climb}
use Rattle.map_model.specs.Progress.{root_of}
use Rattle.capacity_tree.specs.Loads.{trees_of}
use Rattle.capacity_tree.proofs.walks.root_from.Given as goal

abbrev pub invariant-loop-step : goal.invariant-loop-step
invariant-loop-step l = record {
  there : l.root.0 < length l.parents;
  so_far : slice_index (climb (8 - l._step) (trees_of l.parents) (Some l.root)) (length (climb (8 - l._step) (trees_of l.parents) (Some l.root)) - 1) ≡ root_of (trees_of l.parents) l.fn.node.0;
}
