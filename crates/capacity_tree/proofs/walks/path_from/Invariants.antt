use Rattle.std.proofs.Common.{◌≡◌, ◌-◌, ◌<◌, ◌≤◌, ◌++◌, length, map}
use Rattle.std.specs.Option.{IfSome}
use Rattle.map_model.specs.Market.{climb, path}
use Rattle.capacity_tree.specs.Loads.{trees_of}
use Rattle.capacity_tree.proofs.walks.path_from.Given as goal

abbrev pub invariant-loop-step : goal.invariant-loop-step
invariant-loop-step l = record {
  there : IfSome l.at (λ n. n.0 < length l.parents);
  few : length l.path.items ≤ l._step;
  so_far : map (λ n. n.0) l.path.items ++ climb (8 - l._step) (trees_of l.parents) l.at ≡ path (trees_of l.parents) l.fn.node.0;
}
