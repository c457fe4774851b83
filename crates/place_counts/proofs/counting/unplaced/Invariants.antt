use Rattle.std.proofs.Common.{◌≡◌, ◌*◌, ◌-◌, ◌≤◌, ◌^◌}
use Rattle.std.specs.Prelude.{sum_by}
use Rattle.std.specs.List.{range_with_len}
use Rattle.map_model.specs.Market.{demand_of}
use Rattle.map_model.specs.Allocation.{placed}
use Rattle.place_counts.proofs.counting.unplaced.Given as goal

abbrev pub invariant-loop-g : goal.invariant-loop-g
invariant-loop-g l = record {
  so_far : l.sum ≡ sum_by (λ g. demand_of l.instance g - placed l.state.lines g) (range_with_len 0 l.g);
  small : l.sum ≤ l.g * 2 ^ 32;
}
