use Rattle.std.proofs.Common.{◌≡◌, ◌*◌, ◌≤◌, ◌^◌}
use Rattle.std.specs.Prelude.{sum_by}
use Rattle.std.specs.List.{range_with_len}
use Rattle.map_model.specs.Allocation.{amount_at}
use Rattle.place_counts.proofs.counting.units_at.Given as goal

abbrev pub invariant-loop-g : goal.invariant-loop-g
invariant-loop-g l = record {
  so_far : l.sum ≡ sum_by (λ g. amount_at l.state.lines g l.place) (range_with_len 0 l.g);
  small : l.sum ≤ l.g * 2 ^ 32;
}
