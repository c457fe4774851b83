use Rattle.std.proofs.Common.{◌≡◌, ◌≤◌}
use Rattle.std.specs.Prelude.{◌==◌, count_by}
use Rattle.std.specs.List.{range_with_len}
use Rattle.map_model.specs.Market.{capacity_of}
use Rattle.map_model.specs.Allocation.{load}
use Rattle.mapper.proofs.adding.full_count.Given as goal

abbrev pub invariant-loop-n : goal.invariant-loop-n
invariant-loop-n l = record {
  so_far : l.count ≡ count_by (λ n. load l.instance l.state.lines n == capacity_of l.instance n) (range_with_len 0 l.n);
  small : l.count ≤ l.n;
}
