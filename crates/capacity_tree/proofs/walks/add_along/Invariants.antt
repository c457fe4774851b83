use Rattle.std.proofs.Common.{◌≡◌, ℕ, ◌+◌, ◌-◌, ◌<◌, length, slice_index, true, if◌then◌else◌}
use Rattle.std.specs.Option.{IfSome}
use Rattle.map_model.specs.Allocation.{is_under}
use Rattle.map_model.proofs.Paths.{touched}
use Rattle.capacity_tree.specs.Loads.{trees_of}
use Rattle.capacity_tree.proofs.walks.add_along.Given as goal

abbrev pub invariant-loop-step : goal.invariant-loop-step
invariant-loop-step l = record {
  there : IfSome l.at (λ n. n.0 < length (trees_of l.parents).nodes);
  on : IfSome l.at (λ n. is_under (trees_of l.parents) n.0 l.fn.pool.0 ≡ true);
  done : (n : ℕ) → n < length l.loads → touched (λ x. x + l.units) (trees_of l.parents) (8 - l._step) l.at n (slice_index l.loads n)
      ≡ (if is_under (trees_of l.parents) n l.fn.pool.0 then slice_index l.fn.loads n + l.units else slice_index l.fn.loads n);
}
