use Rattle.std.proofs.Common.{◌≡◌, ℕ, ◌<◌, length, slice_index}
use Rattle.map_model.specs.Market.{demand_of}
use Rattle.evict.proofs.state.demands.Given as goal

abbrev pub invariant-loop-g : goal.invariant-loop-g
invariant-loop-g l = record {
  count : length l.demands.items ≡ l.g;
  each : (k : ℕ) → k < l.g → slice_index l.demands.items k ≡ demand_of l.instance k;
}
