use Rattle.std.proofs.Common.{◌≡◌, ℕ, ◌<◌, length, slice_index}
use Rattle.evict.specs.Standing.{IsPastWanted}
use Rattle.evict.proofs.loading.wanted_counts.Given as goal

abbrev pub invariant-loop-g : goal.invariant-loop-g
invariant-loop-g l = record {
  count : length l.counts.items ≡ l.g;
  each : (k : ℕ) → k < l.g → IsPastWanted l.instance l.held.lines k (slice_index l.counts.items k);
}
