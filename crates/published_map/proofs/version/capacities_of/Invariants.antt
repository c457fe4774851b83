use Rattle.std.proofs.Common.{◌≡◌, ◌≤◌, length, map}
use Rattle.std.specs.Vec.{vec_len, vec_capacity}
use Rattle.std.specs.List.{range_with_len}
use Rattle.map_model.specs.Market.{capacity_of}
use Rattle.published_map.proofs.version.capacities_of.Given as goal

abbrev pub invariant-loop-number : goal.invariant-loop-number
invariant-loop-number l = record {
  capacities : l.capacities.items ≡ map (capacity_of l.instance) (range_with_len 0 l.number);
  size : vec_len l.capacities ≡ l.number;
  room : length l.instance.nodes ≤ vec_capacity l.capacities;
}
