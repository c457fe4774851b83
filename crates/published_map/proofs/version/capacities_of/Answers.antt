use Rattle.std.proofs.Common.{arith, refl}
use Rattle.std.proofs.lemmas.List.FromFn.{map-range_with_len_more}
use Rattle.map_model.specs.Market.{capacity_of}
use Rattle.published_map.proofs.version.capacities_of.Goals as goal

pub loop-number-preserved : goal.loop-number-preserved
loop-number-preserved c = record {
  capacities = rw (c.push_reserved.ensures.items, map-range_with_len_more (capacity_of c.args.instance.now) 0 c.loop-number.number c.loop-number.number (omega arith), c.loop-number.invariant.capacities, c.capacity.ensures) refl;
  size = omega (arith, c.push_reserved.ensures.len, c.loop-number.invariant.size);
  room = omega (arith, c.push_reserved.ensures.capacity, c.loop-number.invariant.room);
}
