use Rattle.std.proofs.Common.{rules, arith, sum_by}
use Rattle.std.proofs.lemmas.List.FromFn.{map-range_with_len_more}
use Rattle.published_map.proofs.Sums.{at_place}
use Rattle.published_map.proofs.row.amounts.Goals as goal

pub loop-place-preserved : goal.loop-place-preserved
loop-place-preserved c = record {
  items = rw (c.push.ensures.items, map-range_with_len_more (λ k. sum_by (at_place k) c.args.own.now) 0 c.loop-place.place c.loop-place.place (omega arith), c.loop-place.invariant.items, c.amount_in.ensures) search rules;
  count = grind (arith, c.push.ensures, c.loop-place.invariant.count);
}
