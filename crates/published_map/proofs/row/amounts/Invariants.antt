use Rattle.std.proofs.Common.{◌≡◌, length}
use Rattle.std.specs.Prelude.{map, sum_by}
use Rattle.std.specs.List.{range_with_len}
use Rattle.published_map.proofs.Sums.{at_place}
use Rattle.published_map.proofs.row.amounts.Given as goal

abbrev pub invariant-loop-place : goal.invariant-loop-place
invariant-loop-place l = record {
  items : l.amounts.items ≡ map (λ k. sum_by (at_place k) l.own) (range_with_len 0 l.place);
  count : length l.amounts.items ≡ l.place;
}
