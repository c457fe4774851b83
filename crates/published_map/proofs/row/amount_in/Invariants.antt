use Rattle.std.proofs.Common.{◌≡◌, take, sum_by}
use Rattle.published_map.proofs.Sums.{at_place}
use Rattle.published_map.proofs.row.amount_in.Given as goal

abbrev pub invariant-loop-pair : goal.invariant-loop-pair
invariant-loop-pair l = l.units ≡ sum_by (at_place l.place) (take l.pair-index l.own)
