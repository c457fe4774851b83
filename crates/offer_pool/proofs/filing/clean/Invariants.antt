use Rattle.std.proofs.Common.{◌<◌, Contains, length}
use Rattle.offer_pool.specs.declared.queue.Seat.{Seat}
use Rattle.offer_pool.specs.Table.{amount_in, place_at}
use Rattle.offer_pool.proofs.filing.clean.Given as goal

abbrev pub invariant-loop-seat : goal.invariant-loop-seat
invariant-loop-seat l = record {
  there : (s : Seat) → Contains l.queue s → place_at s.group.0 s.place < length l.amounts;
  kept : (s : Seat) → Contains l.initial.queue s → 0 < amount_in l.amounts s.group.0 s.place → Contains l.queue s;
  from : (s : Seat) → Contains l.queue s → Contains l.initial.queue s;
}

abbrev pub decreases-loop-seat : goal.decreases-loop-seat
decreases-loop-seat l = length l.queue
