use Rattle.edges.specs.Places.{IsEndedByCalls, IsSameSeat}
use Rattle.edges.specs.Rooms.{IsFlushed}
use Rattle.edges.proofs.seat.flush.Given as goal

abbrev pub invariant-loop : goal.invariant-loop
invariant-loop l = IsFlushed l.fn.room.coming.items l.room.coming.items l.fn.room.going.items l.room.going.items × IsSameSeat l.fn.seat l.seat × IsEndedByCalls l.fn.seat l.seat
