use Rattle.edges.specs.Places.{IsEndedByCalls, IsSameSeat, WasRead}
use Rattle.edges.specs.Rooms.{IsFilled}
use Rattle.edges.proofs.seat.fill.Given as goal

abbrev pub invariant-loop : goal.invariant-loop
invariant-loop l = IsFilled l.fn.room.coming.items l.room.coming.items l.fn.room.going.items l.room.going.items × IsSameSeat l.fn.seat l.seat × IsEndedByCalls l.fn.seat l.seat × WasRead l.seat
