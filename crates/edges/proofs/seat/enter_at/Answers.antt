use Rattle.std.proofs.Common.{refl}
use Rattle.edges.proofs.Turns.{there}
use Rattle.edges.proofs.seat.enter_at.Goals as goal

pub returns-then-i-rooms-clause-at : goal.returns-then-i-rooms-clause-at
returns-then-i-rooms-clause-at c lt lt' =
    let seat = there c.args.seats.now c.args.i lt in
    let room = there c.args.rooms.now c.args.i lt' in
    record { seat = seat.0; room = room.0; seat' = c.enter.new.seat; room' = c.enter.new.room; seat_was = seat.1; room_was = room.1; seat_is = refl; room_is = refl; changed = c.enter.ensures.entered }
