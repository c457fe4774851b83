use Rattle.edges.proofs.Going.{room_made, taken_in}
use Rattle.edges.proofs.ears.Ears.take_next.Goals as goal

pub returns-in-Ok-clause-changed : goal.returns-in-Ok-clause-changed
returns-in-Ok-clause-changed c =
    taken_in c.in-Ok.peer.addr c.args.most_of_one c.args.now c.take_in.result c.args.turns.now c.take_in.new.turns c.args.seats.now c.take_in.new.seats c.args.rooms.now c.take_in.new.rooms c.take_in.ensures.taken

pub returns-in-Err-clause-changed : goal.returns-in-Err-clause-changed
returns-in-Err-clause-changed c =
    let made = c.try_room-has_room in
    room_made c.args.now c.args.turns.now c.args.turns.now made.result c.args.seats.now made.new.seats c.args.rooms.now made.new.rooms made.ensures.left made.ensures.none
