use Rattle.edges.specs.Halls.{AreEmpty}
use Rattle.edges.proofs.hall.free_rooms.Given as goal

abbrev pub invariant-loop : goal.invariant-loop
invariant-loop l = AreEmpty l.counter l.rooms.items
