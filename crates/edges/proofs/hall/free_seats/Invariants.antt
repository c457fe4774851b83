use Rattle.edges.specs.Halls.{AreFree}
use Rattle.edges.proofs.hall.free_seats.Given as goal

abbrev pub invariant-loop : goal.invariant-loop
invariant-loop l = AreFree l.counter l.seats.items
