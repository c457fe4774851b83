use Rattle.std.specs.List.{AllZip}
use Rattle.edges.specs.Places.{MayBeWoken}
use Rattle.edges.proofs.ears.note_all.Given as goal

abbrev pub invariant-loop-event : goal.invariant-loop-event
invariant-loop-event l = AllZip MayBeWoken l.fn.seats l.seats
