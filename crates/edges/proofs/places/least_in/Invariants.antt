use Rattle.std.proofs.Common.{take}
use Rattle.edges.specs.Places.{IsLeastSoFar}
use Rattle.edges.proofs.places.least_in.Given as goal

abbrev pub invariant-loop-i : goal.invariant-loop-i
invariant-loop-i l = IsLeastSoFar l.wanted (take l.i l.seats) l.found
