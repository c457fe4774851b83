use Rattle.map_repair.specs.Marks.{AreMarkedTo}
use Rattle.map_repair.proofs.reaching.unmarked_from.Given as goal

abbrev pub invariant-loop-n : goal.invariant-loop-n
invariant-loop-n l = record {
  marked : AreMarkedTo l.old l.marks.on l.n;
}
