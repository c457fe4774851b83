use Rattle.topology_text.proofs.Twice.{AreNoted}
use Rattle.topology_text.proofs.prefixes.first_duplicate.Given as goal

abbrev pub invariant-loop-i : goal.invariant-loop-i
invariant-loop-i l = AreNoted l.prefixes l.i l.seen.keys
