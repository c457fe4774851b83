use Rattle.std.proofs.Common.{map}
use Rattle.topology_text.specs.Code.{visit}
use Rattle.topology_text.proofs.Totals.{IsWithin}
use Rattle.topology_text.proofs.prefixes.first_passing.Given as goal

abbrev pub invariant-loop-i : goal.invariant-loop-i
invariant-loop-i l = IsWithin (map visit l.tables) l.i l.total
