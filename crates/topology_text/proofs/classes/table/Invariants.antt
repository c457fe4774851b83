use Rattle.topology_text.proofs.UnitTable.{AreTabled}
use Rattle.topology_text.proofs.classes.table.Given as goal

abbrev pub invariant-loop-i : goal.invariant-loop-i
invariant-loop-i l = AreTabled l.groups l.pairs l.i l.units.items
