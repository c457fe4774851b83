use Rattle.prefix_lookup.specs.Table.{IsTable}
use Rattle.prefix_lookup_tests.proofs.tests.drawn.drawn_of.Given as goal

abbrev pub invariant-loop : goal.invariant-loop
invariant-loop l = IsTable l.table.items
