use Rattle.std.proofs.Common.{◌≡◌, take}
use Rattle.prefix_lookup.specs.Steps.{best_of}
use Rattle.prefix_lookup_tests.proofs.tests.plain.longest.Given as goal

abbrev pub invariant-loop-entry : goal.invariant-loop-entry
invariant-loop-entry l = l.best ≡ best_of (take l.entry-index l.table) l.addr
