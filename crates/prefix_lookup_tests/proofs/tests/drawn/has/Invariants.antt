use Rattle.std.proofs.Common.{◌≡◌, take}
use Rattle.std.specs.Prelude.{All}
use Rattle.prefix_lookup_tests.proofs.tests.drawn.has.Given as goal

abbrev pub invariant-loop-entry : goal.invariant-loop-entry
invariant-loop-entry l = All (λ e. e.0 ≡ l.prefix → ⊥) (take l.entry-index l.table)
