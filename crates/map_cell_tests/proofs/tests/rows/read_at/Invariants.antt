use Rattle.std.proofs.Common.{◌≡◌}
use Rattle.map_cell_tests.proofs.tests.rows.read_at.Given as goal

-- as many notes were given as there are cells behind
abbrev pub invariant-loop : goal.invariant-loop
invariant-loop g l = (l.notes.row ≡ l.row) × (l.notes.given ≡ l.counter)
