use Rattle.std.proofs.Common.{ℕ, ◌<◌, ◌≤◌}
use Rattle.addr_text.specs.Written.{run_at}
use Rattle.addr_text.proofs.runs.longest.Given as goal

abbrev pub invariant-loop-i : goal.invariant-loop-i
invariant-loop-i l =
    (l.best < l.i) × ((j : ℕ) → j < l.best → run_at l.groups j < run_at l.groups l.best) × ((j : ℕ) → j < l.i → run_at l.groups j ≤ run_at l.groups l.best)
