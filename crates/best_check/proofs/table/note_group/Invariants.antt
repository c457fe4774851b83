use Rattle.best_check.specs.Tables.{IsTable}
use Rattle.best_check.proofs.table.note_group.Given as goal

abbrev pub invariant-loop-place : goal.invariant-loop-place
invariant-loop-place l = IsTable l.instance l.state.lines l.group.0 l.place l.table
