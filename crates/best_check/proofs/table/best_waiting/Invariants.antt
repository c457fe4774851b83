use Rattle.best_check.specs.Tables.{IsTable}
use Rattle.best_check.proofs.table.best_waiting.Given as goal

abbrev pub invariant-loop-g : goal.invariant-loop-g
invariant-loop-g l = IsTable l.instance l.state.lines l.g 0 l.table.items
