use Rattle.std.proofs.Common.{◌≡◌, take}
use Rattle.offer_pool.specs.Table.{lines_in}
use Rattle.offer_pool.proofs.table.lines_of.Given as goal

abbrev pub invariant-loop-i : goal.invariant-loop-i
invariant-loop-i l = l.lines.items ≡ lines_in (take l.i l.amounts)
