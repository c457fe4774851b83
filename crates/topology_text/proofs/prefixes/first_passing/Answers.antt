use Rattle.std.proofs.Common.{arith}
use Rattle.topology_text.proofs.Totals.{within_here_view, within_on_view}
use Rattle.topology_text.proofs.prefixes.first_passing.Goals as goal

pub loop-i-preserved : goal.loop-i-preserved
loop-i-preserved c =
    let w = c.loop-i.invariant.within in
    within_on_view c.args.tables.now c.loop-i.i c.loop-i.total c.count_at-count.result c.index-tables-i.result c.loop-i.invariant c.loop-i-test.true c.index-tables-i.is c.count_at-count.ensures (omega arith)

pub returns-then-count-total : goal.returns-then-count-total
returns-then-count-total c =
    let w = c.loop-i.invariant.within in
    within_here_view c.args.tables.now c.loop-i.i c.loop-i.total c.count_at-count.result c.index-tables-i.result c.loop-i.invariant c.loop-i-test.true c.index-tables-i.is c.count_at-count.ensures (omega arith)
