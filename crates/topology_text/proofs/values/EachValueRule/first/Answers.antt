use Rattle.std.proofs.Common.{ap, sym}
use Rattle.toml.specs.View.{table_view}
use Rattle.topology_text.specs.Walk.{first, value_at}
use Rattle.topology_text.proofs.Looked.{unread}
use Rattle.topology_text.proofs.values.EachValueRule.first.Goals as goal

pub returns-else-reads : goal.returns-else-reads
returns-else-reads g c =
    let value = value_at (table_view c.args.table.now.table.now) c.args.key in
    sym (ap first (unread (g.T.Test.fails c.args.self.now.0 c.args.key) (λ d. c.reads.ensures d c.if-reads.false) value))
