use Rattle.std.proofs.Common.{arith}
use Rattle.tcp_frames.proofs.Batches.{longer, no_more}
use Rattle.tcp_frames.proofs.batch.+behind_whole.Goals as goal

pub returns-then-most-eq1 : goal.returns-then-most-eq1
returns-then-most-eq1 t c =
    let f = c.in-Some.ensures.some in
    no_more _ _ _ _ (omega arith) f.0 f.1

pub returns-else-most-eq1 : goal.returns-else-most-eq1
returns-else-most-eq1 t c =
    let f = c.in-Some.ensures.some in
    longer _ _ _ _ _ (omega (arith, c.requires)) f.0 f.1 c.behind_whole.ensures
