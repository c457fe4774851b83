use Rattle.std.proofs.Common.{arith}
use Rattle.best_check.proofs.Tables.{group_done}
use Rattle.best_check.proofs.table.note_group.Goals as goal

pub returns : goal.returns
returns c = group_done c.args.instance.now c.args.state.now.lines c.args.group.0 _ c.loop-place.place c.loop-place.table (c.requires.past c.args.group.0 c.requires.group) (omega (arith, c.loop-place-test.false, c.pointer-place-end.ensures)) c.loop-place.invariant
