use Rattle.move_up.proofs.Moving.{moved_trans}
use Rattle.move_up.proofs.turns.take_up.Goals as goal

pub returns : goal.returns
returns c = moved_trans c.args.instance.now c.args.marks.now c.args.state.now c.grant_marked.new.state c.settle.new.state c.in_ok-granted.ensures c.settle.ensures
