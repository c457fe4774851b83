use Rattle.move_up.proofs.Moving.{moved_trans}
use Rattle.move_up.proofs.turns.move_up.Goals as goal

pub loop-made-preserved : goal.loop-made-preserved
loop-made-preserved c = moved_trans c.args.new.now c.args.marks.now c.args.state.now c.loop-made.state c.turn.new.state c.loop-made.invariant c.in_ok-turn.ensures
