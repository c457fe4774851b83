use Rattle.move_up.proofs.Moving.{moved_trans}
use Rattle.move_up.proofs.settling.settle_lowered.Goals as goal
use Rattle.move_up.proofs.settling.settle_lowered.Goals.{then-demand, else-demand}

pub loop-g-preserved : goal.loop-g-preserved
loop-g-preserved c = elim c.if-demand.branch [
  | then-demand w ↦ rw w.state-is (moved_trans c.args.new.now c.args.marks.now c.args.state.now c.loop-g.state w.settle_refused.new.state c.loop-g.invariant w.settle_refused.ensures)
  | else-demand w ↦ rw w.state-is c.loop-g.invariant
]
