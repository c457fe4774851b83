use Rattle.edges.proofs.Going.{all_same, one_woken}
use Rattle.edges.proofs.ears.note_all.Goals as goal

pub loop-event-init : goal.loop-event-init
loop-event-init c = all_same c.args.seats.now

pub loop-event-preserved : goal.loop-event-preserved
loop-event-preserved c = one_woken c.stirring_of.result c.saturating_sub.result c.args.seats.now c.loop-event.seats c.wake_at.new.seats c.loop-event.invariant c.wake_at.ensures.woken c.wake_at.ensures.none
