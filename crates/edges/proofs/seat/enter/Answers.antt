use Rattle.edges.proofs.Going.{entered}
use Rattle.edges.proofs.seat.enter.Goals as goal

pub returns-clause-entered : goal.returns-clause-entered
returns-clause-entered c =
    let asked = c.requires in
    entered c.args.turns.now c.queue_up.new.turns asked.1 asked.0 c.args.new c.fill.new.seat c.queue_up.new.seat c.leave_if_due.new.seat c.clear.new.self c.fill.new.room c.leave_if_due.new.room asked.2 c.clear.ensures c.fill.ensures.octets c.fill.ensures.seat c.fill.ensures.read c.queue_up.ensures.seat
    c.queue_up.ensures.turned c.leave_if_due.ensures.gone
