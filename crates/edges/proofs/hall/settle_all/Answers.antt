use Rattle.edges.proofs.Going.{one_settled}
use Rattle.edges.proofs.hall.settle_all.Goals as goal

pub loop-i-preserved : goal.loop-i-preserved
loop-i-preserved c = one_settled c.args.now c.args.turns.now c.loop-i.turns c.settle_at.new.turns c.loop-i.i c.args.seats.now c.loop-i.seats c.settle_at.new.seats c.args.rooms.now c.loop-i.rooms c.settle_at.new.rooms c.loop-i.invariant c.settle_at.ensures.at c.settle_at.ensures.none c.settle_at.ensures.turns
