use Rattle.evict.specs.Standing.{CanAsk}
use Rattle.evict.proofs.Done.{agrees-shape, seen}
use Rattle.evict.proofs.state.State.rival.Goals as goal

pub rival_of-requires-clause-agrees : goal.rival_of-requires-clause-agrees
rival_of-requires-clause-agrees c =
    let s = c.self.inside in
    let can : CanAsk c.args.instance.now (seen s.held s.pointers.items s.free.items s.whole) c.args.offer.group.0 c.args.offer.place = rw c.self.view_is c.requires in
    agrees-shape s.held.market c.args.instance.now can.shape s.held.lines s.tree (c.self.invariant can.whole).agrees
