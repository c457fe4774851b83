use Rattle.prefix_lookup.proofs.Found.{range_is}
use Rattle.prefix_lookup.proofs.ranges.range_in.Goals as goal

pub returns-clause-range : goal.returns-clause-range
returns-clause-range g c = λ family table are fits.
    range_is family table (g.S.Starts.starts c.args.starts.now) c.args.groups.now c.args.number c.last_up_to-place.result _ are c.last_up_to-place.ensures.place fits c.range_at.ensures
