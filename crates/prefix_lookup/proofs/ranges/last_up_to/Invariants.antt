use Rattle.prefix_lookup.proofs.Halves.{Halving}
use Rattle.prefix_lookup.proofs.ranges.last_up_to.Given as goal

abbrev pub invariant-loop-size : goal.invariant-loop-size
invariant-loop-size g l = Halving (g.S.Starts.starts l.starts) l.number (g.T.Tally.told l.fn.tally) l.low l.size (g.T.Tally.told l.tally)

abbrev pub decreases-loop-size : goal.decreases-loop-size
decreases-loop-size g l = l.size
