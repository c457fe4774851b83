use Rattle.deferred_accept.specs.Work.{CoversWork}
use Rattle.deferred_accept.proofs.Listed.{how_many}
use Rattle.deferred_accept.proofs.work.next_offer.Given as goal

abbrev pub invariant-loop-group : goal.invariant-loop-group
invariant-loop-group l = CoversWork l.instance l.state l.work

abbrev pub decreases-loop-group : goal.decreases-loop-group
decreases-loop-group l = how_many l.work
