use Rattle.deferred_accept.specs.Work.{CoversWork, worth}
use Rattle.deferred_accept.proofs.Courses.{IsCourse}
use Rattle.deferred_accept.proofs.tests.plain_run.Given as goal

abbrev pub invariant-loop-offer : goal.invariant-loop-offer
invariant-loop-offer l = record {
  course : IsCourse l.instance l.fn.state l.state l.fn.steps l.steps;
  covered : CoversWork l.instance l.state l.work;
}

abbrev pub decreases-loop-offer : goal.decreases-loop-offer
decreases-loop-offer l = worth l.instance l.state
