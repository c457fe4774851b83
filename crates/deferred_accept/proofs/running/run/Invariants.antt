use Rattle.std.proofs.Common.{◌<◌, ◌≤◌, length}
use Rattle.std.specs.Option.{IfSome}
use Rattle.deferred_accept.specs.Work.{CoversWork, worth}
use Rattle.deferred_accept.proofs.Courses.{IsCourse}
use Rattle.deferred_accept.proofs.running.run.Given as goal

abbrev pub invariant-loop-offer : goal.invariant-loop-offer
invariant-loop-offer g l = record {
  course : IsCourse l.instance l.fn.state l.state l.fn.steps l.steps;
  covered : CoversWork l.instance l.state l.work;
  later : l.fn.steps ≤ l.steps;
  ahead : IfSome l.ahead (λ g. g.0 < length l.instance.groups);
}

abbrev pub decreases-loop-offer : goal.decreases-loop-offer
decreases-loop-offer g l = worth l.instance l.state
