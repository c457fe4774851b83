use Rattle.std.proofs.Common.{◌+◌, ◌<◌, ◌≤◌, length}
use Rattle.deferred_accept.proofs.Traces.{IsTrace}
use Rattle.deferred_accept.proofs.circle.circle_at.Given as goal

abbrev pub invariant-loop-step : goal.invariant-loop-step
invariant-loop-step l = record {
  trace : IsTrace l.instance l.state l.group.0 l.hops.items l.next.0;
  there : l.next.0 < length l.instance.groups;
  few : length l.hops.items ≤ l._step + 1;
}
