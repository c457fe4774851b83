use Rattle.std.proofs.Common.{◌≡◌, ap, arith, rules}
use Rattle.map_model.specs.declared.instance.GroupId.{GroupId}
use Rattle.deferred_accept.proofs.Traces.{trace_done, trace_more}
use Rattle.deferred_accept.proofs.circle.circle_at.Goals as goal

pub returns-then-eq-clause-round : goal.returns-then-eq-clause-round
returns-then-eq-clause-round c =
    let same : c.loop-step.next.0 ≡ c.args.group.0 = search rules in
    trace_done c.args.instance.now c.args.state.now c.args.group.0 c.loop-step.next.0 c.loop-step.hops.items c.loop-step.invariant.trace same c.requires.some

pub loop-step-preserved : goal.loop-step-preserved
loop-step-preserved c =
    let hop = c.in-Some-idle_hop.hop in
    record {
      trace = trace_more c.args.instance.now c.args.state.now c.args.group.0 c.loop-step.next.0 c.loop-step.hops.items c.push-in-loop-step.new.self.items hop c.loop-step.invariant.trace c.in-Some-idle_hop.ensures.hop
          (ap (λ (g : GroupId). g.0) c.in-Some-idle_hop.ensures.group) c.in-Some-idle_hop.ensures.idle (λ e. search rules) c.in_ok-push-2.ensures.items;
      there = c.in-Some-idle_hop.ensures.hop.rival.worst.offer.group;
      few = omega (arith, c.in_ok-push-2.ensures.len, c.loop-step.invariant.few);
    }
