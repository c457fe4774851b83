use Rattle.std.proofs.Common.{arith, refl}
use Rattle.mapper.proofs.Fresh.{ended_best, ended_state, fresh_offers}
use Rattle.mapper.proofs.current.mapped.Goals as goal

pub returns-clause-state : goal.returns-clause-state
returns-clause-state g c =
    let run = c.in_ok-run.ensures in
    ended_state c.args.instance.now c.in_ok-state.state c.run.new.state c.in_ok-state.ensures.fresh run.run run.ended run.wanted

pub returns-clause-steps : goal.returns-clause-steps
returns-clause-steps g c = omega (arith, c.in_ok-run.ensures.steps, fresh_offers c.args.instance.now c.in_ok-state.state c.in_ok-state.ensures.fresh)

pub returns-clause-counted : goal.returns-clause-counted
returns-clause-counted g c =
    let run = c.in_ok-run.ensures in
    record {
      start = c.in_ok-state.state;
      mapped = c.run.new.state;
      fresh = c.in_ok-state.ensures.fresh;
      proposed = run.counted;
      holds = refl;
      best = ended_best c.args.instance.now c.in_ok-state.state c.run.new.state c.in_ok-state.ensures.fresh run.run run.ended run.ahead;
    }
