use Rattle.std.proofs.Common.{refl}
use Rattle.map_model.specs.Allocation.{names_of}
use Rattle.deferred_accept.proofs.Finished.{finished}
use Rattle.mapper.proofs.Fresh.{ended_best}
use Rattle.glb.proofs.placing.state_afresh.Goals as goal

pub returns-clause-good : goal.returns-clause-good
returns-clause-good c =
    let m = c.args.instance.now in
    let s = c.run.new.state in
    finished m s (names_of m s.lines) c.in_ok-run.ensures.run.ready c.in_ok-run.ensures.ended refl

pub returns-clause-best : goal.returns-clause-best
returns-clause-best c =
    let run = c.in_ok-run.ensures in
    ended_best c.args.instance.now c.in_ok-state.state c.run.new.state c.in_ok-state.ensures.fresh run.run run.ended run.ahead
