use Rattle.deferred_accept.proofs.Best.{best_of_ended}
use Rattle.deferred_accept.proofs.Finished.{finished}
use Rattle.deferred_accept.proofs.finishing.ended_map.Goals as goal

pub returns-clause-good : goal.returns-clause-good
returns-clause-good c =
    let m = c.args.instance.now in
    rw c.in_ok-lines.ensures.lines (finished m c.args.state.now c.in_ok-names.names.items c.requires.ready c.requires.ended c.in_ok-names.ensures)

pub returns-clause-best : goal.returns-clause-best
returns-clause-best c =
    let m = c.args.instance.now in
    rw c.in_ok-lines.ensures.lines (λ ahead. best_of_ended m c.args.state.now c.requires.ready c.requires.ended ahead)
