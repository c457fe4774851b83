use Rattle.deferred_accept.proofs.Past.{past_of_ended}
use Rattle.map_repair.proofs.trying.run_to_best.Goals as goal

pub is_best-requires-clause-past : goal.is_best-requires-clause-past
is_best-requires-clause-past g c =
    let run = c.in_ok-run.ensures in
    past_of_ended c.args.new.now c.run.new.state run.run.ready run.ended (run.wanted c.requires.wanted)
