use Rattle.topology_text.proofs.Repeats.{is_found}
use Rattle.topology_text.proofs.zone.is_repeat.Goals as goal

pub returns-in_ok-is_new-in-Some-clause-found : goal.returns-in_ok-is_new-in-Some-clause-found
returns-in_ok-is_new-in-Some-clause-found c =
    is_found c.args.seen.now.keys c.in_ok-folded-in-Some.field-0 c.in-Some.name c.args.name c.in_ok-is_new-in-Some.is_new c.in-Some.is c.in_ok-folded-in-Some.ensures c.in_ok-is_new-in-Some.ensures.added
