use Rattle.std.proofs.Common.{rules, ◌≡◌, ◌++◌, ◌∷◌, []}
use Rattle.drive.proofs.Joined.{ran_append}
use Rattle.drive.specs.All.{AllRan}
use Rattle.drive.proofs.feeders.+runs.Goals as goal

pub run_more-returns-clause-sent : goal.run_more-returns-clause-sent
run_more-returns-clause-sent g t c =
    let whole : c.args.feeders.now.items ≡ c.pop.new.self.items ++ c.in-Some.feeder ∷ [] = search rules in
    rw (c.push_reserved.ensures.items, whole) c.run_last-feeder.ensures.sent

pub run_last-returns-clause-sent : goal.run_last-returns-clause-sent
run_last-returns-clause-sent g t c =
    let others : AllRan (g.T.Sends.sent c.args.context.now) c.split_at_mut-rest.result.0.now c.rest-1.given.0 c.args.feeders.now.items c.feeders-1.given.0.items = search rules in
    let one : AllRan (g.T.Sends.sent c.args.context.now) c.split_at_mut-rest.result.1.now c.last-1.given.0 (c.args.feeder ∷ []) (c.feeder-2-1.given.0 ∷ []) = search rules in
    rw (c.split_at_mut-rest.ensures.value)
    (ran_append (g.T.Sends.sent c.args.context.now) _ _ _ _ _ _ _ _ others one)
