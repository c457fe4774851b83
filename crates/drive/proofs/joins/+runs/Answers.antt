use Rattle.std.proofs.Common.{rules, ◌≡◌, ◌++◌, ◌∷◌, []}
use Rattle.drive.proofs.Joined.{ran_append}
use Rattle.drive.proofs.joins.+runs.Goals as goal

pub run_all-returns-clause-ran : goal.run_all-returns-clause-ran
run_all-returns-clause-ran g t c =
    let whole : c.args.works.now.items ≡ c.pop.new.self.items ++ c.in-Some.work ∷ [] = search rules in
    rw (c.push_reserved.ensures.items, whole, c.split_at_mut-rest.ensures.value)
    (ran_append g.T.Runs.ran _ _ _ _ _ _ _ _ c.run_last-work.ensures.rest c.run_last-work.ensures.last)
