use Rattle.std.proofs.Common.{rules, ◌≡◌, ◌++◌, ◌∷◌, []}
use Rattle.drive.proofs.Joined.{ran_append}
use Rattle.drive.proofs.joins.+close_all.Goals as goal

pub returns-clause-closed : goal.returns-clause-closed
returns-clause-closed g t c =
    let whole : c.args.works.now.items ≡ c.pop.new.self.items ++ c.in-Some.work ∷ [] = search rules in
    rw (c.push_reserved.ensures.items, whole, c.split_at_mut-rest.ensures.value)
    (ran_append (g.T.Closes.closed c.args.note.now) _ _ _ _ _ _ _ _ c.close_all.ensures.closed c.close_one-work.ensures)
