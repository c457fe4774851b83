use Rattle.std.proofs.Common.{ℕ, ◌<◌, sym, subst}
use Rattle.mapper.proofs.mapper.Mapper.run_feeds.Goals as goal

pub returns-clause-told : goal.returns-clause-told
returns-clause-told g c = λ whole all serial lt few.
    let stays = (c.run_feeds-end.ensures.whole whole).1 in
    subst (λ (n : ℕ). serial < n) (sym c.told-to.ensures) (stays (rw (c.new-desk.ensures.published.1, c.new-desk.ensures.to, c.self.view_is) all) serial lt few)
