use Rattle.std.proofs.Common.{true≢false, refl, sym, ◌∙◌}
use Rattle.demand_feed.specs.Clerk.{task_by}
use Rattle.mapper.specs.Desks.{DeskCuts, DeskDoes}
use Rattle.demand_feed.proofs.Chains.{cut_by}
use Rattle.mapper.proofs.Taking.{done_by, some_of}
use Rattle.mapper.proofs.feed.DeskTakesTasks.take.Goals as goal

pub returns-in-Done-clause-taken : goal.returns-in-Done-clause-taken
returns-in-Done-clause-taken g c =
    let work = c.in-Done.ensures in
    done_by (DeskDoes g.K.Sink.told g.M.Pace.told) (DeskCuts g.K.Sink.told g.M.Pace.told) (task_by c.args.due.now c.args.next.now) _ _
    (λ none. true≢false (sym ((c.is_quiet.ensures c.args.due.now).1 none) ∙ c.if-is_quiet.false))
    (λ task e. (work.keeps, work.stays (λ is. cc), (λ before k at. let came = work.came before k at in (came.0, rw e at (c.deed_of_line-deed.ensures.works k came.0 (sym at.newest) came.1), came.2))))

pub returns-in-Failed-clause-taken : goal.returns-in-Failed-clause-taken
returns-in-Failed-clause-taken g c =
    let work = c.in-Failed.ensures in
    cut_by (DeskDoes g.K.Sink.told g.M.Pace.told) (DeskCuts g.K.Sink.told g.M.Pace.told) (task_by c.args.due.now c.args.next.now) _ _
    (some_of _ (λ none. true≢false (sym ((c.is_quiet.ensures c.args.due.now).1 none) ∙ c.if-is_quiet.false)))
    (λ task e. (work.keeps, work.cause refl, (λ before k at. let came = work.came before k at in (came.0, rw e at (c.deed_of_line-deed.ensures.works k came.0 (sym at.newest) came.1), came.2))))
