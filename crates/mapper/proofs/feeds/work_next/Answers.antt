use Rattle.std.proofs.Common.{ap, sym}
use Rattle.std.specs.Prelude.{Some}
use Rattle.mapper.specs.Deeds.{DeedWorks}
use Rattle.mapper.proofs.Courses.{came_done}
use Rattle.mapper.proofs.Several.{all_next, cut_next}
use Rattle.mapper.proofs.feeds.work_next.Goals as goal

pub returns-in-Some-clause-goes_on : goal.returns-in-Some-clause-goes_on
returns-in-Some-clause-goes_on g c = λ whole before all.
    let x = c.in-Some.item in
    all_next c.args.taker.now.taken _ x before _ _ (ap (λ t. t.taken) c.in-Some.ensures.some) all
    (λ k at. let came = came_done c.work.result before k (DeedWorks (Some x.feeder) c.deed_of_item-deed.result k) _ whole (c.work.ensures.came before k at) in (came.0, c.deed_of_item-deed.ensures.works x.feeder k came.0 (sym at.newest) came.1, came.2))

pub returns-in-Some-clause-broken : goal.returns-in-Some-clause-broken
returns-in-Some-clause-broken g c = λ is before all.
    let x = c.in-Some.item in
    cut_next c.args.taker.now.taken _ x before _ _ (ap (λ t. t.taken) c.in-Some.ensures.some) all
    (λ k at. let came = rw is at (c.work.ensures.came before k at) in (came.0, c.deed_of_item-deed.ensures.works x.feeder k came.0 (sym at.newest) came.1, came.2))
