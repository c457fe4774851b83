use Rattle.std.proofs.Common.{sym, ap, ◌∙◌, true, false}
use Rattle.demand_feed.specs.Task.{Step}
use Rattle.demand_feed.specs.Clerk.{task_by}
use Rattle.demand_feed.proofs.Worked.{batch_some, calm_by, failed_some, fails, goes, ready_next, shown_says, stands_still}
use Rattle.demand_feed.proofs.pieces.end_line.Goals as goal

pub take-requires-clause-batch : goal.take-requires-clause-batch
take-requires-clause-batch g c = λ is.
    let batches = c.take-next.ensures.kept c.requires.0 in (
      rw (c.due.ensures, c.requires.1) batches.due,
      λ none. batch_some c.args.topology.now c.args.clerk.now.ledger c.args.line.now c.take-next.new.self.due
          (sym (ap (λ (x : Step). x.task) c.take-next.ensures.step) ∙ ap (task_by c.take-next.new.self.due) is) (sym c.due.ensures ∙ none),
    )

pub returns-in-Failed-clause-ready : goal.returns-in-Failed-clause-ready
returns-in-Failed-clause-ready g c = λ n r.
    ready_next g.T.TakesTasks.market g.T.TakesTasks.left c.args.topology.now c.args.clerk.now c.take-next.new.self c.args.to.now c.take.new.self n c.args.line.now (task_by c.take-next.new.self.due c.take-next.result)
    c.take-next.ensures.step c.take-next.ensures.kept c.take.ensures.market c.take.ensures.left r

pub returns-in-Failed-clause-came : goal.returns-in-Failed-clause-came
returns-in-Failed-clause-came g c = λ before done whole sh st.
    let step = rw (sym c.due.ensures) at c.take-next.ensures.step in
    let taken = rw c.in-Failed.is at c.take.ensures.taken in
    let some = failed_some g.T.TakesTasks.does g.T.TakesTasks.cuts (task_by c.due.result.now c.take-next.result) c.args.to.now c.take.new.self taken in
    let calm = calm_by c.args.line.now (λ y. some (ap (task_by c.due.result.now) (c.take-next.ensures.stop.1 y))) in (
      shown_says whole c.args.line.now false sh calm,
      fails g.T.TakesTasks.does g.T.TakesTasks.cuts c.args.topology.now before done whole c.args.line.now c.args.clerk.now c.take-next.new.self c.args.to.now c.take.new.self (task_by c.due.result.now c.take-next.result) sh st step taken,
    )

pub returns-then-is_stop-clause-ready : goal.returns-then-is_stop-clause-ready
returns-then-is_stop-clause-ready g c = λ n r.
    ready_next g.T.TakesTasks.market g.T.TakesTasks.left c.args.topology.now c.args.clerk.now c.take-next.new.self c.args.to.now c.take.new.self n c.args.line.now (task_by c.take-next.new.self.due c.take-next.result)
    c.take-next.ensures.step c.take-next.ensures.kept c.take.ensures.market c.take.ensures.left r

pub returns-then-is_stop-clause-came : goal.returns-then-is_stop-clause-came
returns-then-is_stop-clause-came g c = λ before done whole sh st.
    let stops = c.is_stop.ensures.0 c.if-is_stop.true in (
      shown_says whole c.args.line.now true sh (c.take-next.ensures.stop.0 stops),
      stands_still g.T.TakesTasks.does g.T.TakesTasks.cuts c.args.topology.now before done c.args.clerk.now c.args.to.now c.take.new.self (task_by c.due.result.now c.take-next.result) st (ap (task_by c.due.result.now) stops)
          (rw c.in-Done.is at c.take.ensures.taken),
    )

pub returns-else-is_stop-clause-ready : goal.returns-else-is_stop-clause-ready
returns-else-is_stop-clause-ready g c = λ n r.
    ready_next g.T.TakesTasks.market g.T.TakesTasks.left c.args.topology.now c.args.clerk.now c.take-next.new.self c.args.to.now c.take.new.self n c.args.line.now (task_by c.take-next.new.self.due c.take-next.result)
    c.take-next.ensures.step c.take-next.ensures.kept c.take.ensures.market c.take.ensures.left r

pub returns-else-is_stop-clause-came : goal.returns-else-is_stop-clause-came
returns-else-is_stop-clause-came g c = λ before done whole sh st.
    let step = rw (sym c.due.ensures) at c.take-next.ensures.step in
    let calm = calm_by c.args.line.now (λ y. let yes = c.is_stop.ensures.1 (c.take-next.ensures.stop.1 y) in cc (yes, c.if-is_stop.false)) in
    goes g.T.TakesTasks.does g.T.TakesTasks.cuts c.args.topology.now before done whole c.args.line.now c.args.clerk.now c.take-next.new.self c.args.to.now c.take.new.self (task_by c.due.result.now c.take-next.result) sh st step calm
    (rw c.in-Done.is at c.take.ensures.taken)
