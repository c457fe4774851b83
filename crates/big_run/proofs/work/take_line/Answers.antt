use Rattle.std.proofs.Common.{sym, ap, ◌∙◌, arith}
use Rattle.demand_feed.specs.Task.{Step, step}
use Rattle.demand_feed.specs.Clerk.{task_by}
use Rattle.demand_feed.proofs.Tasks.{step_number}
use Rattle.demand_feed.proofs.Worked.{batch_some}
use Rattle.big_run.specs.Publishing.{LinePublishes}
use Rattle.big_run.proofs.Taken.{calm, nothing_by}
use Rattle.big_run.proofs.work.take_line.Goals as goal

pub publish-requires-clause-some : goal.publish-requires-clause-some
publish-requires-clause-some g c = λ none.
    batch_some c.args.topology.now c.args.clerk.now.ledger c.args.line.now c.take.new.self.due
    (sym (ap (λ (x : Step). x.task) c.take.ensures.step) ∙ ap (task_by c.take.new.self.due) c.in-Batch.is) none

pub returns-in-Stop-clause-number : goal.returns-in-Stop-clause-number
returns-in-Stop-clause-number g c = ap (λ (x : Step). x.ledger.number) c.take.ensures.step ∙ step_number c.args.topology.now c.args.clerk.now.ledger c.args.line.now

pub returns-in_ok-publish-in-Batch-clause-number : goal.returns-in_ok-publish-in-Batch-clause-number
returns-in_ok-publish-in-Batch-clause-number g c = ap (λ (x : Step). x.ledger.number) c.take.ensures.step ∙ step_number c.args.topology.now c.args.clerk.now.ledger c.args.line.now

pub returns-in_default : goal.returns-in_default
returns-in_default g c =
    let s = c.take.ensures.step in
    let w = c.requires.work in
    let t = c.args.topology.now in
    let nothing : LinePublishes (step t c.args.clerk.now.ledger c.args.line.now).task c.args.mapper.now c.args.mapper.now =
    rw (sym (ap (λ (x : Step). x.task) s)) (nothing_by c.take.new.self.due c.take.result c.args.mapper.now c.in_default.not-Batch) in
    record {
      work = record { batches = c.take.ensures.kept w.batches; plan = w.plan; shape = w.shape; room = w.room; good = w.good };
      taken = (
        calm c.args.line.now (λ found. c.in_default.not-Stop (c.take.ensures.stop.1 found)),
        ap (λ (x : Step). x.ledger) s,
        nothing,
      );
      number = ap (λ (x : Step). x.ledger.number) s ∙ step_number c.args.topology.now c.args.clerk.now.ledger c.args.line.now;
      serial = omega arith;
    }
