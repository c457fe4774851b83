use Rattle.std.proofs.Common.{◌+◌, ◌-◌, ◌*◌, ◌∙◌, [], ap, refl, arith}
use Rattle.std.specs.List.{concat}
use Rattle.text_parts.specs.Parts.{whole_lines}
use Rattle.demand_feed.specs.Clerk.{Clerking}
use Rattle.demand_feed.specs.Limits.{read_size}
use Rattle.demand_feed.specs.Runs.{HasRead}
use Rattle.demand_feed.proofs.Tellings.{tell_self}
use Rattle.demand_feed.proofs.Worked.{ready_less}
use Rattle.demand_feed.proofs.Ends.{all_came, batches_none, not_failed, read_none, reads_none}
use Rattle.demand_feed.proofs.run.run_lines.Goals as goal

pub pieces-init : goal.pieces-init
pieces-init g c = record {
  size = omega (arith, c.args.intake.now.fits);
  used = omega arith;
  ready = (rw c.restart.ensures (batches_none c.args.topology.now.market), c.requires.market, rw c.restart.ensures (omega (arith, c.requires.turns)), omega (arith, c.requires.turns, c.requires.left));
  came = ([], refl, tell_self (g.S.Source.told c.args.feed.now).past (HasRead []) read_none, rw c.clear.ensures (reads_none g.T.TakesTasks.does c.args.topology.now c.restart.new.self c.args.to.now (ap (λ (x : Clerking). x.ledger) c.restart.ensures)));
  feed = refl;
}

pub returns-in-Some-clause-run : goal.returns-in-Some-clause-run
returns-in-Some-clause-run g c =
    let i = c.pieces.invariant.came in
    let turn = rw c.in-Some.is at (c.take_turn-end.ensures.came (g.S.Source.told c.args.feed.now).past c.args.to.now i.0 i.2 i.3) in
    (turn.0, turn.1, turn.3 c.args.turns (omega (arith, i.1, c.pieces-test.true)))

pub pieces-preserved : goal.pieces-preserved
pieces-preserved g c = record {
  size = omega (arith, c.pieces.invariant.size, c.take_turn-end.auto.buffer);
  used = omega (arith, c.pieces-test.true);
  ready = c.take_turn-end.ensures.ready (read_size * (c.args.turns - (c.pieces.used + 1)))
      (ready_less g.T.TakesTasks.market g.T.TakesTasks.left c.args.topology.now c.pieces.clerk c.pieces.to (read_size * (c.args.turns - (c.pieces.used + 1)) + read_size) (read_size * (c.args.turns - c.pieces.used)) (omega (arith, c.pieces-test.true)) c.pieces.invariant.ready)
      c.in_default.is;
  came =
      let i = c.pieces.invariant.came in
      let turn = rw c.in_default.is at (c.take_turn-end.ensures.came (g.S.Source.told c.args.feed.now).past c.args.to.now i.0 i.2 i.3) in
      (turn.0, omega (arith, turn.1, i.1), turn.2, turn.3);
  feed = c.take_turn-end.ensures.stays (not_failed c.take_turn-end.result c.in_default.is) ∙ c.pieces.invariant.feed;
}

pub returns-clause-run : goal.returns-clause-run
returns-clause-run g c =
    let i = c.pieces.invariant.came in
    (i.0, i.2, (i.3.1.1, omega (arith, i.1, c.pieces-test.false, c.pieces.invariant.used), all_came g.T.TakesTasks.does c.args.topology.now c.args.to.now (whole_lines (concat i.0)) c.pieces.clerk c.pieces.to i.3.1))
