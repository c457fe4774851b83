use Rattle.std.proofs.Common.{◌≤◌, ◌+◌, ◌-◌, ◌∙◌, sym, length, take, arith}
use Rattle.std.specs.List.{concat}
use Rattle.std.proofs.lemmas.List.{length-take-le}
use Rattle.demand_feed.proofs.Worked.{ready_less}
use Rattle.demand_feed.proofs.Ends.{goes_on, is_piece, turn_end, turn_failed, turn_got}
use Rattle.demand_feed.proofs.run.take_turn.Goals as goal

pub returns-in-Got-clause-ready : goal.returns-in-Got-clause-ready
returns-in-Got-clause-ready g c = λ n r none.
    let len = length-take-le c.in-Got.size c.read.new.buffer (omega (arith, c.in-Got.ensures.within.1, c.read.auto.buffer)) in
    let most : length (take c.in-Got.size c.read.new.buffer) ≤ 32768 = omega (arith, len, c.in-Got.ensures.within.1, c.requires.buffer) in
    ready_less g.T.TakesTasks.market g.T.TakesTasks.left c.args.topology.now c.take_piece.new.clerk c.take_piece.new.to n (n + (32768 - length (take c.in-Got.size c.read.new.buffer))) (omega arith)
    (c.take_piece.ensures.ready (n + (32768 - length (take c.in-Got.size c.read.new.buffer)))
    (ready_less g.T.TakesTasks.market g.T.TakesTasks.left c.args.topology.now c.args.clerk.now c.args.to.now (n + (32768 - length (take c.in-Got.size c.read.new.buffer)) + length (take c.in-Got.size c.read.new.buffer)) (n + 32768) (omega (arith, most)) r)
    (goes_on c.take_piece.result (sym c.piece_end.ensures.end ∙ none)))

pub returns-in-Got-clause-came : goal.returns-in-Got-clause-came
returns-in-Got-clause-came g c = λ fed before pieces told reads.
    rw c.piece_end.ensures.end (turn_got g.T.TakesTasks.does g.T.TakesTasks.cuts c.take_piece.result c.args.topology.now fed _ _ before pieces c.read.new.buffer c.in-Got.size c.take_piece.new.cutter c.take_piece.new.clerk c.take_piece.new.to
    (is_piece c.read.new.buffer c.in-Got.size (omega (arith, c.read.auto.buffer, c.requires.buffer)) (omega (arith, c.in-Got.ensures.within.0), omega (arith, c.in-Got.ensures.within.1, c.requires.buffer))) told
    (rw (c.requires.buffer, c.in-Got.is) at c.read.ensures.read) reads.1.1 (c.take_piece.ensures.came before (concat pieces) reads))

pub returns-in-End-clause-came : goal.returns-in-End-clause-came
returns-in-End-clause-came g c = λ fed before pieces told reads.
    turn_end g.T.TakesTasks.does g.T.TakesTasks.cuts c.end_last.result c.args.topology.now fed _ _ before pieces c.read.new.buffer c.args.cutter.now c.end_last.new.clerk c.end_last.new.to told
    (rw (c.requires.buffer, c.in-End.is) at c.read.ensures.read) reads.1.1 (c.end_last.ensures.came before (concat pieces) (rw (sym c.line.ensures) at reads))

pub returns-in-Failed-clause-came : goal.returns-in-Failed-clause-came
returns-in-Failed-clause-came g c = λ fed before pieces told reads.
    turn_failed g.T.TakesTasks.does g.T.TakesTasks.cuts c.args.topology.now fed _ _ before pieces c.read.new.buffer c.args.cutter.now c.args.clerk.now c.args.to.now told (rw (c.requires.buffer, c.in-Failed.is) at c.read.ensures.read) reads.1
