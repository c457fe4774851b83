use Rattle.std.proofs.Common.{◌+◌, ◌++◌, ◌∙◌, length, arith}
use Rattle.demand_feed.proofs.Worked.{piece_begins, piece_ends, piece_goes, piece_line, ready_less}
use Rattle.demand_feed.proofs.pieces.take_piece.Goals as goal

pub lines-init : goal.lines-init
lines-init g c = record {
  ready = λ n r. r;
  came = λ before bytes reads. piece_begins g.T.TakesTasks.does c.args.topology.now before bytes c.args.piece.now c.args.cutter.now c.args.clerk.now c.args.to.now reads;
}

pub returns-in-Stopped-clause-came : goal.returns-in-Stopped-clause-came
returns-in-Stopped-clause-came g c = λ before bytes reads.
    let p = c.lines.invariant.came before bytes reads in
    let cut = c.in-Some.ensures.cut in
    let came = rw c.in-Stopped.is at (c.end_line.ensures.came before p.0 (p.1 ++ cut.0) (c.line.ensures ∙ cut.2 p.1 p.3) p.4) in
    (p.0, p.1 ++ cut.0, piece_line g.T.TakesTasks.does c.args.topology.now before (bytes ++ c.args.piece.now) c.lines.rest.now cut.0 c.in-Some.behind.now c.lines.cutter c.lines.clerk c.lines.to p cut.1, came.0, came.1)

pub returns-in-Failed-clause-came : goal.returns-in-Failed-clause-came
returns-in-Failed-clause-came g c = λ before bytes reads.
    let p = c.lines.invariant.came before bytes reads in
    let cut = c.in-Some.ensures.cut in
    let came = rw c.in-Failed.is at (c.end_line.ensures.came before p.0 (p.1 ++ cut.0) (c.line.ensures ∙ cut.2 p.1 p.3) p.4) in
    (p.0, p.1 ++ cut.0, piece_line g.T.TakesTasks.does c.args.topology.now before (bytes ++ c.args.piece.now) c.lines.rest.now cut.0 c.in-Some.behind.now c.lines.cutter c.lines.clerk c.lines.to p cut.1, came.0, came.1)

pub lines-preserved : goal.lines-preserved
lines-preserved g c = record {
  ready = λ n r. c.end_line.ensures.ready (n + length c.in-Some.behind.now) (ready_less g.T.TakesTasks.market g.T.TakesTasks.left c.args.topology.now c.lines.clerk c.lines.to (n + length c.in-Some.behind.now + 1) (n + length c.lines.rest.now) (omega (arith, c.in-Some.ensures.shorter)) (c.lines.invariant.ready n r));
  came = λ before bytes reads.
      let p = c.lines.invariant.came before bytes reads in
      let cut = c.in-Some.ensures.cut in
      rw c.clear.ensures (piece_goes g.T.TakesTasks.does c.args.topology.now before (bytes ++ c.args.piece.now) c.lines.rest.now cut.0 c.in-Some.behind.now c.lines.cutter c.take.new.self c.lines.clerk c.end_line.new.clerk c.lines.to c.end_line.new.to p cut.1 cut.2
      (λ done whole sh st. rw c.in-GoesOn.is at (c.end_line.ensures.came before done whole (c.line.ensures ∙ sh) st)));
}

pub returns-clause-ready : goal.returns-clause-ready
returns-clause-ready g c = λ n r on. ready_less g.T.TakesTasks.market g.T.TakesTasks.left c.args.topology.now c.lines.clerk c.lines.to n (n + length c.lines.rest.now) (omega arith) (c.lines.invariant.ready n r)

pub returns-clause-came : goal.returns-clause-came
returns-clause-came g c = λ before bytes reads.
    piece_ends g.T.TakesTasks.does c.args.topology.now before (bytes ++ c.args.piece.now) c.lines.rest.now c.lines.cutter c.take.new.self c.lines.clerk c.lines.to (c.lines.invariant.came before bytes reads) c.in_default.ensures.cut c.in_default.ensures.open
