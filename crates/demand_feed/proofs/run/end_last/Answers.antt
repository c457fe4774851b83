use Rattle.std.proofs.Common.{sym, ◌∙◌, [], true}
use Rattle.text_parts.specs.Parts.{unfinished, whole_lines}
use Rattle.demand_feed.specs.Lines.{lines_of}
use Rattle.demand_feed.proofs.Ends.{all_came, broke_off, no_last, one_last, stop_came}
use Rattle.demand_feed.proofs.run.end_last.Goals as goal

pub returns-then-is_empty-clause-came : goal.returns-then-is_empty-clause-came
returns-then-is_empty-clause-came g c = λ before bytes reads.
    rw (no_last bytes c.args.line.now reads.0 (sym c.is_empty.ensures ∙ c.if-is_empty.true)) (all_came g.T.TakesTasks.does c.args.topology.now before (whole_lines bytes) c.args.clerk.now c.args.to.now reads.1)

pub returns-in-Failed-clause-came : goal.returns-in-Failed-clause-came
returns-in-Failed-clause-came g c = λ before bytes reads.
    let e = one_last bytes c.args.line.now reads.0 (sym c.is_empty.ensures ∙ c.if-is_empty.false) in
    let came = rw c.in-Failed.is at (c.end_line.ensures.came before (whole_lines bytes) (unfinished bytes) reads.0 reads.1) in
    broke_off g.T.TakesTasks.does g.T.TakesTasks.cuts c.args.topology.now before (lines_of true bytes) (whole_lines bytes) (unfinished bytes) [] c.end_line.new.to e reads.1.1 came.0 came.1

pub returns-in-Stopped-clause-came : goal.returns-in-Stopped-clause-came
returns-in-Stopped-clause-came g c = λ before bytes reads.
    let e = one_last bytes c.args.line.now reads.0 (sym c.is_empty.ensures ∙ c.if-is_empty.false) in
    let came = rw c.in-Stopped.is at (c.end_line.ensures.came before (whole_lines bytes) (unfinished bytes) reads.0 reads.1) in
    stop_came g.T.TakesTasks.does c.args.topology.now before (lines_of true bytes) (whole_lines bytes) (unfinished bytes) [] c.end_line.new.to e reads.1.1 came.0 came.1

pub returns-in-GoesOn-clause-came : goal.returns-in-GoesOn-clause-came
returns-in-GoesOn-clause-came g c = λ before bytes reads.
    let e = one_last bytes c.args.line.now reads.0 (sym c.is_empty.ensures ∙ c.if-is_empty.false) in
    let came = rw c.in-GoesOn.is at (c.end_line.ensures.came before (whole_lines bytes) (unfinished bytes) reads.0 reads.1) in
    rw e (all_came g.T.TakesTasks.does c.args.topology.now before _ c.end_line.new.clerk c.end_line.new.to came)
