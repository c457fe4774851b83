use Rattle.std.proofs.Common.{sym, ap, ◌∙◌, arith, true}
use Rattle.map_model.specs.declared.change.Change.{Change}
use Rattle.std.specs.Prelude.{List}
use Rattle.demand_feed.specs.Changes.{changes_behind}
use Rattle.demand_feed.specs.Lines.{lines_of}
use Rattle.demand_feed.proofs.FileLines.{batch_none, breaks_last, breaks_off, changes_are, ends_whole, ends_with, goes_on}
use Rattle.demand_feed.proofs.FileLaws.{answered}
use Rattle.demand_feed.proofs.changes.read_changes.Goals as goal

pub lines-init : goal.lines-init
lines-init c =
    let t = c.args.topology.now in
    let text = c.args.text.now in
    record {
      reading = changes_are t text ∙ ap (λ (changes : List Change). changes_behind t 0 (lines_of true text) changes) (sym c.in_ok-batch.ensures);
      batch = rw c.in_ok-batch.ensures (batch_none t.market);
      number = omega arith;
    }

pub returns-in-Err-clause-read : goal.returns-in-Err-clause-read
returns-in-Err-clause-read c = λ _.
    breaks_off c.args.topology.now c.lines.number c.lines.rest.now c.in-Some.line.now c.in-Some.behind.now c.lines.batch c.in-Err.why _ c.lines.invariant.reading c.in-Some.ensures.parts c.in-Err.ensures.taken

pub lines-preserved : goal.lines-preserved
lines-preserved c = record {
  reading = goes_on c.args.topology.now c.lines.number c.lines.rest.now c.in-Some.line.now c.in-Some.behind.now c.lines.batch c.take_line.new.batch _ c.lines.invariant.reading c.in-Some.ensures.parts c.in-Ok.ensures.taken;
  batch = c.take_line.ensures.kept c.lines.invariant.batch;
  number = omega (arith, c.lines.invariant.number, c.in-Some.ensures.shorter);
}

pub returns-then-is_empty-clause-read : goal.returns-then-is_empty-clause-read
returns-then-is_empty-clause-read c =
    ends_whole c.args.topology.now c.lines.number c.lines.rest.now c.lines.batch _ c.lines.invariant.reading c.in_default.ensures.parts (sym c.is_empty.ensures ∙ c.if-is_empty.true)

pub returns-in-Ok-take_line-clause-read : goal.returns-in-Ok-take_line-clause-read
returns-in-Ok-take_line-clause-read c =
    ends_with c.args.topology.now c.lines.number c.lines.rest.now c.lines.batch c.take_line-2.new.batch _ c.lines.invariant.reading c.in_default.ensures.parts (sym c.is_empty.ensures ∙ c.if-is_empty.false) c.in-Ok-take_line.ensures.taken

pub returns-in-Err-take_line-clause-read : goal.returns-in-Err-take_line-clause-read
returns-in-Err-take_line-clause-read c = λ _.
    breaks_last c.args.topology.now c.lines.number c.lines.rest.now c.lines.batch c.in-Err-take_line.why _ c.lines.invariant.reading c.in_default.ensures.parts (sym c.is_empty.ensures ∙ c.if-is_empty.false) c.in-Err-take_line.ensures.taken

pub returns-in-Err-clause-plain : goal.returns-in-Err-clause-plain
returns-in-Err-clause-plain c = λ e. answered c.args.topology.now c.args.text.now _ (returns-in-Err-clause-read c e)

pub returns-then-is_empty-clause-plain : goal.returns-then-is_empty-clause-plain
returns-then-is_empty-clause-plain c = answered c.args.topology.now c.args.text.now _ (returns-then-is_empty-clause-read c)

pub returns-in-Ok-take_line-clause-plain : goal.returns-in-Ok-take_line-clause-plain
returns-in-Ok-take_line-clause-plain c = answered c.args.topology.now c.args.text.now _ (returns-in-Ok-take_line-clause-read c)

pub returns-in-Err-take_line-clause-plain : goal.returns-in-Err-take_line-clause-plain
returns-in-Err-take_line-clause-plain c = λ e. answered c.args.topology.now c.args.text.now _ (returns-in-Err-take_line-clause-read c e)
