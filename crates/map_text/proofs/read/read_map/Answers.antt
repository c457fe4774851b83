use Rattle.std.proofs.Common.{ap, ◌∙◌, arith, rules}
use Rattle.std.proofs.lemmas.Result.{err_from_is_err_and}
use Rattle.map_text.specs.Reading.{SoFar}
use Rattle.map_text.specs.Reader.{kept}
use Rattle.map_text.proofs.Readings.{read_all, read_fault, read_last, read_more, read_text}
use Rattle.map_text.proofs.Forms.{form_more, form_next, form_none}
use Rattle.map_text.proofs.read.read_map.Goals as goal

pub lines-init : goal.lines-init
lines-init c = record {
  reading = ap (λ b. read_text c.args.topology.now b c.args.text.now) c.new-reader.ensures ∙ read_all c.args.topology.now c.args.text.now;
  form = form_none c.args.topology.now.market (kept c.new-reader.result) c.new-reader.ensures;
  count = omega (arith, ap (λ (b : SoFar). b.count) c.new-reader.ensures);
}

pub returns-in_err-take-clause-read : goal.returns-in_err-take-clause-read
returns-in_err-take-clause-read c =
    let p = err_from_is_err_and c.from_residual.result c.from_residual.ensures.1 in
    rw (p.1, p.2) (λ other. read_fault c.args.topology.now (kept c.lines.reader) c.lines.rest.now c.in-Some.line.now c.in-Some.behind.now c.read_line.result _ _ c.lines.invariant.reading c.in-Some.ensures.parts c.read_line.ensures.value (c.in_err-take.ensures other))

pub lines-preserved : goal.lines-preserved
lines-preserved c =
    let t = c.args.topology.now in
    let none = c.in_ok-take.ensures.0 in
    let next = c.in_ok-take.ensures.1 in
    record {
      reading = read_more t (kept c.lines.reader) (kept c.take.new.self) c.lines.rest.now c.in-Some.line.now c.in-Some.behind.now c.read_line.result _ c.lines.invariant.reading c.in-Some.ensures.parts c.read_line.ensures.value none next;
      form = form_next t.market (kept c.lines.reader) (kept c.take.new.self) c.read_line.result next (form_more t.market (kept c.lines.reader) c.read_line.result c.lines.invariant.form c.read_line.ensures.range none);
      count = omega (arith, ap (λ (b : SoFar). b.count) next, c.in-Some.ensures.shorter, c.lines.invariant.count);
    }

pub returns-then-is_empty-clause-read : goal.returns-then-is_empty-clause-read
returns-then-is_empty-clause-read c =
    let last = read_last c.args.topology.now (kept c.lines.reader) c.lines.rest.now c.args.text.now c.lines.invariant.reading c.in_default.ensures.parts in
    search (rules, last)

pub returns-else-reader-clause-read : goal.returns-else-reader-clause-read
returns-else-reader-clause-read c = λ _.
    let last = read_last c.args.topology.now (kept c.lines.reader) c.lines.rest.now c.args.text.now c.lines.invariant.reading c.in_default.ensures.parts in
    search (rules, last)
