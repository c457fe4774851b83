use Rattle.std.proofs.Common.{Some, ◌∙◌, sym, ap, arith}
use Rattle.std.proofs.lemmas.Bool.{ltb-false, ltb-true}
use Rattle.std.proofs.lemmas.Option.{slice_get-get_or}
use Rattle.topology_text.proofs.Rows.{limit_none, limit_some}
use Rattle.topology_text.proofs.build.limit_in.Goals as goal

pub overflow_cast-result : goal.overflow_cast-result
overflow_cast-result c =
    let there = slice_get-get_or c.args.limits.now c.args.place c.in-Some.limit.now (ltb-true _ _ (sym c.in-Some.ensures.lookup.0)) ∙ ap Some (sym c.in-Some.ensures.lookup.1) in
    let p = limit_some c.args.limits.now c.args.place c.in-Some.limit.now there c.requires in
    omega (arith, p.0, c.natural.ensures)

pub returns-in-Some : goal.returns-in-Some
returns-in-Some c =
    let there = slice_get-get_or c.args.limits.now c.args.place c.in-Some.limit.now (ltb-true _ _ (sym c.in-Some.ensures.lookup.0)) ∙ ap Some (sym c.in-Some.ensures.lookup.1) in
    c.natural.ensures ∙ (limit_some c.args.limits.now c.args.place c.in-Some.limit.now there c.requires).1

pub returns-in-None : goal.returns-in-None
returns-in-None c = limit_none c.args.limits.now c.args.place (ltb-false _ _ (sym c.in-None.ensures.lookup.0))
