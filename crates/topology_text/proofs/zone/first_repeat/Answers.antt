use Rattle.std.proofs.Common.{sym, ap, ◌∙◌, Ok}
use Rattle.topology_text.proofs.Repeats.{seen_here_view, seen_on_view}
use Rattle.topology_text.proofs.zone.first_repeat.Goals as goal

pub loop-i-preserved : goal.loop-i-preserved
loop-i-preserved c =
    seen_on_view c.args.key c.args.items.now c.loop-i.i c.index-items-i.result _ _ c.name_in.result c.loop-i.invariant c.loop-i-test.true c.index-items-i.is c.name_in.ensures
    (sym c.if-branch.false ∙ c.in_ok-is_repeat.ensures.found)
    (c.is_repeat.ensures.noted (c.in_ok-is_repeat.was ∙ ap Ok c.if-branch.false))

pub returns-then-branch : goal.returns-then-branch
returns-then-branch c =
    seen_here_view c.args.key c.args.items.now c.loop-i.i c.index-items-i.result _ c.name_in.result c.loop-i.invariant c.loop-i-test.true c.index-items-i.is c.name_in.ensures
    (sym c.if-branch.true ∙ c.in_ok-is_repeat.ensures.found)
