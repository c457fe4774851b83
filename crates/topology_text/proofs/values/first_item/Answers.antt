use Rattle.std.proofs.Common.{sym, ap, ◌∙◌, ◌≡◌, true, false, get_or}
use Rattle.toml.specs.View.{view}
use Rattle.toml.specs.declared.value.Value.{Value}
use Rattle.topology_text.proofs.Walks.{items_on, items_here}
use Rattle.topology_text.proofs.values.first_item.Goals as goal

pub loop-i-preserved : goal.loop-i-preserved
loop-i-preserved g c =
    let test = g.T.Test.fails c.args.test.now c.args.key in
    let good : test (view (get_or c.args.items.now c.loop-i.i c.index-items-i.result)) ≡ false = ap (λ (v : Value). test (view v)) (sym c.index-items-i.is) ∙ sym c.is_bad.ensures ∙ c.if-is_bad.false in
    sym (items_on test c.args.items.now c.loop-i.i c.index-items-i.result c.loop-i-test.true good) ∙ c.loop-i.invariant

pub returns-then-is_bad : goal.returns-then-is_bad
returns-then-is_bad g c =
    let test = g.T.Test.fails c.args.test.now c.args.key in
    let bad : test (view (get_or c.args.items.now c.loop-i.i c.index-items-i.result)) ≡ true = ap (λ (v : Value). test (view v)) (sym c.index-items-i.is) ∙ sym c.is_bad.ensures ∙ c.if-is_bad.true in
    sym (items_here test c.args.items.now c.loop-i.i c.index-items-i.result c.loop-i-test.true bad) ∙ c.loop-i.invariant
