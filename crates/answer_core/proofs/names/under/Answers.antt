use Rattle.std.proofs.Common.{◌≡◌, ◌∙◌, ◌+◌, ◌-◌, ◌<◌, length, ap, arith, sym}
use Rattle.std.proofs.lemmas.Bool.{ne_eqb}
use Rattle.std.proofs.lemmas.List.{take_rest}
use Rattle.name_text.proofs.Forms.{some_wire}
use Rattle.answer_core.proofs.Compared.{at_end, one_label, too_far, too_short}
use Rattle.answer_core.proofs.names.under.Goals as goal

pub returns-then-name-apex : goal.returns-then-name-apex
returns-then-name-apex c = sym (too_short c.args.name.now c.args.apex.now (omega (arith, c.if-name-apex.true)))

pub loop-at-preserved : goal.loop-at-preserved
loop-at-preserved c = rw c.from.ensures (one_label c.args.name.now c.args.apex.now c.loop-at.at _ (omega (arith, c.loop-at-test.true, c.if-name-apex.false)) c.loop-at.invariant)

pub returns-then-at-end : goal.returns-then-at-end
returns-then-at-end c =
    let same = c.same_name.ensures in
    let end : c.loop-at.at + length c.args.apex.now ≡ length c.args.name.now = omega (arith, c.if-at-end.true, c.if-name-apex.false) in
    let some : 0 < length c.args.apex.now = omega (arith, some_wire c.requires.labels, ap length c.requires.spelled) in
    (rw take_rest at same) ∙ at_end c.args.name.now c.args.apex.now (length c.args.name.now - length c.args.apex.now) _ (omega (arith, end)) some (rw (sym c.if-at-end.true) c.loop-at.invariant)

pub returns-else-at-end : goal.returns-else-at-end
returns-else-at-end c =
    let some : 0 < length c.args.apex.now = omega (arith, some_wire c.requires.labels, ap length c.requires.spelled) in
    ne_eqb _ _ (λ e. omega (arith, e, c.if-at-end.false))
    ∙ too_far c.args.name.now c.args.apex.now c.loop-at.at _ (omega (arith, c.loop-at-test.false, c.if-at-end.false, c.if-name-apex.false)) some c.loop-at.invariant
