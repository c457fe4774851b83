use Rattle.std.proofs.Common.{sym, ◌∙◌}
use Rattle.std.proofs.lemmas.List.{take_rest}
use Rattle.name_text.proofs.Rests.{by_labels, found, goes_on, past_all}
use Rattle.name_text.proofs.compare.under.Goals as goal

pub returns-then-same_name-clause-octets : goal.returns-then-same_name-clause-octets
returns-then-same_name-clause-octets c = let same = c.if-same_name.ensures in found c.args.name.now c.args.apex.now c.loop-at.at _ c.loop-at-test.true (sym (rw take_rest at same)) c.loop-at.invariant

pub returns-then-same_name-clause-labels : goal.returns-then-same_name-clause-labels
returns-then-same_name-clause-labels c labels is = returns-then-same_name-clause-octets c ∙ by_labels c.args.name.now c.args.apex.now labels is

pub loop-at-preserved : goal.loop-at-preserved
loop-at-preserved c =
    let other = c.if-same_name.ensures in
    rw c.from.ensures (goes_on c.args.name.now c.args.apex.now c.loop-at.at _ c.loop-at-test.true (sym (rw take_rest at other)) c.loop-at.invariant)

pub returns-clause-octets : goal.returns-clause-octets
returns-clause-octets c = past_all c.args.name.now c.args.apex.now c.loop-at.at _ c.loop-at-test.false c.loop-at.invariant

pub returns-clause-labels : goal.returns-clause-labels
returns-clause-labels c labels is = returns-clause-octets c ∙ by_labels c.args.name.now c.args.apex.now labels is
