use Rattle.std.proofs.Common.{IfSome, length, subst, arith}
use Rattle.map_model.specs.Market.{Market}
use Rattle.best_check.specs.Tables.{IsEntry, IsRanked}
use Rattle.best_check.proofs.Nexts.{above_from, above_ranked, either_ranked, keys_of, next_none, next_some, nobody_waits}
use Rattle.best_check.proofs.table.next_at.Goals as goal

pub returns-in-Some-clause-offer : goal.returns-in-Some-clause-offer
returns-in-Some-clause-offer c =
    let m : Market = c.args.instance.now in
    either_ranked m c.in-Some.ranked c.entry_above-above.result c.better.result
    (subst (λ e. IfSome e (λ o. IsRanked m o)) c.in-Some.is (c.requires.offers c.args.node.0 (omega (arith, c.requires.node, c.requires.size))))
    (above_ranked m c.args.node.0 c.args.nexts.now c.entry_above-above.result c.requires.nexts c.requires.above c.entry_above-above.ensures) c.better.ensures.either

pub returns-in-Some-clause-next : goal.returns-in-Some-clause-next
returns-in-Some-clause-next c = λ lines whole nexts.
    let m : Market = c.args.instance.now in
    let above = above_ranked m c.args.node.0 c.args.nexts.now c.entry_above-above.result c.requires.nexts c.requires.above c.entry_above-above.ensures in
    let here : IsRanked m c.in-Some.ranked = subst (λ e. IfSome e (λ o. IsRanked m o)) c.in-Some.is (c.requires.offers c.args.node.0 (omega (arith, c.requires.node, c.requires.size))) in
    next_some m c.nodes-count.ensures.market lines whole.right c.args.node.0 c.requires.node c.entry_above-above.result c.in-Some.ranked c.better.result
    (subst (λ e. IsEntry m lines (length m.groups) 0 c.args.node.0 e) c.in-Some.is (whole.best.entries c.args.node.0 c.requires.node))
    (above_from m lines c.args.node.0 c.args.nexts.now c.entry_above-above.result nexts c.requires.above c.entry_above-above.ensures) c.better.ensures.either
    (either_ranked m c.in-Some.ranked c.entry_above-above.result c.better.result here above c.better.ensures.either).key (keys_of m c.entry_above-above.result above) c.better.ensures.best c.better.ensures.of_both

pub returns-in-None-clause-offer : goal.returns-in-None-clause-offer
returns-in-None-clause-offer c = above_ranked c.args.instance.now c.args.node.0 c.args.nexts.now c.entry_above-above.result c.requires.nexts c.requires.above c.entry_above-above.ensures

pub returns-in-None-clause-next : goal.returns-in-None-clause-next
returns-in-None-clause-next c = λ lines whole nexts.
    let m : Market = c.args.instance.now in
    next_none m c.nodes-count.ensures.market lines whole.right c.args.node.0 c.requires.node c.entry_above-above.result
    (nobody_waits m lines c.args.node.0 (subst (λ e. IsEntry m lines (length m.groups) 0 c.args.node.0 e) c.in-None.is (whole.best.entries c.args.node.0 c.requires.node)))
    (above_from m lines c.args.node.0 c.args.nexts.now c.entry_above-above.result nexts c.requires.above c.entry_above-above.ensures)
