use Rattle.std.proofs.Common.{◌≡◌, ◌<◌, true, false, Option, None, Some, length, subst, sym, ap, ◌∙◌}
use Rattle.std.specs.List.{find}
use Rattle.map_model.specs.declared.instance.Key.{Key}
use Rattle.map_model.specs.declared.instance.NodeId.{NodeId}
use Rattle.map_model.specs.Market.{Market, climb, key_of}
use Rattle.map_model.specs.Allocation.{is_full_of_better, key_le}
use Rattle.map_model.proofs.Paths.{pool_there}
use Rattle.deferred_accept.proofs.Barred.{IsBarFrom, bar_there, by_limit, by_node, from_table, refused_above, refused_here, refused_nowhere, up_lower, up_there, within_table}
use Rattle.deferred_accept.proofs.bars.refuser.Goals as goal

pub returns-then-is_at_limit : goal.returns-then-is_at_limit
returns-then-is_at_limit c = by_limit c.args.instance.now c.args.state.now.lines c.args.offer.group.0 c.args.offer.place (sym c.is_at_limit.ensures ∙ c.if-is_at_limit.true)

pub loop-bar-init : goal.loop-bar-init
loop-bar-init c =
    let m : Market = c.args.instance.now in
    let o = c.args.offer in
    record {
      there = subst (λ (x : Key). x.pool.0 < length m.nodes) (sym c.key-key.ensures) (pool_there m c.requires.ready.market o.group.0 o.place c.requires.offer);
      found = ap (λ (x : Key). find (λ n. is_full_of_better m c.args.state.now.lines n (key_of m o.group.0 o.place)) (climb 8 m (Some x.pool))) c.key-key.ensures;
    }

pub bar_from-requires : goal.bar_from-requires
bar_from-requires c = within_table c.args.instance.now c.args.state.now.lines c.args.bars.now c.requires.bars c.loop-bar.at c.loop-bar.invariant.there

pub returns-then-is_behind : goal.returns-then-is_behind
returns-then-is_behind c =
    let m : Market = c.args.instance.now in
    let lines = c.args.state.now.lines in
    let o = c.args.offer in
    let b = c.in-Some.bar in
    let from : IsBarFrom m lines c.loop-bar.at (Some b) = subst (IsBarFrom m lines c.loop-bar.at) c.in-Some.is (from_table m lines c.args.bars.now c.requires.bars c.loop-bar.at c.bar_from.result c.loop-bar.invariant.there c.bar_from.ensures) in
    let le : key_le b.key (key_of m o.group.0 o.place) ≡ true = ap (λ (x : Key). key_le b.key x) (sym c.key-key.ensures) ∙ sym c.is_behind.ensures ∙ c.if-is_behind.true in
    by_node m lines o.group.0 o.place (Some b.node.0) (sym c.is_at_limit.ensures ∙ c.if-is_at_limit.false) (refused_here m c.requires.ready.market lines (key_of m o.group.0 o.place) c.loop-bar.at c.loop-bar.invariant.there b from le ∙ c.loop-bar.invariant.found)

pub parent-at-requires : goal.parent-at-requires
parent-at-requires c =
    let m : Market = c.args.instance.now in
    let lines = c.args.state.now.lines in
    let o = c.args.offer in
    let b = c.in-Some.bar in
    let from : IsBarFrom m lines c.loop-bar.at (Some b) = subst (IsBarFrom m lines c.loop-bar.at) c.in-Some.is (from_table m lines c.args.bars.now c.requires.bars c.loop-bar.at c.bar_from.result c.loop-bar.invariant.there c.bar_from.ensures) in
    bar_there m c.requires.ready.market lines (key_of m o.group.0 o.place) c.loop-bar.at c.loop-bar.invariant.there b from

pub loop-bar-preserved : goal.loop-bar-preserved
loop-bar-preserved c =
    let m : Market = c.args.instance.now in
    let lines = c.args.state.now.lines in
    let o = c.args.offer in
    let b = c.in-Some.bar in
    let from : IsBarFrom m lines c.loop-bar.at (Some b) = subst (IsBarFrom m lines c.loop-bar.at) c.in-Some.is (from_table m lines c.args.bars.now c.requires.bars c.loop-bar.at c.bar_from.result c.loop-bar.invariant.there c.bar_from.ensures) in
    let better : key_le b.key (key_of m o.group.0 o.place) ≡ false = ap (λ (x : Key). key_le b.key x) (sym c.key-key.ensures) ∙ sym c.is_behind.ensures ∙ c.if-is_behind.false in
    record {
      there = up_there m c.requires.ready.market lines (key_of m o.group.0 o.place) c.loop-bar.at c.loop-bar.invariant.there b from c.parent-at.result c.parent-at.ensures;
      found = ap (λ (at : Option NodeId). find (λ n. is_full_of_better m lines n (key_of m o.group.0 o.place)) (climb 8 m at)) c.parent-at.ensures
          ∙ refused_above m c.requires.ready.market lines (key_of m o.group.0 o.place) c.loop-bar.at c.loop-bar.invariant.there b from better ∙ c.loop-bar.invariant.found;
    }

pub loop-bar-smaller : goal.loop-bar-smaller
loop-bar-smaller c =
    let m : Market = c.args.instance.now in
    let lines = c.args.state.now.lines in
    let o = c.args.offer in
    let b = c.in-Some.bar in
    let from : IsBarFrom m lines c.loop-bar.at (Some b) = subst (IsBarFrom m lines c.loop-bar.at) c.in-Some.is (from_table m lines c.args.bars.now c.requires.bars c.loop-bar.at c.bar_from.result c.loop-bar.invariant.there c.bar_from.ensures) in
    up_lower m c.requires.ready.market lines (key_of m o.group.0 o.place) c.loop-bar.at c.loop-bar.invariant.there b from c.parent-at.result c.parent-at.ensures

pub returns : goal.returns
returns c =
    let m : Market = c.args.instance.now in
    let lines = c.args.state.now.lines in
    let o = c.args.offer in
    let from : IsBarFrom m lines c.loop-bar.at None = subst (IsBarFrom m lines c.loop-bar.at) c.in_default.is (from_table m lines c.args.bars.now c.requires.bars c.loop-bar.at c.bar_from.result c.loop-bar.invariant.there c.bar_from.ensures) in
    by_node m lines o.group.0 o.place None (sym c.is_at_limit.ensures ∙ c.if-is_at_limit.false) (refused_nowhere m c.requires.ready.market lines (key_of m o.group.0 o.place) c.loop-bar.at c.loop-bar.invariant.there from ∙ c.loop-bar.invariant.found)
