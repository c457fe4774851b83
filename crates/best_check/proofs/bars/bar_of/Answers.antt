use Rattle.std.proofs.Common.{◌≡◌, sym, ◌∙◌, subst}
use Rattle.std.proofs.lemmas.Bool.{eqb-true}
use Rattle.map_model.specs.declared.instance.Key.{Key}
use Rattle.map_model.specs.Market.{Market, capacity_of}
use Rattle.map_model.specs.Allocation.{load}
use Rattle.best_check.specs.Open.{IsBar}
use Rattle.best_check.proofs.Barred.{bar_first, bar_worst}
use Rattle.best_check.proofs.bars.bar_of.Goals as goal

pub returns-in-Some : goal.returns-in-Some
returns-in-Some c =
    let m : Market = c.args.instance.now in
    let full : load m c.args.state.now.lines c.args.node.0 ≡ capacity_of m c.args.node.0 = eqb-true (load m c.args.state.now.lines c.args.node.0) (capacity_of m c.args.node.0) (sym c.is_full.ensures ∙ c.if-not-is_full.false) in
    subst (λ (key : Key). IsBar m c.args.state.now.lines c.args.node.0 key) (sym c.key.ensures)
    (bar_worst c.args.state.now.market m c.requires.open.shape c.args.state.now.lines c.requires.open.form c.args.node.0 full c.in-Some.offer.group.0 c.in-Some.offer.place c.in-Some._units c.in-Some.ensures)

pub returns-in-None : goal.returns-in-None
returns-in-None c =
    let m : Market = c.args.instance.now in
    let full : load m c.args.state.now.lines c.args.node.0 ≡ capacity_of m c.args.node.0 = eqb-true (load m c.args.state.now.lines c.args.node.0) (capacity_of m c.args.node.0) (sym c.is_full.ensures ∙ c.if-not-is_full.false) in
    bar_first c.args.state.now.market m c.requires.open.shape c.args.state.now.lines c.requires.open.form c.args.node.0 full _ c.in-None.ensures
