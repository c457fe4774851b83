use Rattle.std.proofs.Common.{sym, ◌∙◌}
use Rattle.map_model.specs.Market.{Market}
use Rattle.deferred_accept.proofs.Barred.{bar_here, bar_up}
use Rattle.deferred_accept.proofs.bars.bar_at.Goals as goal

pub returns-then-is_full : goal.returns-then-is_full
returns-then-is_full c =
    let m : Market = c.args.instance.now in
    bar_here m c.args.state.now.lines c.args.node.0 c.refused_from-key.result (sym c.is_full.ensures ∙ c.if-is_full.true) c.refused_from-key.ensures

pub returns-else-is_full : goal.returns-else-is_full
returns-else-is_full c =
    let m : Market = c.args.instance.now in
    bar_up m c.requires.ready.market c.args.state.now.lines c.args.node.0 c.requires.node (sym c.is_full.ensures ∙ c.if-is_full.false) c.bar_above.result c.args.bars.now c.requires.bars c.requires.above c.bar_above.ensures
