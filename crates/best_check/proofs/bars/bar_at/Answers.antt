use Rattle.std.proofs.Common.{IfSome}
use Rattle.map_model.specs.declared.instance.Key.{Key}
use Rattle.map_model.specs.Market.{Market}
use Rattle.best_check.specs.Open.{IsBar}
use Rattle.best_check.proofs.Above.{from_above}
use Rattle.best_check.proofs.Barred.{bar_below, bar_either}
use Rattle.best_check.proofs.bars.bar_at.Goals as goal

pub returns : goal.returns
returns c =
    let m : Market = c.args.instance.now in
    let lines = c.args.state.now.lines in
    bar_either m lines c.args.node.0 c.bar_of.result c.entry_above.result c.first_of.result c.bar_of.ensures
    (bar_below m c.requires.open.market lines c.args.node.0 c.requires.node c.entry_above.result
    (from_above m c.args.node.0 (λ p bar. IfSome bar (λ (b : Key). IsBar m lines p b)) c.args.bars.now c.entry_above.result c.requires.bars c.requires.above c.entry_above.ensures)) c.first_of.ensures
