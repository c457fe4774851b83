use Rattle.std.proofs.Common.{sym, ◌∙◌}
use Rattle.std.proofs.lemmas.Bool.{eqb-true, eq-eqb, false≢true}
use Rattle.map_model.specs.Market.{Market, capacity_of}
use Rattle.map_model.specs.Allocation.{load}
use Rattle.best_check.specs.Fullness.{FirstFull}
use Rattle.best_check.proofs.Above.{from_above}
use Rattle.best_check.proofs.Fullness.{full_above, full_here}
use Rattle.best_check.proofs.nearest.nearest_at.Goals as goal

pub returns-then-is_full : goal.returns-then-is_full
returns-then-is_full c =
    let m : Market = c.args.instance.now in
    full_here m c.requires.ready.market c.args.state.now.lines c.args.node.0 c.requires.node (eqb-true (load m c.args.state.now.lines c.args.node.0) (capacity_of m c.args.node.0) (sym c.is_full.ensures ∙ c.if-is_full.true))

pub returns-else-is_full : goal.returns-else-is_full
returns-else-is_full c =
    let m : Market = c.args.instance.now in
    full_above m c.requires.ready.market c.args.state.now.lines c.args.node.0 c.requires.node
    (λ e. false≢true (sym c.if-is_full.false ∙ c.is_full.ensures ∙ eq-eqb (load m c.args.state.now.lines c.args.node.0) (capacity_of m c.args.node.0) e)) c.entry_above.result
    (from_above m c.args.node.0 (FirstFull m c.args.state.now.lines) c.args.nearest.now c.entry_above.result c.requires.nearest c.requires.above c.entry_above.ensures)
