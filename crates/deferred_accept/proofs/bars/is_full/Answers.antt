use Rattle.std.proofs.Common.{◌==◌, sym, ap, ◌∙◌}
use Rattle.map_model.specs.Market.{Market}
use Rattle.map_model.specs.Allocation.{load}
use Rattle.evict.proofs.Shaped.{load-shape}
use Rattle.deferred_accept.proofs.bars.is_full.Goals as goal

pub returns : goal.returns
returns c =
    let m : Market = c.args.instance.now in
    ap (λ x. x == c.capacity.result) (c.load.ensures ∙ sym (load-shape c.args.state.now.market m c.requires.ready.shape c.args.state.now.lines c.args.at.0)) ∙ ap (λ x. load m c.args.state.now.lines c.args.at.0 == x) c.capacity.ensures
