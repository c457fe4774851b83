use Rattle.std.proofs.Common.{◌==◌, ap, sym, ◌∙◌}
use Rattle.map_model.specs.Allocation.{load}
use Rattle.evict.proofs.Shaped.{load-shape}
use Rattle.mapper.proofs.adding.is_full.Goals as goal

pub returns : goal.returns
returns c =
    let m = c.args.instance.now in
    let s = c.args.state.now in
    let n = c.args.node.0 in
    ap (λ l. l == c.capacity.result) (c.load.ensures ∙ sym (load-shape s.market m c.requires.ready.shape s.lines n)) ∙ ap (λ k. load m s.lines n == k) c.capacity.ensures
