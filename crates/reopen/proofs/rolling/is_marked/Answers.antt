use Rattle.std.proofs.Common.{◌≡◌, false, slice_index_or, sym, ap, ◌∙◌, arith}
use Rattle.map_model.specs.declared.instance.NodeId.{NodeId}
use Rattle.map_model.specs.Market.{Market, pool_of}
use Rattle.map_model.specs.Progress.{root_of, tree_of}
use Rattle.map_model.proofs.Shapes.{root_of-shape}
use Rattle.map_model.proofs.Paths.{pool_there}
use Rattle.map_model.proofs.Roots.{root-there}
use Rattle.reopen.proofs.rolling.is_marked.Goals as goal

pub bounds-marks-root : goal.bounds-marks-root
bounds-marks-root c =
    let m : Market = c.args.instance.now in
    let o = c.args.offer in
    let at : c.root.result.0 ≡ tree_of m o.group.0 o.place = c.root.ensures ∙ sym (root_of-shape c.args.state.now.market m c.requires.can.shape c.pool_at-pool.result.0) ∙ ap (λ (p : NodeId). root_of m p.0) c.pool_at-pool.ensures in
    omega (arith, at, c.requires.size, root-there m c.requires.can.market (pool_of m o.group.0 o.place) (pool_there m c.requires.can.market o.group.0 o.place c.requires.offer))

pub returns : goal.returns
returns c =
    let m : Market = c.args.instance.now in
    let o = c.args.offer in
    let at : c.root.result.0 ≡ tree_of m o.group.0 o.place = c.root.ensures ∙ sym (root_of-shape c.args.state.now.market m c.requires.can.shape c.pool_at-pool.result.0) ∙ ap (λ (p : NodeId). root_of m p.0) c.pool_at-pool.ensures in
    ap (λ r. slice_index_or c.args.marks.now r false) at
