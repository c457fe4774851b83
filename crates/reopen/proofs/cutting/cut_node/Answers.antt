use Rattle.std.proofs.Common.{◌≡◌, ◌<◌, if◌then◌else◌, refl, arith}
use Rattle.map_model.specs.Market.{Market, capacity_of}
use Rattle.map_model.specs.Allocation.{counts_at, load}
use Rattle.evict.proofs.Shaped.{IsWorst-shape, load-shape}
use Rattle.reopen.specs.Cutting.{CanCut}
use Rattle.reopen.proofs.Lessening.{can_less, less_released, less_trans, sums_released, sums_trans, too_full}
use Rattle.reopen.proofs.Turning.{turned_release}
use Rattle.reopen.proofs.cutting.cut_node.Goals as goal

pub loop-node-smaller : goal.loop-node-smaller
loop-node-smaller c =
    let m : Market = c.args.instance.now in
    let s = c.loop-node.state in
    let can : CanCut m s = can_less m c.args.state.now s c.requires.can c.loop-node.invariant.less in
    let o = c.in-Some.offer in
    let w = IsWorst-shape s.market m can.shape s.lines c.args.node.0 o.group.0 o.place c.in-Some.held c.in-Some.ensures in
    let same : load m s.lines c.args.node.0 ≡ load s.market s.lines c.args.node.0 = load-shape s.market m can.shape s.lines c.args.node.0 in
    let taken = c.release.ensures.lines (counts_at m c.args.node.0) in
    let all : (if counts_at m c.args.node.0 o.group.0 o.place then c.min.result else 0) ≡ c.min.result = rw w.under refl in
    omega (arith, taken, all, same, w.some)

pub loop-node-preserved : goal.loop-node-preserved
loop-node-preserved c =
    let m : Market = c.args.instance.now in
    let s = c.loop-node.state in
    let can : CanCut m s = can_less m c.args.state.now s c.requires.can c.loop-node.invariant.less in
    let o = c.in-Some.offer in
    let w = IsWorst-shape s.market m can.shape s.lines c.args.node.0 o.group.0 o.place c.in-Some.held c.in-Some.ensures in
    let same : load m s.lines c.args.node.0 ≡ load s.market s.lines c.args.node.0 = load-shape s.market m can.shape s.lines c.args.node.0 in
    let over : capacity_of m c.args.node.0 < load m s.lines c.args.node.0 = omega (arith, same) in
    record {
      less = less_trans m c.args.state.now s c.release.new.self c.loop-node.invariant.less
          (less_released m s c.release.new.self o.group.0 o.place c.min.result can c.release.ensures w.offer (too_full m can.market s.lines c.args.node.0 o.group.0 o.place c.min.result c.requires.node w.offer w.under over));
      sums = sums_trans c.args.state.now s c.release.new.self c.loop-node.invariant.less.count c.loop-node.invariant.sums (sums_released s c.release.new.self o.group.0 o.place c.min.result c.release.ensures (omega (arith, can.count, w.offer.group)));
      turned = λ all before. turned_release m can.market all s.lines c.release.new.self.lines c.args.node.0 o.group.0 o.place c.in-Some.held c.min.result c.requires.node w c.release.ensures.lines (omega (arith, same, over)) (c.loop-node.invariant.turned all before);
    }

pub returns-clause-fits : goal.returns-clause-fits
returns-clause-fits c =
    let m : Market = c.args.instance.now in
    let s = c.loop-node.state in
    let can : CanCut m s = can_less m c.args.state.now s c.requires.can c.loop-node.invariant.less in
    let same : load m s.lines c.args.node.0 ≡ load s.market s.lines c.args.node.0 = load-shape s.market m can.shape s.lines c.args.node.0 in
    omega (arith, same)
