use Rattle.std.proofs.Common.{◌<◌, length, arith}
use Rattle.map_model.specs.Market.{Market}
use Rattle.map_model.specs.Allocation.{placed}
use Rattle.evict.proofs.Settled.{small_demand}
use Rattle.best_laws.proofs.Sums.{sum_more}
use Rattle.mapper.proofs.adding.placed_sum.Goals as goal

pub overflow_add-sum : goal.overflow_add-sum
overflow_add-sum c =
    let m : Market = c.args.instance.now in
    let g = c.loop-g.g in
    let there : g < length m.groups = omega (arith, c.loop-g-test.true, c.groups-g-end.ensures.count) in
    omega (arith, c.loop-g.invariant.small, c.placed-sum.ensures, c.requires.resumable.totals g there, small_demand m c.requires.market g there, c.requires.market.few_groups, c.loop-g-test.true, c.groups-g-end.ensures.count)

pub loop-g-preserved : goal.loop-g-preserved
loop-g-preserved c =
    let m : Market = c.args.instance.now in
    let g = c.loop-g.g in
    let there : g < length m.groups = omega (arith, c.loop-g-test.true, c.groups-g-end.ensures.count) in
    record {
      so_far = omega (arith, c.loop-g.invariant.so_far, c.placed-sum.ensures, sum_more (λ k. placed c.args.state.now.lines k) g);
      small = omega (arith, c.loop-g.invariant.small, c.placed-sum.ensures, c.requires.resumable.totals g there, small_demand m c.requires.market g there);
    }
