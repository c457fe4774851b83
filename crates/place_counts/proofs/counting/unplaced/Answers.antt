use Rattle.std.proofs.Common.{◌≡◌, ◌-◌, ◌<◌, length, arith}
use Rattle.map_model.specs.Market.{Market, demand_of}
use Rattle.map_model.specs.Allocation.{placed}
use Rattle.evict.proofs.Settled.{small_demand}
use Rattle.best_laws.proofs.Sums.{sum_more}
use Rattle.place_counts.proofs.counting.unplaced.Goals as goal

pub loop-g-preserved : goal.loop-g-preserved
loop-g-preserved c =
    let m : Market = c.args.instance.now in
    let lines = c.args.state.now.lines in
    let g = c.loop-g.g in
    let there : g < length m.groups = omega (arith, c.loop-g-test.true, c.groups-g-end.ensures.count) in
    let free : c.free-sum.result ≡ demand_of m g - placed lines g = omega (arith, c.free-sum.ensures, c.requires.resumable.totals g there) in
    record {
      so_far = omega (arith, c.loop-g.invariant.so_far, free, sum_more (λ k. demand_of m k - placed lines k) g);
      small = omega (arith, c.loop-g.invariant.small, free, small_demand m c.requires.market g there);
    }
