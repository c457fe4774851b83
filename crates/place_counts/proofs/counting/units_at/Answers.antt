use Rattle.std.proofs.Common.{arith}
use Rattle.map_model.specs.Allocation.{amount_at}
use Rattle.best_laws.proofs.Sums.{sum_more}
use Rattle.place_counts.proofs.counting.units_at.Goals as goal

pub loop-g-preserved : goal.loop-g-preserved
loop-g-preserved c =
    let i = c.loop-g.invariant in
    record {
      so_far = omega (arith, i.so_far, c.units_of-sum.ensures.units, sum_more (λ g. amount_at c.args.state.now.lines g c.args.place) c.loop-g.g);
      small = omega (arith, i.small, c.units_of-sum.ensures.small);
    }
