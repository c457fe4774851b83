use Rattle.std.proofs.Common.{◌==◌, cond, arith}
use Rattle.map_model.specs.Market.{capacity_of}
use Rattle.map_model.specs.Allocation.{load}
use Rattle.best_laws.proofs.Sums.{sum_more}
use Rattle.mapper.proofs.Counted.{at_most_one}
use Rattle.mapper.proofs.adding.full_count.Goals as goal

pub loop-n-preserved : goal.loop-n-preserved
loop-n-preserved c =
    let m = c.args.instance.now in
    let lines = c.args.state.now.lines in
    let i = c.loop-n.invariant in
    let n = c.loop-n.n in
    record {
      so_far = omega (arith, i.so_far, c.full_at-count.ensures, sum_more (λ k. cond (load m lines k == capacity_of m k) 1 0) n);
      small = omega (arith, i.small, c.full_at-count.ensures, at_most_one (load m lines n == capacity_of m n));
    }
