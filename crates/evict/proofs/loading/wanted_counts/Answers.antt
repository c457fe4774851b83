use Rattle.std.proofs.Common.{slice_index, sym, subst, arith}
use Rattle.evict.specs.Standing.{IsPastWanted}
use Rattle.evict.proofs.OfMap.{each_push}
use Rattle.evict.proofs.loading.wanted_counts.Goals as goal

pub loop-g-preserved : goal.loop-g-preserved
loop-g-preserved c = record {
  count = grind (arith, c.in_ok-push.ensures.len, c.in_ok-push.ensures.items, c.loop-g.invariant.count);
  each = λ k l. subst (λ xs. IsPastWanted c.args.instance.now c.args.held.now.lines k (slice_index xs k)) (sym c.in_ok-push.ensures.items)
      (each_push (λ h p. IsPastWanted c.args.instance.now c.args.held.now.lines h p) c.loop-g.counts.items c.wanted_count.result c.loop-g.g c.loop-g.invariant.count c.loop-g.invariant.each c.wanted_count.ensures k l);
}
