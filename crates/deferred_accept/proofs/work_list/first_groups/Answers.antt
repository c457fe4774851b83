use Rattle.std.proofs.Common.{arith}
use Rattle.deferred_accept.proofs.Listed.{first_more, there_more}
use Rattle.deferred_accept.proofs.work_list.first_groups.Goals as goal

pub loop-g-preserved : goal.loop-g-preserved
loop-g-preserved c =
    let groups = c.loop-g.groups.items in
    record {
      within = omega arith;
      there = rw c.in_ok-push_back.ensures.items (there_more groups c.loop-g.g c.loop-g.invariant.there);
      once = rw c.in_ok-push_back.ensures.items (first_more groups c.loop-g.g c.loop-g.invariant.there c.loop-g.invariant.once);
    }
