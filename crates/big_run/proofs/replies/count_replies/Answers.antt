use Rattle.std.proofs.Common.{arith}
use Rattle.big_run.specs.Replies.{has_code}
use Rattle.mapper.proofs.Counted.{at_most_one}
use Rattle.big_run.proofs.Counted.{count_more}
use Rattle.big_run.proofs.replies.count_replies.Goals as goal

pub loop-group-preserved : goal.loop-group-preserved
loop-group-preserved g c =
    let v = c.args.mapper.now.newest in
    let i = c.loop-group.invariant in
    let n = c.loop-group.group in
    record {
      so_far = omega (arith, i.so_far, c.count_at-count.ensures, count_more (has_code v c.args.code) n);
      small = omega (arith, i.small, c.count_at-count.ensures, at_most_one (has_code v c.args.code n));
    }
