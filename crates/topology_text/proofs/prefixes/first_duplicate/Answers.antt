use Rattle.topology_text.proofs.Twice.{noted_here, noted_on}
use Rattle.topology_text.proofs.prefixes.first_duplicate.Goals as goal

pub loop-i-preserved : goal.loop-i-preserved
loop-i-preserved c =
    noted_on c.args.prefixes.now c.loop-i.i _ c.loop-i.seen.keys _ c.in_ok-is_new.is_new c.loop-i.invariant c.loop-i-test.true c.in_ok-is_new.ensures.added c.if-not-is_new.false c.in_ok-is_new.ensures.keys

pub returns-then-not-is_new : goal.returns-then-not-is_new
returns-then-not-is_new c =
    noted_here c.args.prefixes.now c.loop-i.i _ c.loop-i.seen.keys c.in_ok-is_new.is_new _ c.loop-i.invariant c.loop-i-test.true c.in_ok-is_new.ensures.added c.if-not-is_new.true c.place_of.ensures
