use Rattle.std.proofs.Common.{arith}
use Rattle.prefix_lookup.proofs.Halves.{lower, upper}
use Rattle.prefix_lookup.proofs.ranges.last_up_to.Goals as goal

pub loop-size-preserved-then-at-number : goal.loop-size-preserved-then-at-number
loop-size-preserved-then-at-number g c =
    upper (g.S.Starts.starts c.args.starts.now) c.args.number (g.T.Tally.told c.args.tally.now) c.loop-size.low c.loop-size.size (g.T.Tally.told c.loop-size.tally) (g.T.Tally.told c.compared.new.self) (omega arith) c.compared.ensures.risen c.compared.ensures.once (omega (arith, c.at.ensures, c.if-at-number.true)) c.loop-size.invariant

pub loop-size-preserved : goal.loop-size-preserved
loop-size-preserved g c =
    lower (g.S.Starts.starts c.args.starts.now) c.args.number (g.T.Tally.told c.args.tally.now) c.loop-size.low c.loop-size.size (g.T.Tally.told c.loop-size.tally) (g.T.Tally.told c.compared.new.self) (omega arith) c.compared.ensures.risen c.compared.ensures.once (omega (arith, c.at.ensures, c.if-at-number.false)) c.loop-size.invariant
