use Rattle.std.proofs.Common.{arith}
use Rattle.reopen.proofs.Removing.{rolled_back, rolling_start, rolling_step}
use Rattle.reopen.proofs.rolling.roll_back.Goals as goal

pub loop-g-init : goal.loop-g-init
loop-g-init c = rolling_start c.args.instance.now c.args.reached.now c.args.state.now c.requires

pub loop-g-preserved : goal.loop-g-preserved
loop-g-preserved c = rolling_step c.args.instance.now c.args.reached.now c.loop-g.g c.args.state.now c.loop-g.state c.roll_back_group.new.state c.loop-g.invariant (omega (arith, c.loop-g-test.true, c.groups-g-end.ensures.count)) c.roll_back_group.ensures

pub returns : goal.returns
returns c = rolled_back c.args.instance.now c.args.reached.now c.loop-g.g c.args.state.now c.loop-g.state c.requires c.loop-g.invariant (omega (arith, c.loop-g-test.false, c.groups-g-end.ensures.count))
