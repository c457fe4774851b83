use Rattle.std.proofs.Common.{refl}
use Rattle.topology_text.proofs.UnitTable.{tabled_end, tabled_on}
use Rattle.topology_text.proofs.classes.table.Goals as goal

pub loop-i-preserved : goal.loop-i-preserved
loop-i-preserved c =
    tabled_on c.args.groups c.args.pairs.now c.loop-i.i (record { 0 = 0 }, 0) c.loop-i.units.items _ c.loop-i.invariant c.loop-i-test.true c.requires.owned c.requires.served c.requires.once refl

pub returns : goal.returns
returns c = tabled_end c.args.groups c.args.pairs.now c.loop-i.i c.loop-i.units.items c.loop-i.invariant c.loop-i-test.false c.requires.owned
