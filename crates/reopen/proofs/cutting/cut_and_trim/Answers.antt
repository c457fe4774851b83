use Rattle.std.proofs.Common.{arith, ◌∙◌}
use Rattle.reopen.proofs.Lessening.{less_trans}
use Rattle.reopen.proofs.cutting.cut_and_trim.Goals as goal

pub returns : goal.returns
returns c = record {
  less = less_trans c.args.instance.now c.args.state.now c.trim.new.state c.cut.new.state c.trim.ensures.less c.cut.ensures.less;
  capacities = c.cut.ensures.fits;
  trimmed = (c.trim.new.state.lines, c.trim.ensures.trimmed, record { fewer = c.cut.ensures.less.fewer; still = c.cut.ensures.less.still; turned = c.cut.ensures.turned });
  totals = λ g l. c.cut.ensures.sums g (omega (arith, c.trim.ensures.less.count, c.requires.count)) ∙ c.trim.ensures.totals g l;
}
