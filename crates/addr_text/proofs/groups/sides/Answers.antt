use Rattle.std.proofs.Common.{sym, ap, ◌∙◌}
use Rattle.addr_text.specs.Groups.{begins_double, sides}
use Rattle.addr_text.proofs.Sides.{sides_here, sides_on}
use Rattle.addr_text.proofs.groups.sides.Goals as goal

pub returns-then-begins_double : goal.returns-then-begins_double
returns-then-begins_double c =
    let there = sides_here c.args.text.now c.loop-i.i (sides c.args.text.now) c.loop-i-test.true (ap begins_double (sym c.after-rest.ensures) ∙ sym c.begins_double.ensures ∙ c.if-begins_double.true) c.loop-i.invariant in cc

pub loop-i-preserved : goal.loop-i-preserved
loop-i-preserved c =
    sides_on c.args.text.now c.loop-i.i (sides c.args.text.now) c.loop-i-test.true (ap begins_double (sym c.after-rest.ensures) ∙ sym c.begins_double.ensures ∙ c.if-begins_double.false) c.loop-i.invariant
