use Rattle.std.proofs.Common.{sym, ◌∙◌, arith}
use Rattle.demand_feed.proofs.Digits.{number_small}
use Rattle.demand_feed.proofs.line.read_number.Goals as goal

pub returns-in-None : goal.returns-in-None
returns-in-None c = absurd (omega (arith, number_small c.args.word.now (sym c.is_number.ensures ∙ c.if-not-is_number.false), c.in-None.ensures))
