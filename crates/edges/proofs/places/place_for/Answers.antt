use Rattle.std.proofs.Common.{Some, None, refl, sym, arith, ◌∙◌}
use Rattle.edges.proofs.Found.{fewer}
use Rattle.edges.proofs.places.place_for.Goals as goal

pub returns-in-Some : goal.returns-in-Some
returns-in-Some c = fewer c.args.seats.now c.args.addr c.args.most_of_one c.count_of.result (Some c.in-Some.i) (Some c.in-Some.i) c.count_of.ensures (omega (arith, c.if-count_of-most_of_one.false)) (sym c.in-Some.is ∙ c.first_free.ensures) refl

pub returns-in-None : goal.returns-in-None
returns-in-None c = fewer c.args.seats.now c.args.addr c.args.most_of_one c.count_of.result None c.least-in-None.result c.count_of.ensures (omega (arith, c.if-count_of-most_of_one.false)) (sym c.in-None.is ∙ c.first_free.ensures) c.least-in-None.ensures
