use Rattle.std.proofs.Common.{sym, subst, arith, ◌∙◌, Option}
use Rattle.edges.proofs.Leasts.{first, kept, newer, skipped}
use Rattle.edges.specs.Places.{IsLeastSoFar}
use Rattle.edges.specs.declared.places.Found.{Found}
use Rattle.edges.proofs.places.lesser.Goals as goal

pub returns-in-None : goal.returns-in-None
returns-in-None c = λ before at f. skipped c.args.wanted before c.args.seat.now c.args.found (sym c.key_of.ensures ∙ c.in-None.is) f

pub returns-in-Some-found : goal.returns-in-Some-found
returns-in-Some-found c = λ before at f. kept c.args.wanted before c.args.seat.now c.in-Some.key c.in-Some-found.other (sym c.key_of.ensures ∙ c.in-Some.is) (omega (arith, c.if-other-key.true)) (subst (λ (o : Option Found). IsLeastSoFar c.args.wanted before o) c.in-Some-found.is f)

pub returns-in_default : goal.returns-in_default
returns-in_default c = λ before at f. newer c.args.wanted before c.args.seat.now c.in-Some.key c.args.place c.in-Some-found.other at (sym c.key_of.ensures ∙ c.in-Some.is) (omega (arith, c.if-other-key.false)) (subst (λ (o : Option Found). IsLeastSoFar c.args.wanted before o) c.in-Some-found.is f)

pub returns-in_default-2 : goal.returns-in_default-2
returns-in_default-2 c = λ before at f. first c.args.wanted before c.args.seat.now c.in-Some.key c.args.place at (sym c.key_of.ensures ∙ c.in-Some.is) (subst (λ (o : Option Found). IsLeastSoFar c.args.wanted before o) c.in_default.is f)
