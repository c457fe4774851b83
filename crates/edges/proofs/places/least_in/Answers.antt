use Rattle.std.proofs.Common.{◌<◌, ◌∙◌, ◌++◌, ◌∷◌, [], List, Option, ap, length, take, sym, subst, arith}
use Rattle.std.proofs.lemmas.List.{length-take-le, take_more}
use Rattle.edges.specs.Places.{IsLeastSoFar}
use Rattle.edges.specs.declared.places.Found.{Found}
use Rattle.edges.specs.declared.seat.Seat.{Seat}
use Rattle.edges.proofs.Leasts.{all_taken}
use Rattle.edges.proofs.places.least_in.Goals as goal

pub loop-i-preserved : goal.loop-i-preserved
loop-i-preserved c =
    let i = c.loop-i.i in
    let seat = c.index-seats-i in
    let lt : i < length c.args.seats.now = omega (arith, c.loop-i-test.true) in
    subst (λ (l : List Seat). IsLeastSoFar c.args.wanted l c.lesser-found.result) (ap (λ s. take i c.args.seats.now ++ s ∷ []) seat.is ∙ sym (take_more c.args.seats.now i seat.result lt)) (c.lesser-found.ensures (take i c.args.seats.now) (length-take-le i c.args.seats.now (omega (arith, lt))) c.loop-i.invariant)

pub returns-in-None : goal.returns-in-None
returns-in-None c = all_taken c.args.wanted c.args.seats.now c.loop-i.i (omega (arith, c.loop-i-test.false)) (subst (λ (o : Option Found). IsLeastSoFar c.args.wanted (take c.loop-i.i c.args.seats.now) o) c.in-None.is c.loop-i.invariant)
