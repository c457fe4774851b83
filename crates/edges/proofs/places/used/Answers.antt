use Rattle.std.proofs.Common.{◌-◌, ◌∙◌, arith, subst}
use Rattle.std.proofs.lemmas.Option.{get_or_from_slice_get, slice_get_within}
use Rattle.edges.proofs.Leasts.{vacant_one}
use Rattle.edges.proofs.Turns.{there}
use Rattle.edges.specs.Places.{IsVacant}
use Rattle.edges.proofs.places.used.Goals as goal

pub loop-init : goal.loop-init
loop-init c = (omega arith, λ i seat le is. absurd (omega (arith, le, slice_get_within c.args.seats.now i seat is)))

pub loop-preserved : goal.loop-preserved
loop-preserved c =
    let seats = c.args.seats.now in
    let at = there seats (c.loop.used - 1) (omega (arith, c.loop.invariant.0, c.if-used-eq0.false)) in (
      omega (arith, c.loop.invariant.0),
      vacant_one (c.loop.used - 1) seats at.0 at.1 (subst (λ s. IsVacant s) (c.index-seats-used.is ∙ get_or_from_slice_get seats (c.loop.used - 1) at.0 c.index-seats-used.result at.1) c.if-not-is_vacant.ensures) (λ i seat le is. c.loop.invariant.1 i seat (omega (arith, le, c.if-used-eq0.false)) is),
    )
