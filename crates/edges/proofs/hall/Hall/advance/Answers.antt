use Rattle.std.proofs.Common.{refl, subst}
use Rattle.edges.specs.Places.{IsNextTalk}
use Rattle.edges.proofs.hall.Hall.advance.Goals as goal

pub returns-clause-advance : goal.returns-clause-advance
returns-clause-advance g c = let next = c.in-Some-next_talk in (next.i, refl, subst (λ seats. IsNextTalk seats next.i next.peer) c.as_slice.ensures.value next.ensures.some)
