use Rattle.std.proofs.Common.{◌∙◌, sym}
use Rattle.edges.proofs.Ways.{no_place}
use Rattle.edges.proofs.places.has_place.Goals as goal

pub returns-else-is_some-clause-none : goal.returns-else-is_some-clause-none
returns-else-is_some-clause-none c is = no_place c.args.now c.args.seats.now c.first_free.result c.oldest_idle.result c.first_free.ensures (sym c.is_some.ensures ∙ c.if-is_some.false) c.oldest_idle.ensures.none (sym c.is_some-else-is_some.ensures ∙ is)
