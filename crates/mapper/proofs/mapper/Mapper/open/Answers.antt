use Rattle.std.proofs.Common.{◌∙◌}
use Rattle.mapper.proofs.mapper.Mapper.open.Goals as goal

pub returns-clause-mapper : goal.returns-clause-mapper
returns-clause-mapper g c = rw (c.of-maps.ensures ∙ c.in-Ok-open.ensures.publisher) c.in-Ok.ensures.first

pub returns-clause-viewers : goal.returns-clause-viewers
returns-clause-viewers g c = rw (c.of-maps.ensures ∙ c.in-Ok-open.ensures.publisher) c.in-Ok-open.ensures.viewers
