use Rattle.std.proofs.Common.{rules}
use Rattle.glb.proofs.Asked.{placed_more, refused_more}
use Rattle.glb.proofs.serve.open_mapper.Goals as goal

pub returns-clause-asked : goal.returns-clause-asked
returns-clause-asked g c = placed_more _ _ _ _ _ _ c.split_at_mut-first.ensures.value (search rules) c.open_first.ensures.asked

pub returns-clause-refused : goal.returns-clause-refused
returns-clause-refused g c = refused_more _ _ _ _ _ _ c.split_at_mut-first.ensures.value (search rules) c.open_first.ensures.refused
