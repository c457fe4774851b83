use Rattle.glb.proofs.Asked.{one_placed, one_refused}
use Rattle.glb.proofs.serve.open_first.Goals as goal

pub returns-clause-asked : goal.returns-clause-asked
returns-clause-asked g c = one_placed _ _ _ c.index-lanes-0.result c.open_by.new.lane c.requires.lanes c.open_by.ensures.asked

pub returns-clause-refused : goal.returns-clause-refused
returns-clause-refused g c = one_refused _ _ _ c.index-lanes-0.result c.open_by.new.lane c.requires.lanes c.open_by.ensures.refused
