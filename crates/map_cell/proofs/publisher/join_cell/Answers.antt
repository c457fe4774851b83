use Rattle.map_cell.proofs.Steps.{admits, forks, adopts}
use Rattle.map_cell.proofs.publisher.join_cell.Goals as goal

pub reader-requires : goal.reader-requires
reader-requires c x = admits x

pub tell-requires : goal.tell-requires
tell-requires c x = forks x _ _

pub learn-requires-clause-rule : goal.learn-requires-clause-rule
learn-requires-clause-rule c x = adopts x _ _ _ _
