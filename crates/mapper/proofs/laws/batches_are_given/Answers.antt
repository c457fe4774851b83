use Rattle.mapper.proofs.Giving.{gives}
use Rattle.mapper.proofs.laws.batches_are_given.Goals as goal

pub returns : goal.returns
returns c = gives
