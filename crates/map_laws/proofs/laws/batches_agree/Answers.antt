use Rattle.map_laws.proofs.Applied.{applied_one}
use Rattle.map_laws.proofs.laws.batches_agree.Goals as goal

pub returns : goal.returns
returns c = applied_one
