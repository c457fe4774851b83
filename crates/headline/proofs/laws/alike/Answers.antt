use Rattle.headline.proofs.Both.{one, same}
use Rattle.headline.proofs.laws.alike.Goals as goal

pub returns-clause-same : goal.returns-clause-same
returns-clause-same c = same

pub returns-clause-one : goal.returns-clause-one
returns-clause-one c = one
