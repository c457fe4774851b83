use Rattle.headline.proofs.Twice.{agree}
use Rattle.headline.proofs.laws.agreed.Goals as goal

pub returns : goal.returns
returns c = agree
