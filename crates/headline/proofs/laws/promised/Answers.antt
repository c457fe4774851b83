use Rattle.headline.proofs.Held.{promised}
use Rattle.headline.proofs.laws.promised.Goals as goal

pub returns : goal.returns
returns c = promised
