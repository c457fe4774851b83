use Rattle.map_laws.proofs.Ends.{best_below_one}
use Rattle.map_laws.proofs.laws.best_below_is_one.Goals as goal

pub returns : goal.returns
returns c = best_below_one
