use Rattle.map_laws.proofs.Ends.{group_best_one}
use Rattle.map_laws.proofs.laws.group_best_is_one.Goals as goal

pub returns : goal.returns
returns c = group_best_one
