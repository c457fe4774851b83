use Rattle.map_laws.proofs.Best as best
use Rattle.map_laws.proofs.laws.best_below_if_free.Goals as goal

pub returns : goal.returns
returns c = best.best_below_if_free
