use Rattle.place_counts.proofs.Best.{places_best}
use Rattle.place_counts.proofs.laws.places_are_best.Goals as goal

pub returns : goal.returns
returns c = places_best
