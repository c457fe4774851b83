use Rattle.map_laws.proofs.Cuts.{cut_one}
use Rattle.map_laws.proofs.laws.cuts_agree.Goals as goal

pub returns : goal.returns
returns c = cut_one
