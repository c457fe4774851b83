use Rattle.mapper.proofs.Agree.{versions_one}
use Rattle.mapper.proofs.laws.versions_agree.Goals as goal

pub returns : goal.returns
returns c = versions_one
