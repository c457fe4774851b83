use Rattle.mapper.proofs.Agree.{courses_one}
use Rattle.mapper.proofs.laws.courses_agree.Goals as goal

pub returns : goal.returns
returns c = courses_one
