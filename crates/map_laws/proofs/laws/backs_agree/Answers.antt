use Rattle.map_laws.proofs.Backs.{back_lines_one, backs_one}
use Rattle.map_laws.proofs.laws.backs_agree.Goals as goal

pub returns : goal.returns
returns c = λ m marks others s t a b same held places x y. (back_lines_one m marks others s t a b same held places x y, backs_one m marks others s t a b same places x y)
