use Rattle.map_repair.proofs.Agree.{repaired_of_one}
use Rattle.map_repair.proofs.laws.repairs_agree.Goals as goal

pub returns : goal.returns
returns c = λ old lines new a b shape x y. repaired_of_one old lines new a b shape.groups x y
