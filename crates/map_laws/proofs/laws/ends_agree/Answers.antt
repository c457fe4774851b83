use Rattle.map_laws.proofs.Ends.{best_below, ends_one}
use Rattle.map_laws.proofs.laws.ends_agree.Goals as goal

pub returns : goal.returns
returns c = λ m old ready. ((λ n a proposals stable. best_below m n old a ready proposals stable), (λ n j a b one other stable also. ends_one m n j old a b ready one other stable also))
