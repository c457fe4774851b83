use Rattle.lane_model.specs.Histories.{Follows}
use Rattle.lane_model.specs.Replies.{replies}
use Rattle.lane_model.proofs.Keeps.{all_kept}
use Rattle.drive.proofs.laws.machines_are_kept.Goals as goal

pub returns : goal.returns
returns c = λ first events m m' t k. all_kept replies Follows first events m m' t k
