use Rattle.lane_model.specs.Histories.{Follows}
use Rattle.lane_model.specs.Replies.{replies}
use Rattle.lane_model.proofs.Machines.{all_taken}
use Rattle.drive.specs.Laws.{all_logs}
use Rattle.drive.proofs.Events.{are_runs}
use Rattle.drive.proofs.Growing.{follow_all}
use Rattle.drive.proofs.laws.drives_are_taken.Goals as goal

pub returns : goal.returns
returns c = λ turns first end ends stream_end before after d. all_taken replies Follows first d.rest (all_logs turns first end ends stream_end before after d) (follow_all _ d.rest d.goes_on) (are_runs turns first end ends stream_end before after d)
