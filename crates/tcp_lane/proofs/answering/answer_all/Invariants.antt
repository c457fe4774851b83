use Rattle.std.proofs.Common.{◌≡◌, ◌<◌, length}
use Rattle.name_workers.specs.Moments.{eyes_of}
use Rattle.tcp_lane.specs.Steps.{AreSoFar}
use Rattle.tcp_lane.proofs.answering.answer_all.Given as goal

abbrev pub invariant-loop-message : goal.invariant-loop-message
invariant-loop-message g l = AreSoFar l.fn.worker.number l.fn.worker.count l.worker.count l.from l.fn.octets l.rest
    (eyes_of g.D.Door.told l.fn.worker.viewer l.fn.door)
    (eyes_of g.D.Door.told l.worker.viewer l.door)
    (g.Q.Streams.told l.fn.streams) (g.Q.Streams.told l.streams)
    × (0 < length l.fn.worker.viewer.heard) × (l.worker.number ≡ l.fn.worker.number) × ((g.D.Door.told l.door).asked ≡ (g.D.Door.told l.fn.door).asked)

abbrev pub decreases-loop-message : goal.decreases-loop-message
decreases-loop-message g l = length l.rest
