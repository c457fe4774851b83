use Rattle.std.proofs.Common.{◌≡◌, length}
use Rattle.lane_model.specs.Calls.{IsRise}
use Rattle.name_workers.specs.Given.{AreGivenSoFar}
use Rattle.name_workers.specs.Moments.{eyes_of}
use Rattle.name_workers.proofs.learning.learn_all.Given as goal

abbrev pub invariant-loop-note : goal.invariant-loop-note
invariant-loop-note g l = AreGivenSoFar (g.N.Notes.told l.fn.notes) (g.N.Notes.told l.notes) (length l.worker.viewer.heard)
    × IsRise (eyes_of g.D.Door.told l.fn.worker.viewer l.fn.door) (eyes_of g.D.Door.told l.worker.viewer l.door)
    × ((g.D.Door.told l.door).looks ≡ (g.D.Door.told l.fn.door).looks) × (l.worker.viewer.seen ≡ l.fn.worker.viewer.seen) × (l.worker.count ≡ l.fn.worker.count) × (l.worker.number ≡ l.fn.worker.number) × ((g.D.Door.told l.door).asked ≡ (g.D.Door.told l.fn.door).asked) × ((g.D.Door.told l.door).faults ≡ (g.D.Door.told l.fn.door).faults)

abbrev pub decreases-loop-note : goal.decreases-loop-note
decreases-loop-note g l = g.N.Notes.left l.notes
