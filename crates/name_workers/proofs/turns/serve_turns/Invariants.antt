use Rattle.std.proofs.Common.{◌≡◌, ◌<◌, length}
use Rattle.name_workers.specs.Loop.{IsFreshSoFar, loop_moment_of, place_of}
use Rattle.name_workers.proofs.turns.serve_turns.Given as goal

abbrev pub invariant-loop : goal.invariant-loop
invariant-loop g l = IsFreshSoFar g.T.Takes.taking l.fn.worker.number l.counter l.failed
    (λ room. loop_moment_of g.G.Gate.told g.N.Notes.told l.fn.gate l.fn.notes (place_of g.D.Door.told l.fn.worker.viewer l.fn.worker.count l.fn.door room l.fn.port))
    (loop_moment_of g.G.Gate.told g.N.Notes.told l.gate l.notes (place_of g.D.Door.told l.worker.viewer l.worker.count l.door l.room l.port))
    × (l.worker.number ≡ l.fn.worker.number) × ((g.D.Door.told l.door).asked ≡ (g.D.Door.told l.fn.door).asked) × g.T.Takes.taking.is_ready l.room × (0 < length l.fn.worker.viewer.heard)
