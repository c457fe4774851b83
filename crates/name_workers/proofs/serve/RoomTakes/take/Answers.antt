use Rattle.std.proofs.Common.{refl, arith}
use Rattle.lane_model.specs.Turns.{ended, failed, idle, oversize}
use Rattle.name_workers.proofs.Ports.{took_bare, took_message}
use Rattle.name_workers.proofs.serve.RoomTakes.take.Goals as goal

pub returns-in-Arrived-clause-took : goal.returns-in-Arrived-clause-took
returns-in-Arrived-clause-took g c =
    took_message _ _ _ _ c.known.result _ _ _ c.answer_one.result _ _ _ _ _ _ c.recv.new.self _ c.known.ensures c.in-Arrived.ensures.recv (c.in-Arrived.ensures.stays (λ h. cc)) c.answer_one.ensures.fared c.answer_one.ensures.count.0 c.step_after.ensures

pub returns-in-Idle-clause-took : goal.returns-in-Idle-clause-took
returns-in-Idle-clause-took g c =
    took_bare _ _ c.known.result _ _ _ idle _ _ _ _ c.recv.new.self tt (λ b. refl) c.known.ensures c.in-Idle.ensures.recv (omega (arith, c.in-Idle.ensures.stays (λ h. cc))) (λ none. c.in-Idle.ensures.stays (λ h. cc))

pub returns-in-Oversize-clause-took : goal.returns-in-Oversize-clause-took
returns-in-Oversize-clause-took g c =
    took_bare _ _ c.known.result _ _ _ oversize _ _ _ _ c.recv.new.self tt (λ b. refl) c.known.ensures c.in-Oversize.ensures.recv (omega (arith, c.in-Oversize.ensures.stays (λ h. cc))) (λ none. c.in-Oversize.ensures.stays (λ h. cc))

pub returns-in-End-clause-took : goal.returns-in-End-clause-took
returns-in-End-clause-took g c =
    took_bare _ _ c.known.result _ _ _ ended _ _ _ _ c.recv.new.self tt (λ b. refl) c.known.ensures c.in-End.ensures.recv (omega (arith, c.in-End.ensures.stays (λ h. cc))) (λ none. c.in-End.ensures.stays (λ h. cc))

pub returns-in-Failed-clause-took : goal.returns-in-Failed-clause-took
returns-in-Failed-clause-took g c =
    took_bare _ _ c.known.result _ _ _ failed _ _ _ _ c.recv.new.self tt (λ b. refl) c.known.ensures c.in-Failed.ensures.recv (c.in-Failed.ensures.cause refl) (λ none. absurd (omega (arith, none)))
