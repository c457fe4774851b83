use Rattle.std.proofs.Common.{refl}
use Rattle.tcp_lane.proofs.Taken.{accept_come, accept_failed, accept_idle}
use Rattle.tcp_lane.proofs.serve.accept_one.Goals as goal

pub returns-in-Come-clause-plain : goal.returns-in-Come-clause-plain
returns-in-Come-clause-plain g c = accept_come _ _ _ _ _ _ c.in-Come.ensures.accept (c.in-Come.ensures.stays (λ h. cc)) c.requires.shut c.new-talk.ensures

pub returns-in-Idle-clause-plain : goal.returns-in-Idle-clause-plain
returns-in-Idle-clause-plain g c = accept_idle _ _ _ _ c.in-Idle.ensures.accept (c.in-Idle.ensures.stays (λ h. cc)) c.requires.shut

pub returns-in-Failed-clause-plain : goal.returns-in-Failed-clause-plain
returns-in-Failed-clause-plain g c = accept_failed _ _ _ _ c.in-Failed.ensures.accept (c.in-Failed.ensures.cause refl) c.requires.shut
