use Rattle.tcp_lane.proofs.Final.{call_of}
use Rattle.tcp_lane.proofs.serve.serve_streams.Goals as goal
use Rattle.std.proofs.Common.{refl}

pub returns-then-talking-clause-call : goal.returns-then-talking-clause-call
returns-then-talking-clause-call g c =
    let s = c.serve_turns-ended.ensures.call in
    call_of _ _ _ _ _ _ _ (g.Q.Streams.told c.close.new.streams) s.1 s.2 (λ h. c.close.ensures.told) (λ h. absurd (cc (h, c.if-talking.true))) c.close.ensures.faults

pub returns-else-talking-clause-call : goal.returns-else-talking-clause-call
returns-else-talking-clause-call g c =
    let s = c.serve_turns-ended.ensures.call in
    call_of _ _ _ _ _ _ _ (g.Q.Streams.told c.serve_turns-ended.new.port) s.1 s.2 (λ h. absurd (cc (h, c.if-talking.false))) (λ h. refl) refl
