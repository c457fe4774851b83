use Rattle.name_workers.proofs.Ports.{lane_call}
use Rattle.name_workers.proofs.serve.serve_port.Goals as goal

pub returns-clause-call : goal.returns-clause-call
returns-clause-call g c = let s = c.serve_turns-ended.ensures.call in lane_call _ _ _ _ _ _ s.2
