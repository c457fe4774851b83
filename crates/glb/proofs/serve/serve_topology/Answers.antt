use Rattle.std.proofs.Common.{◌∙◌}
use Rattle.glb.specs.Commands.{service_asked}
use Rattle.glb.proofs.First.{begun, unopened}
use Rattle.glb.proofs.serve.serve_topology.Goals as goal

pub returns-in-Ok-clause-session : goal.returns-in-Ok-clause-session
returns-in-Ok-clause-session g c = begun _ (service_asked c.args.service.now) c.args.beginning.topology c.in-Ok.mapper _ _ _ _ (rw c.lanes_of.ensures at c.in-Ok.ensures.asked) c.in-Ok.ensures.mapper c.in-Ok.ensures.scratch c.serve_first.ensures.served

pub returns-in-Err-clause-session : goal.returns-in-Err-clause-session
returns-in-Err-clause-session g c = unopened _ (service_asked c.args.service.now) _ c.in-Err.fault _ _ _ (rw c.lanes_of.ensures at c.in-Err.ensures.refused) c.status_of_opening.ensures.memory c.status_of_opening.ensures.refused

pub serve_first-requires-clause-viewers : goal.serve_first-requires-clause-viewers
serve_first-requires-clause-viewers g c κs within = (c.split_viewers-viewers.ensures.count ∙ c.in-Ok.ensures.viewers.0 ∙ c.lanes_of.ensures, (c.split_viewers-viewers.ensures.same c.in-Ok.mapper.history c.in-Ok.ensures.viewers.1).0)

pub serve_first-requires-clause-listener : goal.serve_first-requires-clause-listener
serve_first-requires-clause-listener g c κs within = (c.split_viewers-viewers.ensures.asked, (c.split_viewers-viewers.ensures.same c.in-Ok.mapper.history c.in-Ok.ensures.viewers.1).1)
