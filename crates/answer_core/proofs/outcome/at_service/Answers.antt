use Rattle.std.proofs.Common.{◌∙◌}
use Rattle.answer_core.specs.View.{request_view}
use Rattle.answer_core.proofs.Chosen.{chosen}
use Rattle.answer_core.proofs.outcome.at_service.Goals as goal

pub returns-clause-exact : goal.returns-clause-exact
returns-clause-exact c =
    c.at_pool.ensures.exact
    ∙ chosen c.args.version.now (request_view c.args.request.now) c.args.from c.args.draw c.in-Some.kind c.look_up-scope.result.1 c.in-Some-pool_for_service.pool.0 c.args.service c.look_up-scope.result.0 c.in-Some.ensures c.look_up-scope.ensures.scope c.look_up-scope.ensures.group c.in-Some-pool_for_service.ensures.exact
