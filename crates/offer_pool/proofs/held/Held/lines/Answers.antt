use Rattle.offer_pool.proofs.Views.{view_form}
use Rattle.offer_pool.proofs.held.Held.lines.Goals as goal

pub returns-clause-form : goal.returns-clause-form
returns-clause-form c = view_form c.self.inside.lists c.self.inside.amounts.items c.self.inside.queues.items c.args.self.now c.self.invariant c.self.view_is
