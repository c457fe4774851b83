use Rattle.feed_queue.proofs.Rules.{begins}
use Rattle.feed_queue.proofs.opening.start.Goals as goal

pub ruled-requires-clause-rule : goal.ruled-requires-clause-rule
ruled-requires-clause-rule g c = begins g.N.Numbers.groups g.N.Numbers.nodes
