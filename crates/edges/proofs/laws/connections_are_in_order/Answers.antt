use Rattle.edges.proofs.Ordered.{ordered}
use Rattle.edges.proofs.laws.connections_are_in_order.Goals as goal

pub returns : goal.returns
returns c = ordered
