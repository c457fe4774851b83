-- What is written of the nodes so far, and where the draws stand.
use Rattle.std.proofs.Common.{◌≡◌, ◌++◌}
use Rattle.big_world.specs.Numbers.{behind}
use Rattle.big_world.specs.Pieces.{texts_below}
use Rattle.big_world.specs.Topology.{node_text}
use Rattle.big_world.proofs.nodes.push_nodes.Given as goal

abbrev pub invariant-loop-node : goal.invariant-loop-node
invariant-loop-node l = (l.pen.text.items ≡ l.initial.pen.text.items ++ texts_below (λ p. node_text p (behind l.initial.pen.draws.last p)) l.node) × (l.pen.draws.last ≡ behind l.initial.pen.draws.last l.node)
