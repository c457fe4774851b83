use Rattle.std.proofs.Common.{◌≡◌, take}
use Rattle.offer_pool.proofs.lists.nodes_of.Given as goal

abbrev pub invariant-loop-n : goal.invariant-loop-n
invariant-loop-n l = l.nodes.items ≡ take l.n l.instance.nodes
