use Rattle.std.proofs.Common.{◌≡◌, slice_index}
use Rattle.evict.specs.Putting.{IsRelieving}
use Rattle.evict.proofs.relief.relieve.Given as goal

abbrev pub invariant-loop-node : goal.invariant-loop-node
invariant-loop-node g l = record {
  relieving : IsRelieving l.instance g.origin l.fn.climb.put.group.0 l.fn.climb.put.place l.fn.climb.node.0 l.left l.held l.tree l.freed;
  market : l.held.market ≡ l.fn.held.market;
}

abbrev pub decreases-loop-node : goal.decreases-loop-node
decreases-loop-node g l = slice_index l.tree.units l.fn.climb.node.0
