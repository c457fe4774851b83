use Rattle.std.proofs.Common.{◌≡◌, ◌+◌}
use Rattle.std.specs.Option.{unwrap_or, option_map}
use Rattle.evict.specs.Putting.{IsClimbing}
use Rattle.evict.proofs.relief.relieve_path.Given as goal

abbrev pub invariant-loop-at : goal.invariant-loop-at
invariant-loop-at g l = record {
  climbing : IsClimbing l.instance g.origin l.put.group.0 l.put.place l.at l.left l.held l.tree l.freed;
  market : l.held.market ≡ l.fn.held.market;
}

abbrev pub decreases-loop-at : goal.decreases-loop-at
decreases-loop-at g l = unwrap_or (option_map (λ n. n.0 + 1) l.at) 0

abbrev pub ghost-relieve : goal.ghost-relieve
ghost-relieve g a = g.origin
