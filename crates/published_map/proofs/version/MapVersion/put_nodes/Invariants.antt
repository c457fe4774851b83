use Rattle.std.proofs.Common.{◌≡◌, take, fold, length}
use Rattle.published_map.specs.Changes.{put_node}
use Rattle.published_map.proofs.version.MapVersion.put_nodes.Given as goal

abbrev pub invariant-loop-node : goal.invariant-loop-node
invariant-loop-node l = (l.self ≡ fold put_node l.fn.self (take l.node-index l.nodes)) × (length l.self.market.nodes ≡ length l.fn.self.market.nodes)
