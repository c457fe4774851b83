use Rattle.std.proofs.Common.{ℕ, ◌<◌}
use Rattle.map_model.specs.Rows.{HasTreeNode}
use Rattle.map_model.proofs.validity.are_tree_nodes.Given as goal

abbrev pub invariant-loop-i : goal.invariant-loop-i
invariant-loop-i l = (n : ℕ) → n < l.i → HasTreeNode l.nodes n
