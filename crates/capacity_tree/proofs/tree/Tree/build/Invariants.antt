use Rattle.std.proofs.Common.{◌≡◌, ℕ, ◌<◌, None, length, slice_index_or}
use Rattle.map_model.specs.Market.{parent_of}
use Rattle.capacity_tree.proofs.tree.Tree.build.Given as goal

abbrev pub invariant-loop-n : goal.invariant-loop-n
invariant-loop-n l = record {
  size : length l.parents.items ≡ l.n;
  so_far : (k : ℕ) → k < l.n → slice_index_or l.parents.items k None ≡ parent_of l.instance k;
}
