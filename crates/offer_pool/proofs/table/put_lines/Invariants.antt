use Rattle.std.proofs.Common.{◌≡◌, ◌-◌, ◌<◌, ℕ, take, slice_index}
use Rattle.map_model.specs.Allocation.{line_at}
use Rattle.offer_pool.specs.Table.{lines_in, place_at}
use Rattle.offer_pool.specs.Filed.{IsHeld}
use Rattle.offer_pool.proofs.table.put_lines.Given as goal

abbrev pub invariant-loop-line : goal.invariant-loop-line
invariant-loop-line l = record {
  held : IsHeld l.lists l.amounts l.queues;
  so_far : lines_in l.amounts ≡ take l.line-index l.lines;
  clear : (j : ℕ) → (0 < l.line-index → place_at (line_at l.lines (l.line-index - 1)).group.0 (line_at l.lines (l.line-index - 1)).place < j) → slice_index l.amounts j ≡ 0;
}
