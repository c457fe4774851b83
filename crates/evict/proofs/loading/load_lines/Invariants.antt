use Rattle.std.proofs.Common.{◌≡◌, ℕ, ◌+◌, ◌<◌, length, take, slice_index}
use Rattle.map_model.specs.Market.{demand_of}
use Rattle.map_model.specs.Allocation.{placed}
use Rattle.evict.specs.Putting.{AgreesWith}
use Rattle.evict.proofs.loading.load_lines.Given as goal

abbrev pub invariant-loop-line : goal.invariant-loop-line
invariant-loop-line l = record {
  agrees : AgreesWith l.instance (take l.line-index l.lines) l.tree;
  count : length l.free ≡ length l.fn.free;
  free : (g : ℕ) → g < length l.instance.groups → placed (take l.line-index l.lines) g + slice_index l.free g ≡ demand_of l.instance g;
}
