use Rattle.std.proofs.Common.{◌≤◌, ◌+◌, ℕ, List, length}
use Rattle.std.specs.Prelude.{All}
use Rattle.prefix_lookup.specs.declared.block.Block.{Block}
use Rattle.prefix_lookup.specs.Blocks.{AreBlocks, IsBlock, limit_of}
use Rattle.prefix_lookup.specs.Sweep.{AllAhead, Swept}
use Rattle.prefix_lookup.specs.Table.{IsTable}
use Rattle.prefix_lookup.proofs.Longest.{Entry}
use Rattle.prefix_lookup.proofs.sweep.close.Given as goal

abbrev pub invariant-loop-block : goal.invariant-loop-block
invariant-loop-block l = record {
  swept : (table : List Entry) (blocks : List Block) (i : ℕ) → IsTable table → AreBlocks l.family table blocks → i ≤ length blocks → Swept l.family table blocks i l.fn.ranges l.fn.opened.items → AllAhead blocks i (limit_of l.limit) → Swept l.family table blocks i l.ranges l.opened.items;
  each : All (IsBlock l.family) l.opened.items;
  few : length l.ranges.starts.items + length l.opened.items ≤ length l.fn.ranges.starts.items + length l.fn.opened.items;
}

abbrev pub decreases-loop-block : goal.decreases-loop-block
decreases-loop-block l = length l.opened.items
