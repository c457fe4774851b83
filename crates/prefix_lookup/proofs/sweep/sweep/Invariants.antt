use Rattle.std.proofs.Common.{◌≤◌, ◌+◌, ◌*◌, List, length}
use Rattle.std.specs.Prelude.{All}
use Rattle.prefix_lookup.specs.Blocks.{AreBlocks, IsBlock}
use Rattle.prefix_lookup.specs.Sweep.{Swept}
use Rattle.prefix_lookup.specs.Table.{IsTable}
use Rattle.prefix_lookup.proofs.Longest.{Entry}
use Rattle.prefix_lookup.proofs.sweep.sweep.Given as goal

abbrev pub invariant-loop-block : goal.invariant-loop-block
invariant-loop-block l = record {
  swept : (table : List Entry) → IsTable table → AreBlocks l.family table l.blocks → Swept l.family table l.blocks l.block-index l.ranges l.opened.items;
  each : All (IsBlock l.family) l.opened.items;
  few : length l.ranges.starts.items + length l.opened.items ≤ 2 * l.block-index;
}
