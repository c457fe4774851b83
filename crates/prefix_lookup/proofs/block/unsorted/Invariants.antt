use Rattle.std.proofs.Common.{◌≡◌, ◌<◌, ◌^◌, take}
use Rattle.std.specs.Prelude.{All}
use Rattle.std.specs.List.{filter_map}
use Rattle.prefix_lookup.specs.Blocks.{block_of}
use Rattle.prefix_lookup.specs.Family.{bits_in}
use Rattle.prefix_lookup.proofs.block.unsorted.Given as goal

abbrev pub invariant-loop-entry : goal.invariant-loop-entry
invariant-loop-entry l = record {
  exact : l.blocks.items ≡ filter_map (block_of l.family) (take l.entry-index l.table);
  fits : All (λ b. b.first < 2 ^ bits_in l.family) l.blocks.items;
}
