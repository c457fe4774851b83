use Rattle.std.proofs.Common.{◌+◌, arith}
use Rattle.prefix_lookup.specs.Blocks.{block_at}
use Rattle.prefix_lookup.proofs.Ordered.{in_order}
use Rattle.prefix_lookup.proofs.Sorted.{are_blocks}
use Rattle.prefix_lookup.proofs.block.blocks_of.Goals as goal

pub returns : goal.returns
returns c = are_blocks c.args.family c.args.table.now c.in_ok-blocks.blocks.items c.sort.new.self.items c.requires c.in_ok-blocks.ensures.exact c.in_ok-blocks.ensures.fits c.in_ok-sort.ensures.permutation (λ k lt. in_order (block_at c.sort.new.self.items k) (block_at c.sort.new.self.items (k + 1)) _ (c.in_ok-sort.ensures.sorted k _ (omega arith) lt))
