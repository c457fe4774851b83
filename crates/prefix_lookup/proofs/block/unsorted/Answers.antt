use Rattle.std.proofs.Common.{◌<◌, ◌^◌, List, ◌++◌, take, Option, ap, sym, subst, ◌∙◌}
use Rattle.std.specs.Prelude.{All}
use Rattle.std.specs.List.{filter_map}
use Rattle.std.specs.Option.{option_to_list}
use Rattle.prefix_lookup.specs.declared.block.Block.{Block}
use Rattle.prefix_lookup.specs.Blocks.{block_of}
use Rattle.prefix_lookup.specs.Family.{bits_in}
use Rattle.prefix_lookup.proofs.Filtered.{next_given, all_with}
use Rattle.prefix_lookup.proofs.block.unsorted.Goals as goal

pub loop-entry-preserved : goal.loop-entry-preserved
loop-entry-preserved c =
    let inv = c.loop-entry.invariant in
    record {
      exact = c.in_ok-add.ensures ∙ ap (λ (l : List Block). l ++ option_to_list c.block_of.result) inv.exact ∙ ap (λ (o : Option Block). filter_map (block_of c.args.family) (take c.loop-entry.entry-index c.args.table.now) ++ option_to_list o) c.block_of.ensures.exact ∙ sym (next_given (block_of c.args.family) c.args.table.now c.loop-entry.entry-index _ c.loop-entry-test.true);
      fits = subst (All (λ (b : Block). b.first < 2 ^ bits_in c.args.family)) (sym c.in_ok-add.ensures) (all_with (λ (b : Block). b.first < 2 ^ bits_in c.args.family) c.loop-entry.blocks.items c.block_of.result inv.fits c.block_of.ensures.fits);
    }
