use Rattle.big_world_read.proofs.Batches.{batches_count, batches_some}
use Rattle.big_world_read.proofs.World.{world_batches, world_reads}
use Rattle.big_world_read.proofs.world_is_read.Goals as goal

pub returns : goal.returns
returns c = record {
  topology = world_reads c.args.groups c.requires.some c.requires.most;
  feed = world_batches c.args.groups c.requires.some c.requires.most;
  sixteen = batches_count c.args.groups;
  none_empty = batches_some c.args.groups;
}
