use Rattle.std.proofs.Common.{arith}
use Rattle.deferred_accept.proofs.Rooms.{room_more}
use Rattle.deferred_accept.proofs.room.common_room.Goals as goal

pub loop-hop-preserved : goal.loop-hop-preserved
loop-hop-preserved c = record {
  room = room_more c.args.instance.now c.args.state.now c.args.hops.now c.loop-hop.hop-index c.loop-hop.room c.room_of.result c.min-room.result _ (omega arith) (omega arith) (omega arith) c.loop-hop.invariant.room c.room_of.ensures;
  small = omega arith;
}
