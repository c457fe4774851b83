use Rattle.std.proofs.Common.{◌<◌, ◌^◌, take}
use Rattle.deferred_accept.specs.Turning.{HasRoomFor}
use Rattle.deferred_accept.proofs.room.common_room.Given as goal

abbrev pub invariant-loop-hop : goal.invariant-loop-hop
invariant-loop-hop l = record {
  room : HasRoomFor l.instance l.state (take l.hop-index l.hops) l.room;
  small : l.room < 2 ^ 32;
}
