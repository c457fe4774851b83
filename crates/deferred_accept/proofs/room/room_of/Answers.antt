use Rattle.std.proofs.Common.{◌≡◌, List, map, slice_index_or, take, ap, ◌∙◌, arith}
use Rattle.std.proofs.Math.Nat.{min-le_left, min-le_right}
use Rattle.std.proofs.lemmas.Bool.{false≢true}
use Rattle.std.proofs.lemmas.List.{take_all}
use Rattle.map_model.specs.declared.instance.NodeId.{NodeId}
use Rattle.map_model.specs.Market.{path, pool_of}
use Rattle.deferred_accept.proofs.Rooms.{has_node, hop_room, path_there, rooms_more}
use Rattle.deferred_accept.proofs.room.room_of.Goals as goal

pub room_at-requires-clause-node : goal.room_at-requires-clause-node
room_at-requires-clause-node c =
    let nodes : List NodeId = c.as_slice-node-items.result.now in
    let hop = c.args.hop.now in
    let is : map (λ (x : NodeId). x.0) nodes ≡ path c.args.instance.now (pool_of c.args.instance.now hop.offer.group.0 hop.offer.place)
    = ap (λ (xs : List NodeId). map (λ (x : NodeId). x.0) xs) c.as_slice-node-items.ensures.value ∙ c.path-path.ensures ∙ ap (λ (x : NodeId). path c.args.instance.now x.0) c.pool_at.ensures in
    path_there c.args.instance.now c.requires.ready.market nodes hop.offer.group.0 hop.offer.place c.loop-node.node-index (record { 0 = 0 }) c.requires.hop.offer is c.loop-node-test.true

pub loop-node-init : goal.loop-node-init
loop-node-init c = record {
  amount = omega (arith, c.min-room.ensures, min-le_left c.args.hop.now.rival.units c.room_under.result);
  limit = omega (
    arith,
    c.min-room.ensures,
    min-le_right c.args.hop.now.rival.units c.room_under.result,
    c.room_under.ensures,
    c.requires.ready.resumable.limits c.args.hop.now.offer.group.0 c.args.hop.now.offer.place c.requires.hop.offer,
  );
  rooms = λ n in'. absurd (false≢true in');
}

pub loop-node-preserved : goal.loop-node-preserved
loop-node-preserved c = record {
  amount = omega (arith, c.min-room-in-loop-node.ensures, c.loop-node.invariant.amount);
  limit = omega (arith, c.min-room-in-loop-node.ensures, c.loop-node.invariant.limit);
  rooms = rooms_more c.args.instance.now c.args.state.now c.as_slice-node-items.result.now c.path-others.result.items c.loop-node.node-index c.loop-node.room c.room_at.result c.min-room-in-loop-node.result (record { 0 = 0 }) c.loop-node-test.true (omega (arith, c.min-room-in-loop-node.ensures))
      (omega (arith, c.min-room-in-loop-node.ensures)) c.loop-node.invariant.rooms (λ out. c.room_at.ensures (ap (λ (xs : List NodeId). has_node xs (slice_index_or c.as_slice-node-items.result.now c.loop-node.node-index (record { 0 = 0 })).0) c.as_slice.ensures.value ∙ out));
}

pub returns : goal.returns
returns c =
    let nodes : List NodeId = c.as_slice-node-items.result.now in
    let hop = c.args.hop.now in
    let is : map (λ (x : NodeId). x.0) nodes ≡ path c.args.instance.now (pool_of c.args.instance.now hop.offer.group.0 hop.offer.place)
    = ap (λ (xs : List NodeId). map (λ (x : NodeId). x.0) xs) c.as_slice-node-items.ensures.value ∙ c.path-path.ensures ∙ ap (λ (x : NodeId). path c.args.instance.now x.0) c.pool_at.ensures in
    let all : take c.loop-node.node-index nodes ≡ nodes = take_all c.loop-node.node-index nodes c.loop-node-test.false in
    hop_room c.args.instance.now c.args.state.now hop nodes c.path-others.result.items c.loop-node.room is (c.path-others.ensures ∙ ap (λ (x : NodeId). path c.args.instance.now x.0) c.pool_at-2.ensures) c.loop-node.invariant.amount c.loop-node.invariant.limit
    (λ n in'. c.loop-node.invariant.rooms n (ap (λ (xs : List NodeId). has_node xs n) all ∙ in'))
