use Rattle.std.proofs.Common.{◌≡◌, ◌-◌, slice_index, ap, ◌∙◌}
use Rattle.std.proofs.lemmas.List.{get_or_default}
use Rattle.map_model.specs.declared.instance.NodeId.{NodeId}
use Rattle.evict.specs.Standing.{CanGrant}
use Rattle.evict.proofs.Done.{seen}
use Rattle.evict.proofs.Shifting.{grant_room}
use Rattle.evict.proofs.Sound.{grant_held, sound_grant}
use Rattle.evict.proofs.state.State.grant.Goals as goal

pub put-requires-clause-room : goal.put-requires-clause-room
put-requires-clause-room c =
    let s = c.self.inside in
    let can : CanGrant (seen s.held s.pointers.items s.free.items s.whole) c.args.offer.group.0 c.args.offer.place c.args.units = rw c.self.view_is c.requires in
    grant_held s.held s.tree s.free.items s.totals.items c.args.offer.group.0 c.args.offer.place c.args.units (c.self.invariant can.whole) can.group can.free

pub add-requires-clause-room : goal.add-requires-clause-room
add-requires-clause-room c = λ n l on.
    let s = c.self.inside in
    let can : CanGrant (seen s.held s.pointers.items s.free.items s.whole) c.args.offer.group.0 c.args.offer.place c.args.units = rw c.self.view_is c.requires in
    grant_room s.held c.put.new.self s.tree s.free.items s.totals.items c.args.offer.group.0 c.args.offer.place c.args.units n (c.self.invariant can.whole) c.in_ok-put.ensures.market c.in_ok-put.ensures.form c.in_ok-put.ensures.puts can.group can.free l

pub invariant_of-self-2 : goal.invariant_of-self-2
invariant_of-self-2 c = λ _.
    let s = c.self.inside in
    let can : CanGrant (seen s.held s.pointers.items s.free.items s.whole) c.args.offer.group.0 c.args.offer.place c.args.units = rw c.self.view_is c.requires in
    let now : c.index_mut.result.now ≡ slice_index s.free.items c.args.offer.group.0 = c.index_mut.ensures.value ∙ get_or_default s.free.items c.args.offer.group.0 _ 0 can.group in
    sound_grant s.held c.put.new.self s.tree c.add.new.self s.free.items s.totals.items c.args.offer.group.0 c.args.offer.place c.args.units c.pool_at-pool.result.0 _ (c.self.invariant can.whole)
    c.in_ok-put.ensures.market c.in_ok-put.ensures.puts (ap (λ (p : NodeId). p.0) c.pool_at-pool.ensures) c.add.ensures can.group can.free (ap (λ x. x - c.args.units) now)
