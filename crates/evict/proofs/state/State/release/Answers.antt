use Rattle.std.proofs.Common.{◌≡◌, ◌+◌, ◌<◌, ◌^◌, slice_index, ap, ◌∙◌, arith}
use Rattle.std.proofs.lemmas.List.{get_or_default}
use Rattle.map_model.specs.declared.instance.NodeId.{NodeId}
use Rattle.evict.specs.Standing.{CanRelease}
use Rattle.evict.proofs.Done.{seen}
use Rattle.evict.proofs.Sound.{pool_in, release_fits, release_room, sound_release}
use Rattle.evict.proofs.state.State.release.Goals as goal

pub take-requires-2-clause-pool : goal.take-requires-2-clause-pool
take-requires-2-clause-pool c =
    let s = c.self.inside in
    let can : CanRelease (seen s.held s.pointers.items s.free.items s.whole) c.args.offer.group.0 c.args.offer.place c.args.units = rw c.self.view_is c.requires in
    pool_in s.held s.tree s.free.items s.totals.items c.args.offer.group.0 c.args.offer.place c.pool_at-pool.result.0 (c.self.invariant can.whole) can.offer (ap (λ (p : NodeId). p.0) c.pool_at-pool.ensures)

pub take-requires-2-clause-held : goal.take-requires-2-clause-held
take-requires-2-clause-held c = λ n l on.
    let s = c.self.inside in
    let can : CanRelease (seen s.held s.pointers.items s.free.items s.whole) c.args.offer.group.0 c.args.offer.place c.args.units = rw c.self.view_is c.requires in
    release_fits s.held s.tree s.free.items s.totals.items n c.args.offer.group.0 c.args.offer.place c.args.units c.pool_at-pool.result.0 (c.self.invariant can.whole) (ap (λ (p : NodeId). p.0) c.pool_at-pool.ensures) l on can.held

pub overflow_add-index_mut : goal.overflow_add-index_mut
overflow_add-index_mut c =
    let s = c.self.inside in
    let can : CanRelease (seen s.held s.pointers.items s.free.items s.whole) c.args.offer.group.0 c.args.offer.place c.args.units = rw c.self.view_is c.requires in
    let now : c.index_mut.result.now ≡ slice_index s.free.items c.args.offer.group.0 = c.index_mut.ensures.value ∙ get_or_default s.free.items c.args.offer.group.0 _ 0 can.group in
    let room = release_room s.held s.tree s.free.items s.totals.items c.args.offer.group.0 c.args.offer.place c.args.units (c.self.invariant can.whole) can.group can.held in
    let bound : c.index_mut.result.now + c.args.units < 2 ^ 64 = omega arith in
    omega arith

pub invariant_of-self : goal.invariant_of-self
invariant_of-self c = λ whole.
    let s = c.self.inside in
    let can : CanRelease (seen s.held s.pointers.items s.free.items s.whole) c.args.offer.group.0 c.args.offer.place c.args.units = rw c.self.view_is c.requires in
    let now : c.index_mut.result.now ≡ slice_index s.free.items c.args.offer.group.0 = c.index_mut.ensures.value ∙ get_or_default s.free.items c.args.offer.group.0 _ 0 can.group in
    sound_release s.held c.take.new.self s.tree c.take-2.new.self s.free.items s.totals.items c.args.offer.group.0 c.args.offer.place c.args.units c.pool_at-pool.result.0 _ (c.self.invariant whole)
    c.take.ensures.market c.take.ensures.takes (ap (λ (p : NodeId). p.0) c.pool_at-pool.ensures) c.take-2.ensures can.group (ap (λ x. x + c.args.units) now)
