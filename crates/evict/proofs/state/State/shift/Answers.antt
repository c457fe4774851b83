use Rattle.std.proofs.Common.{ap, arith}
use Rattle.map_model.specs.declared.instance.NodeId.{NodeId}
use Rattle.evict.specs.Standing.{CanShift}
use Rattle.evict.proofs.Done.{seen}
use Rattle.evict.proofs.Shifting.{shift_room, shift_taken, sound_shift}
use Rattle.evict.proofs.Sound.{release_fits}
use Rattle.evict.proofs.state.State.shift.Goals as goal

pub take-requires-2-clause-held : goal.take-requires-2-clause-held
take-requires-2-clause-held c = λ n l on.
    let s = c.self.inside in
    let can : CanShift (seen s.held s.pointers.items s.free.items s.whole) c.args.from.group.0 c.args.from.place c.args.place c.args.units = rw c.self.view_is c.requires in
    release_fits s.held s.tree s.free.items s.totals.items n c.args.from.group.0 c.args.from.place c.args.units c.pool_at-from_pool.result.0 (c.self.invariant can.whole) (ap (λ (p : NodeId). p.0) c.pool_at-from_pool.ensures) l on can.held

pub add-requires-clause-room : goal.add-requires-clause-room
add-requires-clause-room c = λ n l on.
    let s = c.self.inside in
    let can : CanShift (seen s.held s.pointers.items s.free.items s.whole) c.args.from.group.0 c.args.from.place c.args.place c.args.units = rw c.self.view_is c.requires in
    let taken = shift_taken s.held c.take.new.self s.tree c.take-2.new.self s.free.items s.totals.items c.args.from.group.0 c.args.from.place c.args.units c.pool_at-from_pool.result.0 (c.self.invariant can.whole)
    c.take.ensures.market c.take.ensures.takes (ap (λ (p : NodeId). p.0) c.pool_at-from_pool.ensures) c.take-2.ensures in
    shift_room s.held c.take.new.self s.tree c.take-2.new.self s.free.items s.totals.items c.args.from.group.0 c.args.from.place c.args.units n (c.self.invariant can.whole) c.take.ensures.market c.take.ensures.form c.take.ensures.takes taken l (omega (arith, can.room))

pub invariant_of-self-2 : goal.invariant_of-self-2
invariant_of-self-2 c = λ _.
    let s = c.self.inside in
    let can : CanShift (seen s.held s.pointers.items s.free.items s.whole) c.args.from.group.0 c.args.from.place c.args.place c.args.units = rw c.self.view_is c.requires in
    let taken = shift_taken s.held c.take.new.self s.tree c.take-2.new.self s.free.items s.totals.items c.args.from.group.0 c.args.from.place c.args.units c.pool_at-from_pool.result.0 (c.self.invariant can.whole)
    c.take.ensures.market c.take.ensures.takes (ap (λ (p : NodeId). p.0) c.pool_at-from_pool.ensures) c.take-2.ensures in
    sound_shift s.held c.take.new.self c.put.new.self s.tree c.take-2.new.self c.add.new.self s.free.items s.totals.items c.args.from.group.0 c.args.from.place c.args.place c.args.units c.pool_at-to_pool.result.0 (c.self.invariant can.whole)
    c.take.ensures.market c.take.ensures.takes taken c.in_ok-put.ensures.market c.in_ok-put.ensures.puts (ap (λ (p : NodeId). p.0) c.pool_at-to_pool.ensures) c.add.ensures
