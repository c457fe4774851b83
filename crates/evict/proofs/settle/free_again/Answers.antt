use Rattle.std.proofs.Common.{◌+◌, ◌<◌, ◌^◌, ◌==◌, length, slice_index, slice_index_or, refl, arith}
use Rattle.std.proofs.lemmas.Bool.{eq-eqb}
use Rattle.evict.specs.declared.freed.Eviction.{Eviction}
use Rattle.evict.proofs.Settled.{freed_more}
use Rattle.evict.proofs.settle.free_again.Goals as goal

pub overflow_add-free : goal.overflow_add-free
overflow_add-free c =
    let d : Eviction = record { offer = record { group = record { 0 = 0 }; place = 0 }; units = 0 } in
    let i = c.loop-eviction.eviction-index in
    let e : Eviction = slice_index_or c.args.freed.now i d in
    let there : e.offer.group.0 < length c.args.free.now = c.requires.groups i d c.loop-eviction-test.true in
    let now = c.loop-eviction.invariant e.offer.group.0 (omega arith) in
    let room = c.requires.room e.offer.group.0 there in
    let more = freed_more (λ x _. x == e.offer.group.0) c.args.freed.now i d c.loop-eviction-test.true (eq-eqb e.offer.group.0 e.offer.group.0 refl) in
    let bound : slice_index c.loop-eviction.free e.offer.group.0 + e.units < 2 ^ 64 = omega (arith, now, room, more) in
    omega arith
