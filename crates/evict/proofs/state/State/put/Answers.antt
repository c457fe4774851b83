use Rattle.std.proofs.Common.{◌≡◌, ℕ, ◌+◌, ◌<◌, ◌==◌, true, List, if◌then◌else◌, slice_index, ap, ◌∙◌, subst, length}
use Rattle.std.specs.Vec.{with_items}
use Rattle.std.proofs.lemmas.List.{with_items_is}
use Rattle.evict.specs.Evictions.{freed_units, gave_up}
use Rattle.evict.specs.Standing.{CanPut, IsPut}
use Rattle.evict.specs.declared.freed.Eviction.{Eviction}
use Rattle.evict.proofs.Done.{placing, put_done, seen, settling}
use Rattle.evict.proofs.Sound.{sound_put}
use Rattle.evict.proofs.state.State.put.Goals as goal

pub place-requires : goal.place-requires
place-requires g c =
    let s = c.self.inside in
    let can : CanPut c.args.instance.now (seen s.held s.pointers.items s.free.items s.whole) c.args.offer.group.0 c.args.offer.place c.args.units = rw c.self.view_is c.requires in
    placing c.args.instance.now c.args.offer.group.0 c.args.offer.place c.args.units s.held s.tree s.pointers.items s.free.items s.whole c.clear.new.self can (λ w. (c.self.invariant w).agrees) c.clear.ensures

pub settle-requires : goal.settle-requires
settle-requires g c =
    let s = c.self.inside in
    let can : CanPut c.args.instance.now (seen s.held s.pointers.items s.free.items s.whole) c.args.offer.group.0 c.args.offer.place c.args.units = rw c.self.view_is c.requires in
    let done = settling c.args.instance.now c.args.offer.group.0 c.args.offer.place c.args.units s.held c.place.new.held c.place.new.tree s.pointers.items s.free.items s.whole c.place.new.freed can c.in_ok-place.ensures.relieved in
    rw (c.as_mut_slice.ensures.value, c.as_mut_slice-2.ensures.value, c.evictions.ensures) done

pub invariant_of-self-2 : goal.invariant_of-self-2
invariant_of-self-2 g c = λ _.
    let s = c.self.inside in
    let can : CanPut c.args.instance.now (seen s.held s.pointers.items s.free.items s.whole) c.args.offer.group.0 c.args.offer.place c.args.units = rw c.self.view_is c.requires in
    let free : (h : ℕ) → h < length c.settle.new.free → slice_index c.settle.new.free h + (if c.args.offer.group.0 == h then c.args.units else 0) ≡ slice_index s.free.items h + freed_units (λ x _. x == h) c.place.new.freed
    = subst (λ (f : List Eviction). (h : ℕ) → h < length c.settle.new.free → slice_index c.settle.new.free h + (if c.args.offer.group.0 == h then c.args.units else 0) ≡ slice_index s.free.items h + freed_units (λ x _. x == h) f) c.evictions.ensures
    (subst (λ (xs : List ℕ). (h : ℕ) → h < length c.settle.new.free → slice_index c.settle.new.free h + (if c.args.offer.group.0 == h then c.args.units else 0) ≡ slice_index xs h + freed_units (λ x _. x == h) c.evictions.result.now) c.as_mut_slice.ensures.value c.settle.ensures.free) in
    let sound = sound_put c.args.instance.now c.args.offer.group.0 c.args.offer.place c.args.units s.held c.place.new.held s.tree c.place.new.tree s.free.items c.settle.new.free s.totals.items c.place.new.freed (c.self.invariant can.ready.whole)
    c.in_ok-place.ensures.relieved c.in_ok-place.ensures.market (c.settle.auto.free ∙ ap length c.as_mut_slice.ensures.value) free in
    let free_are = with_items_is s.free c.settle.new.free (c.settle.auto.free ∙ c.as_mut_slice.ensures.len) in
    rw free_are sound

pub returns-clause-put : goal.returns-clause-put
returns-clause-put g c =
    let s = c.self.inside in
    let can : CanPut c.args.instance.now (seen s.held s.pointers.items s.free.items s.whole) c.args.offer.group.0 c.args.offer.place c.args.units = rw c.self.view_is c.requires in
    let free : (h : ℕ) → h < length c.settle.new.free → slice_index c.settle.new.free h + (if c.args.offer.group.0 == h then c.args.units else 0) ≡ slice_index s.free.items h + freed_units (λ x _. x == h) c.place.new.freed
    = subst (λ (f : List Eviction). (h : ℕ) → h < length c.settle.new.free → slice_index c.settle.new.free h + (if c.args.offer.group.0 == h then c.args.units else 0) ≡ slice_index s.free.items h + freed_units (λ x _. x == h) f) c.evictions.ensures
    (subst (λ (xs : List ℕ). (h : ℕ) → h < length c.settle.new.free → slice_index c.settle.new.free h + (if c.args.offer.group.0 == h then c.args.units else 0) ≡ slice_index xs h + freed_units (λ x _. x == h) c.evictions.result.now) c.as_mut_slice.ensures.value c.settle.ensures.free) in
    let pointers : (h : ℕ) → h < length c.settle.new.pointers → slice_index c.settle.new.pointers h ≡ (if gave_up c.place.new.freed h (slice_index s.pointers.items h) then slice_index s.pointers.items h + 1 else slice_index s.pointers.items h)
    = subst (λ (f : List Eviction). (h : ℕ) → h < length c.settle.new.pointers → slice_index c.settle.new.pointers h ≡ (if gave_up f h (slice_index s.pointers.items h) then slice_index s.pointers.items h + 1 else slice_index s.pointers.items h)) c.evictions.ensures
    (subst (λ (xs : List ℕ). (h : ℕ) → h < length c.settle.new.pointers → slice_index c.settle.new.pointers h ≡ (if gave_up c.evictions.result.now h (slice_index xs h) then slice_index xs h + 1 else slice_index xs h)) c.as_mut_slice-2.ensures.value c.settle.ensures.pointers) in
    let done : IsPut c.args.instance.now (seen s.held s.pointers.items s.free.items s.whole) (seen c.place.new.held c.settle.new.pointers c.settle.new.free true) c.args.offer.group.0 c.args.offer.place c.args.units c.place.new.freed
    = put_done c.args.instance.now c.args.offer.group.0 c.args.offer.place c.args.units s.held c.place.new.held c.place.new.tree s.pointers.items c.settle.new.pointers s.free.items c.settle.new.free s.whole c.place.new.freed can
    c.in_ok-place.ensures.relieved (c.settle.auto.pointers ∙ ap length c.as_mut_slice-2.ensures.value) (c.settle.auto.free ∙ ap length c.as_mut_slice.ensures.value) free pointers in
    let pointers_are = with_items_is s.pointers c.settle.new.pointers (c.settle.auto.pointers ∙ c.as_mut_slice-2.ensures.len) in
    let free_are = with_items_is s.free c.settle.new.free (c.settle.auto.free ∙ c.as_mut_slice.ensures.len) in
    let made : IsPut c.args.instance.now (seen s.held s.pointers.items s.free.items s.whole) (seen c.place.new.held (with_items s.pointers c.settle.new.pointers).items (with_items s.free c.settle.new.free).items true) c.args.offer.group.0 c.args.offer.place c.args.units c.place.new.freed
    = rw (pointers_are, free_are) done in
    rw (← c.self.view_is) made
