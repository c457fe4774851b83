use Rattle.std.proofs.Common.{true, ◌≡◌, ◌+◌, ℕ, ◌<◌, length, slice_index, List, sym, ap, ◌∙◌, subst}
use Rattle.std.specs.Vec.{with_items}
use Rattle.std.proofs.lemmas.List.{with_items_is}
use Rattle.map_model.specs.declared.lines.MapLine.{MapLine}
use Rattle.map_model.specs.Market.{Market, demand_of}
use Rattle.map_model.specs.Allocation.{placed}
use Rattle.offer_pool.specs.Holdings.{Holdings}
use Rattle.evict.specs.Putting.{AgreesWith}
use Rattle.evict.specs.Standing.{IsOfMap, IsPastWanted}
use Rattle.evict.proofs.Done.{seen}
use Rattle.evict.proofs.OfMap.{of_good, sound_of}
use Rattle.evict.proofs.state.State.of_map.Goals as goal

pub invariant_of-result : goal.invariant_of-result
invariant_of-result c = λ _.
    let m : Market = c.args.instance.now in
    let lines : List MapLine = c.args.map.now.lines.items in
    let agrees : AgreesWith m lines c.load_lines.new.tree = subst (λ ls. AgreesWith m ls c.load_lines.new.tree) c.as_slice.ensures.value c.load_lines.ensures.agrees in
    let sums : (g : ℕ) → g < length m.groups → placed lines g + slice_index c.load_lines.new.free g ≡ demand_of m g = subst (λ ls. (g : ℕ) → g < length m.groups → placed ls g + slice_index c.load_lines.new.free g ≡ demand_of m g) c.as_slice.ensures.value c.load_lines.ensures.free in
    let count : length c.load_lines.new.free ≡ length m.groups = c.load_lines.auto.free ∙ ap length c.as_mut_slice.ensures.value ∙ c.in_ok-free.ensures.count in
    let free_are = with_items_is c.in_ok-free.free c.load_lines.new.free (c.load_lines.auto.free ∙ c.as_mut_slice.ensures.len) in
    let sound = sound_of m c.in_ok-held.held c.load_lines.new.tree lines c.load_lines.new.free c.in_ok-totals.totals.items c.groups-groups.ensures.market c.in_ok-held.ensures.held agrees count sums c.in_ok-totals.ensures.count c.in_ok-totals.ensures.each in
    rw free_are sound

pub returns : goal.returns
returns c =
    let m : Market = c.args.instance.now in
    let lines : List MapLine = c.args.map.now.lines.items in
    let sums : (g : ℕ) → g < length m.groups → placed lines g + slice_index c.load_lines.new.free g ≡ demand_of m g = subst (λ ls. (g : ℕ) → g < length m.groups → placed ls g + slice_index c.load_lines.new.free g ≡ demand_of m g) c.as_slice.ensures.value c.load_lines.ensures.free in
    let count : length c.load_lines.new.free ≡ length m.groups = c.load_lines.auto.free ∙ ap length c.as_mut_slice.ensures.value ∙ c.in_ok-free.ensures.count in
    let free_are = with_items_is c.in_ok-free.free c.load_lines.new.free (c.load_lines.auto.free ∙ c.as_mut_slice.ensures.len) in
    let same : c.in_ok-held.held ≡ record { market = m; lines = lines } = c.in_ok-held.ensures.held in
    let past : (g : ℕ) → g < length m.groups → IsPastWanted m lines g (slice_index c.in_ok-pointers.pointers.items g) = subst (λ (h : Holdings). (g : ℕ) → g < length m.groups → IsPastWanted m h.lines g (slice_index c.in_ok-pointers.pointers.items g)) same c.in_ok-pointers.ensures.each in
    let made = of_good m c.groups-groups.ensures.market lines c.args.map.now.names.items c.requires c.in_ok-pointers.pointers.items c.load_lines.new.free c.in_ok-pointers.ensures.count count past sums in
    let seen_so : IsOfMap m lines (seen c.in_ok-held.held c.in_ok-pointers.pointers.items (with_items c.in_ok-free.free c.load_lines.new.free).items true) = rw free_are (subst (λ (h : Holdings). IsOfMap m lines (seen h c.in_ok-pointers.pointers.items c.load_lines.new.free true)) (sym same) made) in
    seen_so
