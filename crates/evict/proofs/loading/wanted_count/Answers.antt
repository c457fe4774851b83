use Rattle.std.proofs.Common.{◌≡◌, ◌+◌, true, sym, ◌∙◌, subst, inl, inr, arith}
use Rattle.std.proofs.lemmas.Bool.{cases_lt, lt-ltb}
use Rattle.map_model.specs.Market.{Market, demand_of}
use Rattle.map_model.specs.Allocation.{placed_through, is_wanted}
use Rattle.map_model.proofs.Units.{placed_through-below, placed_through-split, through-le-placed}
use Rattle.evict.proofs.Settled.{small_demand}
use Rattle.evict.proofs.OfMap.{below_none, past_wanted}
use Rattle.evict.proofs.loading.wanted_count.Goals as goal

pub loop-place-init : goal.loop-place-init
loop-place-init c = record { so_far = sym (below_none c.args.held.now.lines c.args.group.0); wanted = λ j l. absurd (omega arith) }

pub overflow_add-through : goal.overflow_add-through
overflow_add-through c =
    let m : Market = c.args.instance.now in
    let g = c.args.group.0 in
    let here : c.loop-place.through + c.units-through.result ≡ placed_through c.args.held.now.lines g c.loop-place.place = omega (arith, placed_through-split c.args.held.now.lines g c.loop-place.place, c.loop-place.invariant.so_far, c.units-through.ensures.units) in
    omega (arith, through-le-placed c.args.held.now.lines g c.loop-place.place, c.requires.fits, small_demand m c.requires.market g c.requires.group)

pub returns-then-through-demand : goal.returns-then-through-demand
returns-then-through-demand c =
    let m : Market = c.args.instance.now in
    let g = c.args.group.0 in
    let here : c.loop-place.through + c.units-through.result ≡ placed_through c.args.held.now.lines g c.loop-place.place = omega (arith, placed_through-split c.args.held.now.lines g c.loop-place.place, c.loop-place.invariant.so_far, c.units-through.ensures.units) in
    past_wanted m c.args.held.now.lines g c.loop-place.place (omega (arith, c.loop-place-test.true, c.list_len-place-end.ensures)) c.loop-place.invariant.wanted (λ _. omega (arith, here, c.if-through-demand.true, c.from-demand.ensures, c.demand.ensures))

pub loop-place-preserved : goal.loop-place-preserved
loop-place-preserved c =
    let m : Market = c.args.instance.now in
    let g = c.args.group.0 in
    let ls = c.args.held.now.lines in
    let here : c.loop-place.through + c.units-through.result ≡ placed_through ls g c.loop-place.place = omega (arith, placed_through-split ls g c.loop-place.place, c.loop-place.invariant.so_far, c.units-through.ensures.units) in
    record {
      so_far = here ∙ placed_through-below ls g c.loop-place.place;
      wanted = λ j l. elim (cases_lt j c.loop-place.place) [
        | inl low ↦ c.loop-place.invariant.wanted j low
        | inr high ↦ let e : j ≡ c.loop-place.place = omega arith in subst (λ k. is_wanted m ls g k ≡ true) (sym e) (lt-ltb (placed_through ls g c.loop-place.place) (demand_of m g) (omega (arith, here, c.if-through-demand.false, c.from-demand.ensures, c.demand.ensures)))
      ];
    }

pub returns : goal.returns
returns c =
    let m : Market = c.args.instance.now in
    past_wanted m c.args.held.now.lines c.args.group.0 c.list_len.result (omega (arith, c.list_len.ensures)) (λ j l. c.loop-place.invariant.wanted j (omega (arith, c.loop-place-test.false, c.list_len-place-end.ensures, c.list_len.ensures))) (λ l. absurd (omega (arith, c.list_len.ensures)))
