-- Free units and pointers after a put.
use Rattle.std.proofs.Common.{◌≡◌, ℕ, ◌+◌, ◌<◌, ◌≤◌, ◌^◌, ◌==◌, Bool, true, false, ◌&&◌, nat_lt, if◌then◌else◌, List, [], length, All, take, slice_index, slice_index_or, refl, ap, ◌∙◌, subst, inl, inr, ◌⊎◌, arith}
use Rattle.std.proofs.lemmas.Bool.{and_parts, and_from, cases_Bool, eqb-true, eq-eqb, ltb-true, ltb-false}
use Rattle.std.proofs.lemmas.List.Sums.{sum_by_more_le}
use Rattle.capacity_tree.specs.Loads.{Loads}
use Rattle.map_model.specs.Market.{Market, IsMarket, demand_of}
use Rattle.map_model.specs.Allocation.{IsOffer, amount_at}
use Rattle.offer_pool.specs.Holdings.{Holdings}
use Rattle.evict.specs.declared.freed.Eviction.{Eviction}
use Rattle.evict.specs.Evictions.{freed_units}
use Rattle.evict.specs.Putting.{IsAccounted, Origin}
use Rattle.evict.specs.Standing.{CanPut, Standing}

-- the evictions so far and the next one are within all of them
pub freed_more : (test : ℕ → ℕ → Bool) (freed : List Eviction) (i : ℕ) (d : Eviction) → i < length freed → test (slice_index_or freed i d).offer.group.0 (slice_index_or freed i d).offer.place ≡ true
    → freed_units test (take i freed) + (slice_index_or freed i d).units ≤ freed_units test freed
freed_more test freed i d l passes =
    let e : Eviction = slice_index_or freed i d in
    let all : (if test e.offer.group.0 e.offer.place then e.units else 0) ≡ e.units = rw passes refl in
    omega (arith, sum_by_more_le (λ (x : Eviction). if test x.offer.group.0 x.offer.place then x.units else 0) freed i d l, all)

-- the demand of a group is what it holds and what is free, so both are small
pub small_demand : (m : Market) → IsMarket m → (g : ℕ) → g < length m.groups → demand_of m g < 2 ^ 32
small_demand m market g l = (market.groups g (record { demand = 0; choices = [] }) l).fits

-- what gave up units had some before, or is what was put
had_some : (m : Market) (origin : Origin) (g k : ℕ) (held : Holdings) (tree : Loads) (freed : List Eviction) → IsAccounted m origin g k held tree freed → (i : ℕ) (d : Eviction) → i < length freed
    → 0 < amount_at origin.lines (slice_index_or freed i d).offer.group.0 (slice_index_or freed i d).offer.place + (if (g == (slice_index_or freed i d).offer.group.0) && (k == (slice_index_or freed i d).offer.place) then origin.units else 0)
had_some m origin g k held tree freed a i d l =
    let e : Eviction = slice_index_or freed i d in
    let test : ℕ → ℕ → Bool = λ h j. (h == e.offer.group.0) && (j == e.offer.place) in
    omega (arith, a.accounts test, freed_more test freed i d l (and_from _ _ (eq-eqb e.offer.group.0 e.offer.group.0 refl) (eq-eqb e.offer.place e.offer.place refl)), (a.evictions i d l).some)

-- no eviction is past its group's pointer
pub places_below : (m : Market) (state : Standing) (origin : Origin) (g k units : ℕ) (held : Holdings) (tree : Loads) (freed : List Eviction) → CanPut m state g k units → origin.lines ≡ state.lines → IsAccounted m origin g k held tree freed
    → All (λ e. e.offer.place ≤ slice_index state.pointers e.offer.group.0) freed
places_below m state origin g k units held tree freed can same a i d l =
    let e : Eviction = slice_index_or freed i d in
    below e.offer.group.0 e.offer.place (a.evictions i d l).offer (subst (λ ls. 0 < amount_at ls e.offer.group.0 e.offer.place + (if (g == e.offer.group.0) && (k == e.offer.place) then origin.units else 0)) same (had_some m origin g k held tree freed a i d l))
  where
    below : (h j : ℕ) → IsOffer m h j → 0 < amount_at state.lines h j + (if (g == h) && (k == j) then origin.units else 0) → j ≤ slice_index state.pointers h
    below h j o some = elim (cases_Bool (nat_lt (slice_index state.pointers h) j)) [
      | inr e ↦ ltb-false _ _ e
      | inl past ↦
          let none : amount_at state.lines h j ≡ 0 = can.ready.resumable.none_past h j o (ltb-true _ _ past) in
          put_there h j (cases_Bool ((g == h) && (k == j))) (omega arith)
    ]
      where
        put_there : (h j : ℕ) → (((g == h) && (k == j)) ≡ true) ⊎ (((g == h) && (k == j)) ≡ false) → 0 < (if (g == h) && (k == j) then origin.units else 0) → j ≤ slice_index state.pointers h
        put_there h j (inl e) some =
            let p = and_parts (g == h) (k == j) e in
            let eg : g ≡ h = eqb-true g h p.0 in
            let ek : k ≡ j = eqb-true k j p.1 in
            let at : k ≡ slice_index state.pointers h = can.pointer ∙ ap (slice_index state.pointers) eg in
            omega arith
        put_there h j (inr e) some = absurd (let z : (if (g == h) && (k == j) then origin.units else 0) ≡ 0 = rw e refl in omega arith)
