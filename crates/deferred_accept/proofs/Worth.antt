-- What a state has left to offer falls with each proposal.
use Rattle.std.proofs.Common.{◌≡◌, ℕ, ◌+◌, ◌-◌, ◌*◌, ◌<◌, ◌≤◌, ◌==◌, Bool, true, false, ◌&&◌, if◌then◌else◌, List, length, slice_index, refl, ap, ◌∙◌, subst, arith}
use Rattle.std.proofs.lemmas.Bool.{eq-eqb}
use Rattle.map_model.specs.Market.{Market, choices_of, demand_of}
use Rattle.map_model.specs.Allocation.{IsOffer, amount_at}
use Rattle.map_model.proofs.Units.{amount-le-placed}
use Rattle.evict.specs.declared.freed.Eviction.{Eviction}
use Rattle.evict.specs.Evictions.{gave_up}
use Rattle.evict.specs.Standing.{CanPut, IsPut, IsReady, Standing}
use Rattle.evict.proofs.Done.{freed_none, gave_up_each}
use Rattle.deferred_accept.specs.Runs.{proposals_of}
use Rattle.deferred_accept.specs.Work.{worth_of}

-- one place fewer is one demand and one proposal fewer
place_fewer : (len p d : ℕ) → p < len → (len - p) * (d + 1) ≡ (len - (p + 1)) * (d + 1) + (d + 1)
place_fewer len p d l = let e : len - p ≡ (len - (p + 1)) + 1 = omega arith in ap (λ n. n * (d + 1)) e ∙ one_more (len - (p + 1)) (d + 1)
  where
    one_more : (a b : ℕ) → (a + 1) * b ≡ a * b + b
    one_more a b = grind arith

amount_small : (m : Market) (state : Standing) (h k : ℕ) → IsReady m state → h < length m.groups → amount_at state.lines h k ≤ demand_of m h
amount_small m state h k ready l = omega (arith, amount-le-placed state.lines h k, ready.resumable.totals h l)

-- a group whose pointer moved on is worth less
pub moved_on : (m : Market) (old new : Standing) (h : ℕ) → IsReady m old → h < length m.groups → slice_index old.pointers h < length (choices_of m h) → slice_index new.pointers h ≡ slice_index old.pointers h + 1 → worth_of m new h < worth_of m old h
moved_on m old new h ready l left moved =
    let p = slice_index old.pointers h in
    let fewer = place_fewer (length (choices_of m h)) p (demand_of m h) left in
    let now : proposals_of m new.pointers h ≡ (length (choices_of m h) - (p + 1)) * (demand_of m h + 1) = ap (λ x. (length (choices_of m h) - x) * (demand_of m h + 1)) moved in
    omega (arith, fewer, now, amount_small m old h p ready l)

-- one that has more at its pointer too, and the others are worth no more
stayed : (m : Market) (old new : Standing) (h more : ℕ) → IsReady m new → h < length m.groups → slice_index new.pointers h ≡ slice_index old.pointers h → amount_at new.lines h (slice_index old.pointers h) ≡ amount_at old.lines h (slice_index old.pointers h) + more
    → (worth_of m new h ≤ worth_of m old h) × (0 < more → slice_index old.pointers h < length (choices_of m h) → worth_of m new h < worth_of m old h)
stayed m old new h more ready l same amount =
    let p = slice_index old.pointers h in
    let now : worth_of m new h ≡ proposals_of m old.pointers h - amount_at new.lines h p = ap (λ x. (length (choices_of m h) - x) * (demand_of m h + 1) - amount_at new.lines h x) same in
    let small = amount_small m new h p ready l in
    (omega (arith, now, amount), λ some left. omega (arith, now, amount, small, place_fewer (length (choices_of m h)) p (demand_of m h) left))

-- a proposal lowers what its group is worth, and raises none
pub worth_falls : (m : Market) (old new : Standing) (g k units : ℕ) (freed : List Eviction) → CanPut m old g k units → IsPut m old new g k units freed → 0 < units → (h : ℕ) → h < length m.groups → (worth_of m new h ≤ worth_of m old h) × (g ≡ h → worth_of m new h < worth_of m old h)
worth_falls m old new g k units freed can put some h l = go (gave_up freed h (slice_index old.pointers h)) refl
  where
    go : (gave : Bool) → gave_up freed h (slice_index old.pointers h) ≡ gave → (worth_of m new h ≤ worth_of m old h) × (g ≡ h → worth_of m new h < worth_of m old h)
    go true e =
        let o : IsOffer m h (slice_index old.pointers h) = gave_up_each (λ x y. IsOffer m x y) freed h (slice_index old.pointers h) (λ i d l. (put.evictions i d l).offer) e in
        let moved : slice_index new.pointers h ≡ slice_index old.pointers h + 1 = put.pointers h l ∙ ap (λ b. if b then slice_index old.pointers h + 1 else slice_index old.pointers h) e in
        let less = moved_on m old new h can.ready l o.place moved in
        (omega arith, λ _. less)
    go false e =
        let p = slice_index old.pointers h in
        let same : slice_index new.pointers h ≡ p = put.pointers h l ∙ ap (λ b. if b then slice_index old.pointers h + 1 else slice_index old.pointers h) e in
        let amount : amount_at new.lines h p ≡ amount_at old.lines h p + (if (g == h) && (k == p) then units else 0) = omega (arith, put.held (λ x y. (x == h) && (y == p)), freed_none freed h p e) in
        let s = stayed m old new h (if (g == h) && (k == p) then units else 0) put.ready l same amount in (
          s.0,
          λ eg.
              let at : k ≡ p = can.pointer ∙ ap (slice_index old.pointers) eg in
              let all : (if (g == h) && (k == p) then units else 0) ≡ units = rw (eq-eqb g h eg, eq-eqb k p at) refl in
              let left : p < length (choices_of m h) = subst (λ x. x < length (choices_of m h)) at (subst (λ x. k < length (choices_of m x)) eg can.offer.place) in
              s.1 (omega (arith, all, some)) left,
        )
