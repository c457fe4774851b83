-- The shifts of a circle: each may be made, and all of them turn it.
use Rattle.std.proofs.Common.{◌≡◌, ℕ, ◌+◌, ◌<◌, ◌≤◌, ◌==◌, ◌&&◌, ◌||◌, suc, Bool, true, false, if◌then◌else◌, List, [], ◌∷◌, ◌++◌, All, length, map, take, get_or, slice_index, refl, sym, ap, ◌∙◌, subst, inl, inr, arith}
use Rattle.std.specs.List.{sum_by}
use Rattle.std.proofs.lemmas.Bool.{and_parts, cases_lt, eqb-true, ne_eqb}
use Rattle.std.proofs.lemmas.List.{get_or-take, get_or_default, length-take}
use Rattle.std.proofs.lemmas.List.Elements.{All-head, All-tail}
use Rattle.std.proofs.lemmas.List.Sums.{sum_by-cons, sum_by_more, sum_by_push}
use Rattle.map_model.specs.declared.lines.MapLine.{MapLine}
use Rattle.map_model.specs.Market.{Market, IsSameShape}
use Rattle.map_model.specs.Allocation.{AreLines, IsOffer, amount_at, placed}
use Rattle.map_model.proofs.Shapes.{IsOffer-shape, shape_sym}
use Rattle.map_model.proofs.Units.{sum_by-add, units_of-le}
use Rattle.evict.specs.Standing.{CanShift, IsReady, IsShifted, Standing}
use Rattle.evict.proofs.Settled.{small_demand}
use Rattle.evict.proofs.Shaped.{AreLines-shape}
use Rattle.deferred_accept.specs.declared.circle.Hop.{Hop}
use Rattle.deferred_accept.specs.Turning.{CanPass, HasRoomFor, IsCircle, IsHop, IsPassed, IsTurned, came, displaced, gone, hopper, passed}
use Rattle.deferred_accept.proofs.Circles.{displaced_apart, displaces_first, displaces_next}

-- a hop that no list holds
abbrev pub no_hop : Hop
no_hop = record { offer = record { group = record { 0 = 0 }; place = 0 }; rival = record { node = record { 0 = 0 }; offer = record { group = record { 0 = 0 }; place = 0 }; units = 0 } }

-- hops that displace other groups take nothing from the offers of one group, and give it nothing
others_gone : (g k units : ℕ) (hops : List Hop) → All (λ h. displaced h ≡ g → ⊥) hops → gone (λ x y. (x == g) && (y == k)) units hops ≡ 0
others_gone g k units [] apart = refl
others_gone g k units (h ∷ hs) apart =
    let out : (displaced h == g) ≡ false = ne_eqb (displaced h) g (All-head (λ (x : Hop). displaced x ≡ g → ⊥) h hs apart) in
    let none : (if (displaced h == g) && (h.rival.offer.place == k) then units else 0) ≡ 0 = rw out refl in
    omega (arith, sum_by-cons (λ (x : Hop). if (displaced x == g) && (x.rival.offer.place == k) then units else 0) h hs, none, others_gone g k units hs (All-tail (λ (x : Hop). displaced x ≡ g → ⊥) h hs apart))

others_passed : (pointers : List ℕ) (g k units : ℕ) (hops : List Hop) → All (λ h. displaced h ≡ g → ⊥) hops → passed (λ x y. (x == g) && (y == k)) pointers units hops ≡ 0
others_passed pointers g k units [] apart = refl
others_passed pointers g k units (h ∷ hs) apart =
    let out : (displaced h == g) ≡ false = ne_eqb (displaced h) g (All-head (λ (x : Hop). displaced x ≡ g → ⊥) h hs apart) in
    let none : (if (displaced h == g) && (slice_index pointers (displaced h) == k) then units else 0) ≡ 0 = rw out refl in
    omega (arith, sum_by-cons (λ (x : Hop). if (displaced x == g) && (slice_index pointers (displaced x) == k) then units else 0) h hs, none, others_passed pointers g k units hs (All-tail (λ (x : Hop). displaced x ≡ g → ⊥) h hs apart))

-- in the middle the next hop's shift may be made, since no other hop displaces its group
pub pass_can : (state now : Standing) (hops : List Hop) (units i : ℕ) (d : Hop) → CanPass state hops units → IsPassed state now (take i hops) units → i < length hops
    → CanShift now (displaced (get_or hops i d)) (get_or hops i d).rival.offer.place (slice_index now.pointers (displaced (get_or hops i d))) units
pass_can state now hops units i d can sofar l = record {
  whole = sofar.whole;
  source = subst (λ (m : Market). IsOffer m g hop.rival.offer.place) (sym sofar.market) was.source;
  target = subst (λ (m : Market). IsOffer m g (slice_index now.pointers g)) (sym sofar.market) (subst (λ k. IsOffer state.market g k) (sym same) was.target);
  held = omega (arith, as_before hop.rival.offer.place, was.held);
  room = omega (arith, as_before (slice_index now.pointers g), ap (λ k. amount_at state.lines g k) same, was.room);
}
  where
    hop : Hop
    hop = get_or hops i d

    g : ℕ
    g = displaced (get_or hops i d)

    was : CanShift state (displaced (get_or hops i d)) (get_or hops i d).rival.offer.place (slice_index state.pointers (displaced (get_or hops i d))) units
    was = can.shifts i d l

    same : slice_index now.pointers (displaced (get_or hops i d)) ≡ slice_index state.pointers (displaced (get_or hops i d))
    same = ap (λ (xs : List ℕ). slice_index xs (displaced (get_or hops i d))) sofar.pointers

    others : All (λ h. displaced h ≡ displaced (get_or hops i d) → ⊥) (take i hops)
    others j e k same_group =
        let below : j < i = omega (arith, length-take i hops) in
        can.apart j i e below l (sym (ap displaced (get_or-take i hops j e below)) ∙ same_group ∙ ap displaced (get_or_default hops i d e l))

    as_before : (k : ℕ) → amount_at now.lines (displaced (get_or hops i d)) k ≡ amount_at state.lines (displaced (get_or hops i d)) k
    as_before k = omega (arith, sofar.held (λ x y. (x == displaced (get_or hops i d)) && (y == k)), others_gone (displaced (get_or hops i d)) k units (take i hops) others, others_passed state.pointers (displaced (get_or hops i d)) k units (take i hops) others)

-- and then one shift more was made
pub pass_more : (state now new : Standing) (hops : List Hop) (units i : ℕ) (d : Hop) → IsPassed state now (take i hops) units → i < length hops
    → IsShifted now new (displaced (get_or hops i d)) (get_or hops i d).rival.offer.place (slice_index now.pointers (displaced (get_or hops i d))) units → IsPassed state new (take (i + 1) hops) units
pass_more state now new hops units i d sofar l shifted = record {
  market = shifted.market ∙ sofar.market;
  whole = shifted.whole;
  form = shifted.form;
  pointers = shifted.pointers ∙ sofar.pointers;
  free = shifted.free ∙ sofar.free;
  held = λ test.
      let hop : Hop = get_or hops i d in
      let same : (if test (displaced hop) (slice_index now.pointers (displaced hop)) then units else 0) ≡ (if test (displaced hop) (slice_index state.pointers (displaced hop)) then units else 0)
      = ap (λ (xs : List ℕ). if test (displaced hop) (slice_index xs (displaced hop)) then units else 0) sofar.pointers in
      omega (
        arith,
        shifted.held test,
        sofar.held test,
        same,
        sum_by_more (λ (x : Hop). if test x.rival.offer.group.0 x.rival.offer.place then units else 0) hops i d l,
        sum_by_more (λ (x : Hop). if test (displaced x) (slice_index state.pointers (displaced x)) then units else 0) hops i d l,
      );
}

-- what a group holds at two places of its list is among all that it holds
two_places : (lines : List MapLine) (g k j : ℕ) → (k ≡ j → ⊥) → amount_at lines g k + amount_at lines g j ≤ placed lines g
two_places lines g k j apart = omega (arith, sum_by-add _ _ _ (λ l. each (l.group.0 == g) (l.place == k) (l.place == j) (both l.place) l.amount) lines, units_of-le (λ x y. (x == g) && ((y == k) || (y == j))) (λ x _. x == g) (λ x y t. (and_parts (x == g) ((y == k) || (y == j)) t).0) lines)
  where
    both : (y : ℕ) → (y == k) ≡ true → (y == j) ≡ true → ⊥
    both y e f = apart (sym (eqb-true y k e) ∙ eqb-true y j f)

    each : (b c d : Bool) → (c ≡ true → d ≡ true → ⊥) → (a : ℕ) → (if b && (c || d) then a else 0) ≡ (if b && c then a else 0) + (if b && d then a else 0)
    each true true true never a = absurd (never refl refl)
    each true true false never a = omega arith
    each true false true never a = omega arith
    each true false false never a = refl
    each false c d never a = refl

-- the group that a hop of a circle displaces is that of a hop
next_hop : (m : Market) (state : Standing) (first : Hop) (rest : List Hop) (units : ℕ) → IsCircle m state first rest units → (i : ℕ) (d : Hop) → i < length (first ∷ rest) → (h : Hop) × IsHop m state h × (displaced (get_or (first ∷ rest) i d) ≡ hopper h)
next_hop m state first rest units circle i d l = elim (cases_lt i (length rest)) [
  | inl more ↦ (get_or rest i d, circle.hops (suc i) d (omega arith), displaces_next m state first rest units circle i d more)
  | inr last ↦ (first, circle.hops 0 d (omega arith), displaces_first m state first rest units circle i d (omega arith))
]

-- units that there is room for may be passed on round a circle
pub circle_can : (m : Market) (state : Standing) → IsReady m state → (first : Hop) (rest : List Hop) (units most : ℕ) → IsCircle m state first rest units → HasRoomFor m state (first ∷ rest) most → CanPass state (first ∷ rest) most
circle_can m state ready first rest units most circle room = record {
  whole = ready.whole;
  form = AreLines-shape m state.market back state.lines ready.resumable.form;
  groups = λ i d l. omega (arith, (circle.hops i d l).rival.worst.offer.group, ready.resumable.pointers_for);
  shifts = λ i d l. one (get_or (first ∷ rest) i d) (circle.hops i d l) (room.amounts i d l) (next_hop m state first rest units circle i d l);
  apart = displaced_apart m state ready.market first rest units circle;
}
  where
    back : IsSameShape m state.market
    back = shape_sym state.market m ready.shape

    one : (h : Hop) → IsHop m state h → most ≤ h.rival.units → (n : Hop) × IsHop m state n × (displaced h ≡ hopper n) → CanShift state (displaced h) h.rival.offer.place (slice_index state.pointers (displaced h)) most
    one h hop enough next =
        let g : ℕ = displaced h in
        let p : ℕ = slice_index state.pointers (displaced h) in
        let w = hop.rival.worst in
        let place : next.0.offer.place ≡ p = next.1.pointer ∙ ap (λ (x : ℕ). slice_index state.pointers x) (sym next.2) in
        let target : IsOffer m g p = subst (λ k. IsOffer m g k) place (subst (λ x. IsOffer m x next.0.offer.place) (sym next.2) next.1.offer) in
        record {
          whole = ready.whole;
          source = IsOffer-shape m state.market back g h.rival.offer.place w.offer;
          target = IsOffer-shape m state.market back g p target;
          held = omega (arith, w.held, enough);
          room = omega (arith, two_places state.lines g p h.rival.offer.place (λ e. absurd (omega (arith, hop.behind))), w.held, enough, ready.resumable.totals g w.offer.group, small_demand m ready.market g w.offer.group);
        }

-- what came to the next offers of the displaced groups came to the offers of the hops
passed-came : (m : Market) (state : Standing) (first : Hop) (rest : List Hop) (units most : ℕ) → IsCircle m state first rest units → (test : ℕ → ℕ → Bool) → passed test state.pointers most (first ∷ rest) ≡ came test most (first ∷ rest)
passed-came m state first rest units most circle test =
    sum_by-map put displaced (first ∷ rest) ∙ ap (λ (xs : List ℕ). sum_by put xs) circle.linked ∙ rotated
  where
    put : ℕ → ℕ
    put g = if test g (slice_index state.pointers g) then most else 0

    sum_by-map : (f : ℕ → ℕ) (k : Hop → ℕ) (hops : List Hop) → sum_by (λ h. f (k h)) hops ≡ sum_by f (map k hops)
    sum_by-map f k [] = refl
    sum_by-map f k (h ∷ hs) = omega (arith, sum_by-cons (λ x. f (k x)) h hs, sum_by-cons f (k h) (map k hs), sum_by-map f k hs)

    at_pointers : (hops : List Hop) → All (λ h. IsHop m state h) hops → came test most hops ≡ sum_by put (map hopper hops)
    at_pointers [] all = refl
    at_pointers (h ∷ hs) all =
        let here : (if test h.offer.group.0 h.offer.place then most else 0) ≡ put (hopper h) = ap (λ k. if test h.offer.group.0 k then most else 0) (All-head (λ (x : Hop). IsHop m state x) h hs all).pointer in
        omega (arith, sum_by-cons (λ (x : Hop). if test x.offer.group.0 x.offer.place then most else 0) h hs, sum_by-cons put (hopper h) (map hopper hs), here, at_pointers hs (All-tail (λ (x : Hop). IsHop m state x) h hs all))

    rotated : sum_by put (map hopper rest ++ hopper first ∷ []) ≡ came test most (first ∷ rest)
    rotated = omega (arith, at_pointers (first ∷ rest) circle.hops, sum_by_push put (map hopper rest) (hopper first), sum_by-cons put (hopper first) (map hopper rest))

-- so a circle turned
pub circle_turned : (m : Market) (state new : Standing) → IsReady m state → (first : Hop) (rest : List Hop) (units most : ℕ) → IsCircle m state first rest units → IsPassed state new (first ∷ rest) most → IsTurned m state new (first ∷ rest) most
circle_turned m state new ready first rest units most circle done = record {
  market = done.market;
  whole = done.whole;
  form = AreLines-shape state.market m ready.shape new.lines (subst (λ (x : Market). AreLines x new.lines) done.market done.form);
  pointers = done.pointers;
  free = done.free;
  held = λ test. omega (arith, done.held test, passed-came m state first rest units most circle test);
}
