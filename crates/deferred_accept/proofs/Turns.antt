-- One proposal of a run.
use Rattle.std.proofs.Common.{◌≡◌, ℕ, ◌+◌, ◌<◌, ◌≤◌, ◌==◌, Bool, true, false, ◌&&◌, ◌||◌, nat_le, if◌then◌else◌, List, [], ◌∷◌, length, slice_index, slice_set, refl, sym, ap, ◌∙◌, inl, inr, arith}
use Rattle.std.proofs.lemmas.Bool.{and_parts, cases_Bool, cases_eq, eqb-true, or_cases, leb-true, or_parts, or_left, or_right}
use Rattle.std.proofs.lemmas.List.{get_or-set_other}
use Rattle.std.proofs.lemmas.Grind.{get_or-set_at}
use Rattle.std.proofs.lemmas.List.Sums.{sum_by-cons}
use Rattle.map_model.specs.Market.{Market}
use Rattle.map_model.specs.Allocation.{IsOffer, placed_through}
use Rattle.evict.specs.declared.freed.Eviction.{Eviction}
use Rattle.evict.specs.Evictions.{freed_units, gave_up}
use Rattle.evict.specs.Standing.{CanPut, IsPut, Standing}
use Rattle.deferred_accept.specs.Runs.{HasRun, most_proposals, proposals_of, IsWaiting}
use Rattle.deferred_accept.specs.Work.{CoversRest, CoversWork, gave_any, is_on, worth, worth_of}
use Rattle.best_laws.proofs.Sums.{sum-le, sum-lt}
use Rattle.deferred_accept.proofs.Worth.{worth_falls}

-- a proposal lowers the worth of a state
pub worth_less : (m : Market) (old new : Standing) (g k units : ℕ) (freed : List Eviction) → CanPut m old g k units → IsPut m old new g k units freed → 0 < units → worth m new < worth m old
worth_less m old new g k units freed can put some =
    sum-lt (worth_of m new) (worth_of m old) g (length m.groups) 0 (λ i low high. (worth_falls m old new g k units freed can put some i (omega arith)).0) (omega arith) (omega (arith, can.offer.group)) ((worth_falls m old new g k units freed can put some g can.offer.group).1 refl)

-- the worth of a state is within the proposals that there may be
pub worth-le : (m : Market) (state : Standing) → worth m state ≤ most_proposals m state.pointers
worth-le m state = sum-le (worth_of m state) (proposals_of m state.pointers) (length m.groups) 0 (λ i low high. omega arith)

-- no pointer falls by a proposal
pub pointer_rises : (m : Market) (old new : Standing) (g k units : ℕ) (freed : List Eviction) → IsPut m old new g k units freed → (h : ℕ) → h < length m.groups → slice_index old.pointers h ≤ slice_index new.pointers h
pointer_rises m old new g k units freed put h l = one (gave_up freed h (slice_index old.pointers h)) (slice_index old.pointers h) (slice_index new.pointers h) (put.pointers h l)
  where
    one : (b : Bool) (p q : ℕ) → q ≡ (if b then p + 1 else p) → p ≤ q
    one true p q e = omega arith
    one false p q e = omega arith

-- one proposal more
pub run_step : (m : Market) (start old new : Standing) (g k units : ℕ) (freed : List Eviction) → HasRun m start old → CanPut m old g k units → IsPut m old new g k units freed → HasRun m start new
run_step m start old new g k units freed before can put = record {
  ready = put.ready;
  pointers = λ h l. omega (arith, before.pointers h l, pointer_rises m old new g k units freed put h l);
  through = λ h j o past. less h j o past;
}
  where
    apart : (h j : ℕ) → j < slice_index old.pointers h → ((g == h) && nat_le k j) ≡ false
    apart h j past = elim (cases_Bool ((g == h) && nat_le k j)) [
      | inr e ↦ e
      | inl e ↦
          let p = and_parts (g == h) (nat_le k j) e in
          let eg : g ≡ h = eqb-true g h p.0 in
          let at : k ≡ slice_index old.pointers h = can.pointer ∙ ap (slice_index old.pointers) eg in
          let low : k ≤ j = leb-true k j p.1 in
          absurd (omega arith)
    ]

    less : (h j : ℕ) → IsOffer m h j → j < slice_index start.pointers h → placed_through new.lines h j ≤ placed_through start.lines h j
    less h j o past =
        let none : (if (g == h) && nat_le k j then units else 0) ≡ 0 = rw (apart h j (omega (arith, before.pointers h o.group))) refl in
        omega (arith, put.held (λ x y. (x == h) && nat_le y j), none, before.through h j o past)

-- a group that gave up nothing gave up nothing at any place
pub none_freed : (freed : List Eviction) (h : ℕ) → gave_any freed h ≡ false → freed_units (λ x _. x == h) freed ≡ 0
none_freed [] h none = refl
none_freed (e ∷ es) h none =
    let p = or_parts (e.offer.group.0 == h) (gave_any es h) none in
    let f : Eviction → ℕ = λ x. if x.offer.group.0 == h then x.units else 0 in
    let z : f e ≡ 0 = rw p.0 refl in
    omega (arith, sum_by-cons f e es, z, none_freed es h p.1)

pub none_at : (freed : List Eviction) (h k : ℕ) → gave_any freed h ≡ false → gave_up freed h k ≡ false
none_at [] h k none = refl
none_at (e ∷ es) h k none =
    let p = or_parts (e.offer.group.0 == h) (gave_any es h) none in
    rw p.0 (none_at es h k p.1)

-- a group that waits after a proposal waited before it, or gave up units
pub waited : (m : Market) (old new : Standing) (g k units : ℕ) (freed : List Eviction) → IsPut m old new g k units freed → (h : ℕ) → IsWaiting m new h → gave_any freed h ≡ false → IsWaiting m old h
waited m old new g k units freed put h w none =
    let same : slice_index new.pointers h ≡ slice_index old.pointers h = put.pointers h w.group ∙ ap (λ b. if b then slice_index old.pointers h + 1 else slice_index old.pointers h) (none_at freed h (slice_index old.pointers h) none) in
    record { group = w.group; free = omega (arith, put.free h w.group, none_freed freed h none, w.free); place = omega (arith, same, w.place) }

-- the list of work after a proposal: the group of the offer is on it again, and so are those that gave up units
pub covers_step : (m : Market) (old new : Standing) (g : ℕ) (freed : List Eviction) (rest work : List Bool) → CoversRest m old g rest → ((h : ℕ) → IsWaiting m new h → gave_any freed h ≡ false → IsWaiting m old h) → g < length m.groups → length work ≡ length rest
    → ((h : ℕ) → h < length rest → is_on work h ≡ (is_on (slice_set rest g true) h || gave_any freed h)) → CoversWork m new work
covers_step m old new g freed rest work covered before there count each = record {
  count = count ∙ covered.count;
  waiting = λ h w. each h (omega (arith, covered.count, w.group)) ∙ on h w;
}
  where
    on : (h : ℕ) → IsWaiting m new h → (is_on (slice_set rest g true) h || gave_any freed h) ≡ true
    on h w = elim (cases_Bool (gave_any freed h)) [
      | inl gave ↦ or_right (is_on (slice_set rest g true) h) (gave_any freed h) gave
      | inr none ↦ or_left (is_on (slice_set rest g true) h) (gave_any freed h) (elim (cases_eq h g) [
        | inl e ↦ get_or-set_at rest g h true false e (omega (arith, covered.count, there))
        | inr ne ↦ get_or-set_other rest g h true false ne ∙ still h ne (covered.waiting h (before h w none))
      ])
    ]
      where
        still : (h : ℕ) → (h ≡ g → ⊥) → (is_on rest h || (g == h)) ≡ true → is_on rest h ≡ true
        still h ne both = elim (or_cases (is_on rest h) (g == h) both) [ inl e ↦ e | inr e ↦ absurd (ne (sym (eqb-true g h e))) ]

-- a proposal is counted once, and the worth of the state falls by one at least
pub counted_step : (start worth0 old new was now : ℕ) (full : Bool) → new ≡ (if full then old else old + 1) → now < was → old + was ≤ start + worth0 → new + now ≤ start + worth0
counted_step start worth0 old new was now true e less before = omega arith
counted_step start worth0 old new was now false e less before = omega arith
