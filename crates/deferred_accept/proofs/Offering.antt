-- One step of a run: a group offers what fits under the limit at its pointer, or skips the place where none does.
use Rattle.std.proofs.Common.{◌≡◌, ℕ, ◌+◌, ◌-◌, ◌^◌, ◌<◌, ◌≤◌, ◌==◌, List, [], IsTrue, if◌then◌else◌, min, slice_index, slice_set, refl, ap, ◌∙◌, subst, inl, inr, arith}
use Rattle.std.specs.Prelude.{Result, Ok, Err, OnOk}
use Rattle.std.proofs.Math.Nat.{le-min}
use Rattle.std.proofs.lemmas.Bool.{cases_eq, eq-eqb}
use Rattle.map_model.specs.declared.instance.Offer.{Offer}
use Rattle.map_model.specs.Market.{Market, limit_of}
use Rattle.map_model.specs.Allocation.{amount_at, is_at_limit}
use Rattle.evict.specs.declared.freed.Eviction.{Eviction}
use Rattle.evict.specs.Standing.{IsPut, IsReady, Standing}
use Rattle.deferred_accept.specs.Runs.{offered}
use Rattle.deferred_accept.specs.Work.{HasStepped, IsDueOffer}

pub on_ok_both : {T E : Type 0} (r : Result T E) (P Q R : Type 0) → (P → Q → R) → OnOk r P → OnOk r Q → OnOk r R
on_ok_both (Ok x) P Q R f p q = f p q
on_ok_both (Err e) P Q R f p q = p

-- the units that a group offers, as they are computed
pub units_are : (m : Market) (s : Standing) (o : Offer) (f r u : ℕ) → IsDueOffer m s o → f ≡ slice_index s.free o.group.0 → r ≡ limit_of m o.group.0 o.place - amount_at s.lines o.group.0 o.place → u ≡ min f r → u ≡ offered m s o.group.0
units_are m s o f r u due free room units =
    units ∙ ap (λ x. min x r) free ∙ ap (λ x. min (slice_index s.free o.group.0) x) (room ∙ ap (λ k. limit_of m o.group.0 k - amount_at s.lines o.group.0 k) due.pointer)

-- where some fit they are offered
pub stepped_offered : (m : Market) (old new : Standing) (o : Offer) (u : ℕ) (freed : List Eviction) (before after : ℕ) → IsDueOffer m old o → u ≡ offered m old o.group.0 → 0 < u → IsPut m old new o.group.0 o.place u freed
    → after ≡ (if before == 2 ^ 64 - 1 then before else before + 1) → HasStepped m old new o.group.0 freed before after
stepped_offered m old new o u freed before after due is some put counted = inr (record {
  waiting = due.waiting;
  some = subst (λ x. 0 < x) is some;
  put = subst (λ x. IsPut m old new o.group.0 (slice_index old.pointers o.group.0) x freed) is (subst (λ k. IsPut m old new o.group.0 k u freed) due.pointer put);
  counted = counted;
})

-- where none fits the offer is at its limit
pub at_limit : (m : Market) (s : Standing) (o : Offer) (u : ℕ) → IsReady m s → IsDueOffer m s o → u ≡ offered m s o.group.0 → (0 < u → ⊥) → IsTrue (is_at_limit m s.lines o.group.0 (slice_index s.pointers o.group.0))
at_limit m s o u ready due is none =
    let g : ℕ = o.group.0 in
    let p : ℕ = slice_index s.pointers g in
    let room : ℕ = limit_of m g p - amount_at s.lines g p in
    let fits = ready.resumable.limits g p (record { group = due.waiting.group; place = due.waiting.place }) in
    eq-eqb (amount_at s.lines g p) (limit_of m g p) (elim (cases_eq room 0) [
      | inl e ↦ omega (arith, e, fits)
      | inr some ↦ let one : 1 ≤ min (slice_index s.free g) room = le-min (omega (arith, due.waiting.free)) (omega (arith, some)) in absurd (none (omega (arith, is, one)))
    ])

-- and the place is skipped
pub stepped_skipped : (m : Market) (old new : Standing) (o : Offer) (u : ℕ) (freed : List Eviction) (before : ℕ) → IsReady m old → IsDueOffer m old o → u ≡ offered m old o.group.0 → (0 < u → ⊥) → freed ≡ []
    → new ≡ record old { pointers = slice_set old.pointers o.group.0 (o.place + 1) } → HasStepped m old new o.group.0 freed before before
stepped_skipped m old new o u freed before ready due is none nothing set = inl (record {
  skip = record {
    group = o.group.0;
    waiting = due.waiting;
    full = at_limit m old o u ready due is none;
    skipped = set ∙ ap (λ k. record old { pointers = slice_set old.pointers o.group.0 (k + 1) }) due.pointer;
  };
  group = refl;
  nothing = nothing;
  same = refl;
})
