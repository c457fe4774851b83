-- How many proposals were made, and the counter.
use Rattle.std.proofs.Common.{◌≡◌, ℕ, zero, ◌+◌, ◌-◌, ◌^◌, ◌<◌, ◌≤◌, ◌==◌, nat_lt, false, List, if◌then◌else◌, suc, refl, sym, ap, ◌∙◌, inl, inr, arith}
use Rattle.std.proofs.lemmas.Bool.{cases_lt, eq-eqb, le-ltb, lt-ltb, ne_eqb}
use Rattle.map_model.specs.Market.{Market}
use Rattle.evict.specs.declared.freed.Eviction.{Eviction}
use Rattle.evict.specs.Standing.{Standing}
use Rattle.deferred_accept.specs.Runs.{AreProposals, HasProposed, IsSkip}
use Rattle.deferred_accept.specs.Work.{HasOffered}

-- a counter that rose by a number, and stands still at its end
abbrev pub risen : ℕ → ℕ → ℕ
risen before n = if nat_lt (before + n) (2 ^ 64) then before + n else 2 ^ 64 - 1

below : (before n : ℕ) → before + n < 2 ^ 64 → risen before n ≡ before + n
below before n l = ap (λ b. if b then before + n else 2 ^ 64 - 1) (lt-ltb (before + n) (2 ^ 64) l)

at_end : (before n : ℕ) → 2 ^ 64 ≤ before + n → risen before n ≡ 2 ^ 64 - 1
at_end before n l = ap (λ b. if b then before + n else 2 ^ 64 - 1) (le-ltb (before + n) (2 ^ 64) l)

-- one tick more
ticked : (before n was now : ℕ) → was ≡ risen before n → now ≡ (if was == 2 ^ 64 - 1 then was else was + 1) → now ≡ risen before (suc n)
ticked before n was now so tick = elim (cases_lt (before + suc n) (2 ^ 64)) [
  | inl room ↦
      let w : was ≡ before + n = so ∙ below before n (omega arith) in
      let more : (was == 2 ^ 64 - 1) ≡ false = ne_eqb was (2 ^ 64 - 1) (λ e. omega arith) in
      let n2 : now ≡ was + 1 = tick ∙ ap (λ b. if b then was else was + 1) more in
      omega (arith, w, n2, below before (suc n) room)
  | inr full ↦
      let w : was ≡ 2 ^ 64 - 1 = elim (cases_lt (before + n) (2 ^ 64)) [
        | inl room ↦ omega (arith, so, below before n room)
        | inr past ↦ so ∙ at_end before n past
      ] in
      let stays : now ≡ was = tick ∙ ap (λ b. if b then was else was + 1) (eq-eqb was (2 ^ 64 - 1) w) in
      stays ∙ w ∙ sym (at_end before (suc n) full)
]

-- a number more, and then another: a counter that stands at its end stays there
pub risen_twice : (before k n was now : ℕ) → before < 2 ^ 64 → was ≡ risen before k → now ≡ risen was n → now ≡ risen before (k + n)
risen_twice before k n was now l so then' = elim (cases_lt (before + k) (2 ^ 64)) [
  | inr past ↦
      let w : was ≡ 2 ^ 64 - 1 = so ∙ at_end before k past in
      elim (cases_lt (was + n) (2 ^ 64)) [
        | inl room ↦ omega (arith, then', below was n room, at_end before (k + n) (omega arith))
        | inr full ↦ then' ∙ at_end was n full ∙ sym (at_end before (k + n) (omega arith))
      ]
  | inl short ↦
      let w : was ≡ before + k = so ∙ below before k short in
      elim (cases_lt (was + n) (2 ^ 64)) [
        | inl room ↦ omega (arith, then', below was n room, below before (k + n) (omega arith))
        | inr full ↦ then' ∙ at_end was n full ∙ sym (at_end before (k + n) (omega arith))
      ]
]

-- no proposal yet
pub proposed_none : (m : Market) (start : Standing) (before : ℕ) → HasProposed m start start before before
proposed_none m start before = record { count = 0; proposals = (0, refl); counted = λ l. omega (arith, below before 0 (omega arith)) }

-- one proposal more
pub proposed_more : (m : Market) (start old new : Standing) (g : ℕ) (freed : List Eviction) (before was now : ℕ) → HasProposed m start old before was → HasOffered m old new g freed was now → HasProposed m start new before now
proposed_more m start old new g freed before was now sofar made = record {
  count = suc sofar.count;
  proposals = (old, new, 0, sofar.proposals, record { group = g; freed = freed; waiting = made.waiting; some = made.some; put = made.put }, refl);
  counted = λ l. ticked before sofar.count was now (sofar.counted l) made.counted;
}

-- a place that is skipped after some proposals
skip_more : (m : Market) (n : ℕ) (start old new : Standing) → AreProposals m n start old → IsSkip m old new → AreProposals m n start new
skip_more m zero start old new made skip = (suc made.0, (old, made.1, skip))
skip_more m (suc n) start old new made skip = (made.0, made.1, suc made.2, made.3, made.4, (old, made.5, skip))

-- is not counted
pub proposed_skip : (m : Market) (start old new : Standing) (before was : ℕ) → HasProposed m start old before was → IsSkip m old new → HasProposed m start new before was
proposed_skip m start old new before was sofar skip = record { count = sofar.count; proposals = skip_more m sofar.count start old new sofar.proposals skip; counted = sofar.counted }
