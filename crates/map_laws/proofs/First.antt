-- Where some offers have a property, one of them is ahead of all others.
use Rattle.std.proofs.Common.{◌≡◌, ℕ, zero, suc, ◌<◌, Bool, true, false, not, ◌&&◌, refl, sym, ◌∙◌, subst, inl, inr, arith}
use Rattle.std.proofs.lemmas.Bool.{and_from, cases_Bool, false_from_ne_true, false≢true, not-true, not_from_false}
use Rattle.map_model.specs.Market.{Market, key_of}
use Rattle.map_model.specs.Allocation.{key_le}
use Rattle.map_model.proofs.Keys.{key_le_itself, key_le_total, key_le_trans}
use Rattle.map_laws.proofs.Totals.{IsCounted, is_offer, is_offer-same, total, total-wider, total-without}

-- a strict order: whether the second offer is ahead of the first
pub record IsOrder (ahead : ℕ → ℕ → ℕ → ℕ → Bool) : Type 0 where
  pub itself : (g k : ℕ) → ahead g k g k ≡ true → ⊥
  pub trans : (g k h j i o : ℕ) → ahead g k h j ≡ true → ahead h j i o ≡ true → ahead g k i o ≡ true

module _ (size : ℕ) (ahead : ℕ → ℕ → ℕ → ℕ → Bool) (order : IsOrder ahead) where
  -- how many are ahead of one
  ahead_of : ℕ → ℕ → ℕ
  ahead_of g k = total size (λ h j. ahead g k h j) (λ _ _. 1)

  fewer : (g k h j : ℕ) → IsCounted size h j → ahead g k h j ≡ true → ahead_of h j < ahead_of g k
  unfolding ahead_of
  fewer g k h j c e = omega (
    arith,
    total-without size (λ i o. ahead g k i o) (λ _ _. 1) h j c e,
    total-wider size (λ i o. ahead h j i o) (λ i o. ahead g k i o && not (is_offer h j i o)) (λ _ _. 1) (λ i o t. and_from (ahead g k i o) (not (is_offer h j i o)) (order.trans g k h j i o e t) (elim (cases_Bool (is_offer h j i o)) [
      | inr f ↦ rw f refl
      | inl f ↦ let p = is_offer-same h j i o f in absurd (order.itself h j (subst (λ x. ahead h j x j ≡ true) p.0 (subst (λ y. ahead h j i y ≡ true) p.1 t)))
    ])),
  )

  from_count : (P : ℕ → ℕ → Type 0) → ((g k : ℕ) → P g k → IsCounted size g k) → ((g k : ℕ) → P g k → ((h j : ℕ) → P h j → ahead g k h j ≡ false) → ⊥) → (n g k : ℕ) → P g k → ahead_of g k < n → ⊥
  from_count P counted none zero g k p l = omega (arith, l)
  from_count P counted none (suc n) g k p l = none g k p (λ h j q. elim (cases_Bool (ahead g k h j)) [
    | inr e ↦ e
    | inl e ↦ absurd (from_count P counted none n h j q (omega (arith, l, fewer g k h j (counted h j q) e)))
  ])

  -- if none is ahead of all others, there is none
  pub no_first : (P : ℕ → ℕ → Type 0) → ((g k : ℕ) → P g k → IsCounted size g k) → ((g k : ℕ) → P g k → ((h j : ℕ) → P h j → ahead g k h j ≡ false) → ⊥) → (g k : ℕ) → P g k → ⊥
  no_first P counted none g k p = from_count P counted none (suc (ahead_of g k)) g k p (omega arith)

-- a test does not hold together with its denial
pub apart : (b : Bool) → not b ≡ true → b ≡ true → ⊥
apart b n e = false≢true (sym (not-true b n) ∙ e)

denied : (b : Bool) → (b ≡ true → ⊥) → not b ≡ true
denied b no_way = not_from_false b (false_from_ne_true b no_way)

-- the second is ranked higher
abbrev pub is_higher : Market → ℕ → ℕ → ℕ → ℕ → Bool
is_higher m g k h j = not (key_le (key_of m g k) (key_of m h j))

pub higher_order : (m : Market) → IsOrder (is_higher m)
higher_order m = record {
  itself = λ g k e. apart (key_le (key_of m g k) (key_of m g k)) e (key_le_itself (key_of m g k));
  trans = λ g k h j i o e f. denied (key_le (key_of m g k) (key_of m i o)) (λ le.
      let back : key_le (key_of m i o) (key_of m h j) ≡ true = key_le_total (key_of m h j) (key_of m i o) (not-true (key_le (key_of m h j) (key_of m i o)) f) in
      apart (key_le (key_of m g k) (key_of m h j)) e (key_le_trans (key_of m g k) (key_of m i o) (key_of m h j) le back));
}

-- the second is ranked lower
abbrev pub is_lower : Market → ℕ → ℕ → ℕ → ℕ → Bool
is_lower m g k h j = not (key_le (key_of m h j) (key_of m g k))

pub lower_order : (m : Market) → IsOrder (is_lower m)
lower_order m = record {
  itself = λ g k e. apart (key_le (key_of m g k) (key_of m g k)) e (key_le_itself (key_of m g k));
  trans = λ g k h j i o e f. denied (key_le (key_of m i o) (key_of m g k)) (λ le.
      let back : key_le (key_of m g k) (key_of m h j) ≡ true = key_le_total (key_of m h j) (key_of m g k) (not-true (key_le (key_of m h j) (key_of m g k)) e) in
      apart (key_le (key_of m i o) (key_of m h j)) f (key_le_trans (key_of m i o) (key_of m g k) (key_of m h j) le back));
}
