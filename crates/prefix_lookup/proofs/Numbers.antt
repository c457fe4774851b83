-- Numbers of so many bits that have the same first bits.
use Rattle.std.proofs.Common.{◌≡◌, ℕ, ◌+◌, ◌-◌, ◌*◌, ◌/◌, ◌^◌, ◌<◌, ◌≤◌, true, false, ◌||◌, eqb, leb, sym, ap, subst, ◌∙◌, arith, eq-eqb, inl, inr, div-lt_iff_lt-mul}
use Rattle.std.specs.Prelude.{not}
use Rattle.std.proofs.Math.Pow.{pow_pos}
use Rattle.std.proofs.lemmas.Bool.{or_cases, not-true, eqb-true, leb-true, cases_lt, both_ways, false_from_ne_true}
use Rattle.std.proofs.lemmas.Nat.{shr-shr, shl-shr, shl_below, pow-add}

-- what is the same above more bits is the same above fewer
pub same_above : (j k a b : ℕ) → j ≤ k → a / 2 ^ j ≡ b / 2 ^ j → a / 2 ^ k ≡ b / 2 ^ k
same_above j k a b le h =
    let e : j + (k - j) ≡ k = omega arith in
    let one : a / 2 ^ (j + (k - j)) ≡ b / 2 ^ (j + (k - j)) = sym (shr-shr a j (k - j)) ∙ ap (λ (x : ℕ). x / 2 ^ (k - j)) h ∙ shr-shr b j (k - j) in
    subst (λ (n : ℕ). a / 2 ^ n ≡ b / 2 ^ n) e one

-- a prefix that is no longer than a block of numbers, or does not begin in it, holds all of its numbers or none
pub held_alike : (bits s len a b start : ℕ) → (leb len s || not (eqb (a / 2 ^ (bits - s)) (start / 2 ^ (bits - s)))) ≡ true → a / 2 ^ (bits - s) ≡ b / 2 ^ (bits - s) → eqb (start / 2 ^ (bits - len)) (b / 2 ^ (bits - len)) ≡ eqb (start / 2 ^ (bits - len)) (a / 2 ^ (bits - len))
held_alike bits s len a b start h same =
    elim (cases_lt s len) [
      | inr short ↦
          let e : a / 2 ^ (bits - len) ≡ b / 2 ^ (bits - len) = same_above (bits - s) (bits - len) a b (omega arith) same in
          ap (λ (x : ℕ). eqb (start / 2 ^ (bits - len)) x) (sym e)
      | inl long ↦
          let outside : (a / 2 ^ (bits - s) ≡ start / 2 ^ (bits - s)) → ⊥ = λ e. away long h e in
          let not_b : eqb (start / 2 ^ (bits - len)) (b / 2 ^ (bits - len)) ≡ false = false_from_ne_true _ (λ t. outside (same ∙ sym (same_above (bits - len) (bits - s) start b (omega arith) (eqb-true _ _ t)))) in
          let not_a : eqb (start / 2 ^ (bits - len)) (a / 2 ^ (bits - len)) ≡ false = false_from_ne_true _ (λ t. outside (sym (same_above (bits - len) (bits - s) start a (omega arith) (eqb-true _ _ t)))) in
          not_b ∙ sym not_a
    ]
  where
    away : s < len → (leb len s || not (eqb (a / 2 ^ (bits - s)) (start / 2 ^ (bits - s)))) ≡ true → a / 2 ^ (bits - s) ≡ start / 2 ^ (bits - s) → ⊥
    away long h e =
        elim (or_cases (leb len s) (not (eqb (a / 2 ^ (bits - s)) (start / 2 ^ (bits - s)))) h) [
          | inl le ↦ let few : len ≤ s = leb-true _ _ le in omega arith
          | inr out ↦ both_ways (eqb (a / 2 ^ (bits - s)) (start / 2 ^ (bits - s))) (not-true _ out) (eq-eqb _ _ e)
        ]

-- the two halves of a block of 2 ^ (k + 1) numbers begin in it
pub half_of : (m e k : ℕ) → e < 2 → (2 * m + e) * 2 ^ k / 2 ^ (k + 1) ≡ m
half_of m e k small = sym (shr-shr ((2 * m + e) * 2 ^ k) k 1) ∙ ap (λ (x : ℕ). x / 2 ^ 1) (shl-shr (2 * m + e) k) ∙ halved
  where
    halved : (2 * m + e) / 2 ^ 1 ≡ m
    halved = omega arith

pub half_fits : (m e k s : ℕ) → e < 2 → m < 2 ^ s → (2 * m + e) * 2 ^ k < 2 ^ (s + (k + 1))
half_fits m e k s small below =
    let double : 2 ^ (s + 1) ≡ 2 ^ s * 2 = pow-add 2 s 1 in
    let one : 2 * m + e < 2 ^ (s + 1) = omega arith in
    let e2 : (s + 1) + k ≡ s + (k + 1) = omega arith in
    subst (λ (n : ℕ). (2 * m + e) * 2 ^ k < 2 ^ n) e2 (shl_below (2 * m + e) (s + 1) k one)

-- no block of 2 ^ j numbers has numbers of both halves of another with more
pub not_both_halves : (j k m : ℕ) → j ≤ k → 2 * m * 2 ^ k / 2 ^ j ≡ (2 * m + 1) * 2 ^ k / 2 ^ j → ⊥
not_both_halves j k m le halves =
    let both : 2 * m * 2 ^ k / 2 ^ k ≡ (2 * m + 1) * 2 ^ k / 2 ^ k = same_above j k (2 * m * 2 ^ k) ((2 * m + 1) * 2 ^ k) le halves in
    omega (arith, sym (shl-shr (2 * m) k) ∙ both ∙ shl-shr (2 * m + 1) k)

-- a number in a block of numbers of so many bits has as many
pub fits_alike : (a b s w : ℕ) → a / 2 ^ w < 2 ^ s → a / 2 ^ w ≡ b / 2 ^ w → b < 2 ^ (s + w)
fits_alike a b s w small same =
    let lt : b / 2 ^ w < 2 ^ s = subst (λ (n : ℕ). n < 2 ^ s) same small in
    let below : b < 2 ^ s * 2 ^ w = (div-lt_iff_lt-mul (pow_pos w)).0 lt in
    subst (λ (n : ℕ). b < n) (sym (pow-add 2 s w)) below
