-- How many first bits tell two numbers apart, by the bits in which they differ.
use Rattle.std.proofs.Common.{◌≡◌, ℕ, suc, ◌+◌, ◌-◌, ◌/◌, ◌^◌, ◌<◌, ◌≤◌, sym, ap, subst, ◌∙◌, arith, inl, inr}
use Rattle.std.specs.Int.Bits.{bit_xor, xor_assoc, xor_self, xor_zero_l, xor_zero_r}
use Rattle.std.specs.Int.Count.{count_leading_zeros}
use Rattle.std.proofs.Math.Nat.{div-eq_of_lt}
use Rattle.std.proofs.Math.Pow.{pow_mono}
use Rattle.std.proofs.lemmas.Bool.{cases_lt}
use Rattle.std.proofs.lemmas.Nat.{leading_top, le-div, pow_pos, xor_lt, xor_shr}
use Rattle.prefix_lookup.specs.Parting.{PartsAt}

-- numbers that differ in no bit are one
no_bit : (a b : ℕ) → bit_xor a b ≡ 0 → a ≡ b
no_bit a b h = sym (xor_zero_r a) ∙ ap (bit_xor a) (sym (xor_self b)) ∙ sym (xor_assoc a b b) ∙ ap (λ (x : ℕ). bit_xor x b) h ∙ xor_zero_l b

some_bit : (a b : ℕ) → (a ≡ b → ⊥) → 0 < bit_xor a b
some_bit a b apart = elim (cases_lt 0 (bit_xor a b)) [ inl some ↦ some | inr none ↦ absurd (apart (no_bit a b (omega arith))) ]

-- the highest bit in which numbers of so many bits differ
top_bit : (bits a b : ℕ) → bits ≤ 128 → a < 2 ^ bits → b < 2 ^ bits → (a ≡ b → ⊥) → (j : ℕ) × (count_leading_zeros 128 (bit_xor a b) + suc j ≡ 128) × (2 ^ j ≤ bit_xor a b) × (bit_xor a b < 2 ^ suc j) × (j < bits)
top_bit bits a b wide fa fb apart =
    let small : bit_xor a b < 2 ^ bits = xor_lt bits a b fa fb in
    let fits : bit_xor a b < 2 ^ 128 = omega (arith, pow_mono wide) in
    let top = leading_top 128 (bit_xor a b) (some_bit a b apart) fits in
    let high : 2 ^ top.0 ≤ bit_xor a b = top.2 in
    let below : top.0 < bits = elim (cases_lt top.0 bits) [ inl lt ↦ lt | inr ge ↦ absurd (omega (arith, pow_mono ge)) ] in
    (top.0, top.1, high, top.3, below)

-- they have all bits in common that numbers of so many bits do not have
pub zeros : (bits a b : ℕ) → bits ≤ 128 → a < 2 ^ bits → b < 2 ^ bits → (a ≡ b → ⊥) → 128 - bits ≤ count_leading_zeros 128 (bit_xor a b)
zeros bits a b wide fa fb apart = let top = top_bit bits a b wide fa fb apart in omega (arith, top.1, top.4)

-- the highest bit in which they differ tells them apart
pub parts : (bits a b r : ℕ) → bits ≤ 128 → a < 2 ^ bits → b < 2 ^ bits → (a ≡ b → ⊥) → r + (128 - bits) ≡ count_leading_zeros 128 (bit_xor a b) + 1 → PartsAt bits a b r
parts bits a b r wide fa fb apart is =
    let top = top_bit bits a b wide fa fb apart in
    let j : ℕ = top.0 in
    let sum : count_leading_zeros 128 (bit_xor a b) + suc j ≡ 128 = top.1 in
    let high : 2 ^ j ≤ bit_xor a b = top.2 in
    let below : j < bits = top.4 in
    let rest : bits - r ≡ j = omega arith in
    let more : bits - (r - 1) ≡ suc j = omega arith in
    record {
      some = omega arith;
      within = omega arith;
      alike = subst (λ (k : ℕ). a / 2 ^ k ≡ b / 2 ^ k) (sym more) (no_bit (a / 2 ^ suc j) (b / 2 ^ suc j) (sym (xor_shr a b (suc j)) ∙ div-eq_of_lt top.3));
      apart = λ e. differs j (subst (λ (k : ℕ). a / 2 ^ k ≡ b / 2 ^ k) rest e) high;
    }
  where
    differs : (j : ℕ) → a / 2 ^ j ≡ b / 2 ^ j → 2 ^ j ≤ bit_xor a b → ⊥
    differs j e high =
        let none : bit_xor a b / 2 ^ j ≡ 0 = xor_shr a b j ∙ ap (bit_xor (a / 2 ^ j)) (sym e) ∙ xor_self (a / 2 ^ j) in
        omega (arith, le-div 1 (bit_xor a b) (2 ^ j) (pow_pos j) (omega arith))
