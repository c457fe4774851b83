-- The numbers of a block lie between its ends.
use Rattle.std.proofs.Common.{◌≡◌, ℕ, ◌+◌, ◌-◌, ◌*◌, ◌/◌, ◌%◌, ◌^◌, ◌<◌, ◌≤◌, true, refl, sym, ap, subst, ◌∙◌, arith, eq-eqb, inl, inr, mul-le-mul_left}
use Rattle.std.proofs.lemmas.Bool.{eqb-true, cases_lt}
use Rattle.std.proofs.lemmas.Nat.{shr_below, shr_split, pow-add, pow_pos, div-mul-add, mod_below}
use Rattle.prefix_lookup.specs.declared.block.Block.{Block}
use Rattle.prefix_lookup.specs.declared.family.Family.{Family}
use Rattle.prefix_lookup.specs.Blocks.{IsBlock, end_of, entry_of}
use Rattle.prefix_lookup.specs.Family.{bits_in, address_in}
use Rattle.prefix_lookup.specs.Longest.{holds}
use Rattle.prefix_lookup.specs.Sweep.{IsOuter}
use Rattle.prefix_lookup.proofs.Families.{same}
use Rattle.prefix_lookup.proofs.Numbers.{same_above}

-- numbers that are the same above their last k bits lie within 2 ^ k
pub in_block : (k a b : ℕ) → a / 2 ^ k ≡ b / 2 ^ k → (a / 2 ^ k * 2 ^ k ≤ b) × (b < a / 2 ^ k * 2 ^ k + 2 ^ k)
in_block k a b e =
    let low : ℕ = b / 2 ^ k * 2 ^ k in
    let same : a / 2 ^ k * 2 ^ k ≡ low = ap (λ (q : ℕ). q * 2 ^ k) e in
    let parts : low + b % 2 ^ k ≡ b = shr_split b k in
    let small : b % 2 ^ k < 2 ^ k = mod_below b (2 ^ k) (pow_pos k) in
    (omega arith, omega arith)

pub of_block : (k a b : ℕ) → a / 2 ^ k * 2 ^ k ≤ b → b < a / 2 ^ k * 2 ^ k + 2 ^ k → a / 2 ^ k ≡ b / 2 ^ k
of_block k a b low high =
    let r : ℕ = b - a / 2 ^ k * 2 ^ k in
    let is : a / 2 ^ k * 2 ^ k + r ≡ b = omega arith in
    sym (ap (λ (n : ℕ). n / 2 ^ k) (sym is) ∙ div-mul-add (a / 2 ^ k) (2 ^ k) r (omega arith))

-- a block ends with the numbers
pub block_fits : (bits s a : ℕ) → s ≤ bits → a < 2 ^ bits → a / 2 ^ (bits - s) * 2 ^ (bits - s) + 2 ^ (bits - s) ≤ 2 ^ bits
block_fits bits s a le small =
    let k : ℕ = bits - s in
    let wide : s + k ≡ bits = omega arith in
    let q : ℕ = a / 2 ^ k in
    let below : q < 2 ^ s = shr_below a s k (subst (λ (n : ℕ). a < 2 ^ n) (sym wide) small) in
    let product : 2 ^ k * (q + 1) ≤ 2 ^ k * 2 ^ s = mul-le-mul_left (2 ^ k) (omega arith) in
    let all : 2 ^ bits ≡ 2 ^ s * 2 ^ k = ap (λ (n : ℕ). 2 ^ n) (sym wide) ∙ pow-add 2 s k in
    omega arith

-- the prefix of a block holds its numbers, and no others
pub inside : (family : Family) (b : Block) (n : ℕ) → IsBlock family b → holds (entry_of family b).0 (address_in family n) ≡ true → (b.first ≤ n) × (n < end_of family b)
inside family b n is h =
    let e : b.first / 2 ^ (bits_in family - b.len) ≡ n / 2 ^ (bits_in family - b.len) = eqb-true _ _ (sym (same family b.len b.first n) ∙ h) in
    let within = in_block (bits_in family - b.len) b.first n e in
    let clear = is.clear in
    (omega (arith, within.0), omega (arith, within.1))

alike : (family : Family) (b : Block) (n : ℕ) → IsBlock family b → b.first ≤ n → n < end_of family b → b.first / 2 ^ (bits_in family - b.len) ≡ n / 2 ^ (bits_in family - b.len)
alike family b n is from to = let clear = is.clear in of_block (bits_in family - b.len) b.first n (omega arith) (omega arith)

pub held : (family : Family) (b : Block) (n : ℕ) → IsBlock family b → b.first ≤ n → n < end_of family b → holds (entry_of family b).0 (address_in family n) ≡ true
held family b n is from to = same family b.len b.first n ∙ eq-eqb _ _ (alike family b n is from to)

-- blocks with a common number, of one length, begin at one number
pub one_first : (family : Family) (b c : Block) (n : ℕ) → IsBlock family b → IsBlock family c → b.len ≡ c.len → b.first ≤ n → n < end_of family b → c.first ≤ n → n < end_of family c → b.first ≡ c.first
one_first family b c n is also len from to from' to' =
    let k : ℕ = bits_in family - b.len in
    let e : b.first / 2 ^ k ≡ n / 2 ^ k = alike family b n is from to in
    let f : c.first / 2 ^ k ≡ n / 2 ^ k = subst (λ (l : ℕ). c.first / 2 ^ (bits_in family - l) ≡ n / 2 ^ (bits_in family - l)) (sym len) (alike family c n also from' to') in
    let clear : c.first / 2 ^ k * 2 ^ k ≡ c.first = subst (λ (l : ℕ). c.first / 2 ^ (bits_in family - l) * 2 ^ (bits_in family - l) ≡ c.first) (sym len) also.clear in
    sym is.clear ∙ ap (λ (q : ℕ). q * 2 ^ k) (e ∙ sym f) ∙ clear

-- a block that begins in another, and is no longer a prefix where both begin at one number, lies in it
pub nested : (family : Family) (b c : Block) → IsBlock family b → IsBlock family c → b.first ≤ c.first → c.first < end_of family b → (b.first ≡ c.first → b.len ≤ c.len) → IsOuter family b c
nested family b c is also from to tied =
    let bits : ℕ = bits_in family in
    let j : ℕ = bits - b.len in
    let k : ℕ = bits - c.len in
    let e : b.first / 2 ^ j ≡ c.first / 2 ^ j = alike family b c.first is from to in
    let no_shorter : b.len ≤ c.len = elim (cases_lt c.len b.len) [
      | inr le ↦ le
      | inl lt ↦ (
          let f : b.first / 2 ^ k ≡ c.first / 2 ^ k = same_above j k b.first c.first (omega arith) e in
          let low = in_block k b.first b.first refl in
          let same : b.first / 2 ^ k * 2 ^ k ≡ c.first = ap (λ (q : ℕ). q * 2 ^ k) f ∙ also.clear in
          tied (omega (arith, low.0)))
    ] in
    let last : ℕ = c.first + 2 ^ k - 1 in
    let some : 0 < 2 ^ k = pow_pos k in
    let g : c.first / 2 ^ k ≡ last / 2 ^ k = alike family c last also (omega arith) (omega arith) in
    let h : b.first / 2 ^ j ≡ last / 2 ^ j = e ∙ same_above k j c.first last (omega arith) g in
    let room = in_block j b.first last h in
    let clear = is.clear in
    record { len = no_shorter; end = omega (arith, room.1) }
