-- Octets that are read as numbers of several octets at once: where the numbers are the same, the octets are.
use Rattle.std.proofs.Common.{◌≡◌, ℕ, zero, suc, ◌+◌, ◌*◌, ◌/◌, ◌^◌, ◌<◌, ◌≤◌, Bool, ◌&&◌, List, [], ◌∷◌, length, drop, refl, sym, ap, ◌∙◌, arith}
use Rattle.std.specs.Prelude.{slice_index}
use Rattle.std.specs.Char.{to_ascii_lowercase}
use Rattle.std.proofs.Math.Nat.{mul-le-mul_right}
use Rattle.std.proofs.lemmas.Nat.{div-mul-add, pow-add}
use Rattle.std.proofs.lemmas.Bool.{eq-eqb}
use Rattle.std.proofs.lemmas.List.{drop-drop, get_or-drop, length-drop}
use Rattle.byteorder.specs.Endian.{big_from, big_number}
use Rattle.name_text.specs.Names.{is_same}

-- each is below 256, and so is what is read past the end
abbrev pub AreOctets : List ℕ → Type 0
AreOctets xs = (i : ℕ) → slice_index xs i < 256

-- a number of so many octets
below : (n i : ℕ) (xs : List ℕ) → AreOctets xs → big_from i n xs < 256 ^ n
below zero i xs each = omega arith
below (suc n) i xs each =
    let q : ℕ = 256 ^ n in
    let rest : big_from (suc i) n xs < q = below n (suc i) xs each in
    let top : slice_index xs i * q ≤ 255 * q = mul-le-mul_right q (omega (arith, each i)) in
    let power : 256 ^ (n + 1) ≡ q * 256 = pow-add 256 n 1 in
    omega (arith, rest, top, power)

-- the first octets, and the numbers of the others
first_octet : (n i : ℕ) (xs ys : List ℕ) → AreOctets xs → AreOctets ys → big_from i (suc n) xs ≡ big_from i (suc n) ys → slice_index xs i ≡ slice_index ys i
first_octet n i xs ys x y e =
    sym (div-mul-add (slice_index xs i) (256 ^ n) (big_from (suc i) n xs) (below n (suc i) xs x))
    ∙ ap (λ (m : ℕ). m / 256 ^ n) e
    ∙ div-mul-add (slice_index ys i) (256 ^ n) (big_from (suc i) n ys) (below n (suc i) ys y)

others : (n i : ℕ) (xs ys : List ℕ) → AreOctets xs → AreOctets ys → big_from i (suc n) xs ≡ big_from i (suc n) ys → big_from (suc i) n xs ≡ big_from (suc i) n ys
others n i xs ys x y e = omega (arith, e, ap (λ (m : ℕ). m * 256 ^ n) (first_octet n i xs ys x y e))

octet_at : (n i : ℕ) (xs ys : List ℕ) → AreOctets xs → AreOctets ys → big_from i n xs ≡ big_from i n ys → (j : ℕ) → j < n → slice_index xs (i + j) ≡ slice_index ys (i + j)
octet_at zero i xs ys x y e j lt = absurd (omega (arith, lt))
octet_at (suc n) i xs ys x y e zero lt = ap (slice_index xs) (omega arith) ∙ first_octet n i xs ys x y e ∙ ap (slice_index ys) (omega arith)
octet_at (suc n) i xs ys x y e (suc j) lt = ap (slice_index xs) (omega arith) ∙ octet_at n (suc i) xs ys x y (others n i xs ys x y e) j (omega (arith, lt)) ∙ ap (slice_index ys) (omega arith)

-- the same octets at the front leave what is behind them
front : (k : ℕ) (xs ys : List ℕ) → k ≤ length xs → k ≤ length ys → ((j : ℕ) → j < k → slice_index xs j ≡ slice_index ys j) → is_same xs ys ≡ is_same (drop k xs) (drop k ys)
front zero xs ys le more each = refl
front (suc k) [] ys le more each = absurd (omega (arith, le))
front (suc k) (x ∷ xs) [] le more each = absurd (omega (arith, more))
front (suc k) (x ∷ xs) (y ∷ ys) le more each =
    ap (λ (b : Bool). b && is_same xs ys) (eq-eqb _ _ (ap to_ascii_lowercase (each 0 (omega arith))))
    ∙ front k xs ys (omega (arith, le)) (omega (arith, more)) (λ j lt. each (suc j) (omega (arith, lt)))

octets_from : (at : ℕ) (xs : List ℕ) → AreOctets xs → AreOctets (drop at xs)
octets_from at xs each = λ i. omega (arith, get_or-drop at xs i 0, each (at + i))

-- one word on
pub word_on : (a b : List ℕ) (at : ℕ) (all : Bool) → at + 8 ≤ length a → length a ≡ length b → AreOctets a → AreOctets b → big_number 8 (drop at a) ≡ big_number 8 (drop at b) → is_same (drop at a) (drop at b) ≡ all → is_same (drop (at + 8) a) (drop (at + 8) b) ≡ all
word_on a b at all fits size x y e so_far =
    let same : (j : ℕ) → j < 8 → slice_index (drop at a) j ≡ slice_index (drop at b) j = λ j lt. ap (slice_index (drop at a)) (omega arith) ∙ octet_at 8 0 (drop at a) (drop at b) (octets_from at a x) (octets_from at b y) e j lt ∙ ap (slice_index (drop at b)) (omega arith) in
    sym (front 8 (drop at a) (drop at b) (omega (arith, fits, length-drop at a)) (omega (arith, fits, size, length-drop at b)) same
    ∙ ap (λ (l : List ℕ). is_same l (drop 8 (drop at b))) (drop-drop 8 at a)
    ∙ ap (λ (l : List ℕ). is_same (drop (at + 8) a) l) (drop-drop 8 at b))
    ∙ so_far
