-- The digits of a number give the number back.
use Rattle.std.proofs.Common.{◌≡◌, ◌≢◌, ◌==◌, false, true, ℕ, zero, suc, ◌+◌, ◌-◌, ◌*◌, ◌/◌, ◌%◌, ◌<◌, ◌≤◌, ◌^◌, List, [], ◌∷◌, ◌++◌, length, refl, ap, sym, ◌∙◌, arith, length-append, append_assoc}
use Rattle.std.proofs.lemmas.Bool.Decides.{nat_tests}
use Rattle.std.proofs.Math.Nat.{div-add-mod, mod-lt, mul_comm, pow-succ', pow-zero}
use Rattle.std.proofs.lemmas.Nat.{row_below_turned}
use Rattle.addr_text.specs.Numbers.{digits_in, in_base}
use Rattle.addr_text.proofs.Counted.{onto}

onto-push : (base n d : ℕ) (xs : List ℕ) → onto base n (xs ++ d ∷ []) ≡ base * onto base n xs + d
onto-push base n d [] = refl
onto-push base n d (x ∷ xs) = onto-push base (base * n + x) d xs

div_below : (base n high : ℕ) → 1 ≤ base → n < base * high → n / base < high
div_below base n high some small = (row_below_turned n base high base (omega (arith, mul_comm base high)) (omega arith)).1

whole : (base n : ℕ) → 1 ≤ base → base * (n / base) + n % base ≡ n
whole base n some = div-add-mod n base

-- a number below a power of the base has so many digits
pub value_digits : (base count n : ℕ) → 1 ≤ base → n < base ^ count → in_base base (digits_in base count n) ≡ n
unfolding digits_in
value_digits base zero n some small = omega (arith, pow-zero base)
value_digits base (suc count) n some small =
    let less : n < base * base ^ count = omega (arith, pow-succ' base count) in
    onto-push base 0 (n % base) (digits_in base count (n / base))
    ∙ ap (λ (m : ℕ). base * m + n % base) (value_digits base count (n / base) some (div_below base n (base ^ count) some less))
    ∙ whole base n some

pub length-digits : (base count n : ℕ) → length (digits_in base count n) ≡ count
unfolding digits_in
length-digits base zero n = refl
length-digits base (suc count) n = omega (arith, length-append (digits_in base count (n / base)) (n % base ∷ []), length-digits base count (n / base))

-- each is below the base
abbrev pub AllBelow : ℕ → List ℕ → Type 0
AllBelow limit [] = Unit {0}
AllBelow limit (x ∷ xs) = (x < limit) × AllBelow limit xs

below-push : (limit d : ℕ) (xs : List ℕ) → AllBelow limit xs → d < limit → AllBelow limit (xs ++ d ∷ [])
below-push limit d [] all below = (below, tt)
below-push limit d (x ∷ xs) all below = (all.0, below-push limit d xs all.1 below)

pub digits_below : (base count n : ℕ) → 1 ≤ base → AllBelow base (digits_in base count n)
unfolding digits_in
digits_below base zero n some = tt
digits_below base (suc count) n some = below-push base (n % base) (digits_in base count (n / base)) (digits_below base count (n / base) some) (mod-lt n some)

-- the last digit, moved to the front of those that were taken
pub digit_moved : (base count left n : ℕ) (taken all : List ℕ) → left ≡ suc count → digits_in base left n ++ taken ≡ all → digits_in base count (n / base) ++ n % base ∷ taken ≡ all
unfolding digits_in
digit_moved base count left n taken all is before =
    sym (append_assoc (digits_in base count (n / base)) (n % base ∷ []) taken) ∙ ap (λ (k : ℕ). digits_in base k n ++ taken) (sym is) ∙ before

pub not_full : (limit size : ℕ) → (size == limit) ≡ false → size ≤ limit → size < limit
not_full limit size free fits = let other : size ≢ limit = grind (arith, nat_tests) in omega arith

pub is_full : (limit size : ℕ) → (size == limit) ≡ true → limit - size ≡ 0
is_full limit size full = let is : size ≡ limit = grind (arith, nat_tests) in omega arith

pub all_moved : (base left n : ℕ) (taken all : List ℕ) → left ≡ 0 → digits_in base left n ++ taken ≡ all → taken ≡ all
unfolding digits_in
all_moved base left n taken all none before = ap (λ (k : ℕ). digits_in base k n ++ taken) (sym none) ∙ before
