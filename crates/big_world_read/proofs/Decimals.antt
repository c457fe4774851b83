-- Decimals are digits alone, few of them, and tell their numbers.
use Rattle.std.proofs.Common.{◌≡◌, ℕ, ◌+◌, ◌%◌, ◌<◌, ◌≤◌, ◌^◌, Bool, true, false, ◌&&◌, ◌||◌, ◌==◌, List, [], ◌∷◌, ◌++◌, length, ap, ◌∙◌, arith, ◌⊎◌, inl, inr}
use Rattle.std.proofs.lemmas.Bool.Decides.{nat_tests}
use Rattle.std.proofs.lemmas.Fmt.{decimal_by_steps, decimal_injective, decimal_nonempty, length-decimal-le}
use Rattle.std.proofs.lemmas.List.Folds.{list_all-append, list_any-append}
use Rattle.std.specs.Fmt.{decimal}
use Rattle.std.specs.List.{list_all, list_any}

-- what each digit passes, a decimal passes
pub decimal_passes : (test : ℕ → Bool) → ((d : ℕ) → d < 10 → test (48 + d) ≡ true) → (m : ℕ) → m < 2 ^ 64 → list_all test (decimal m) ≡ true
decimal_passes test each m small = decimal_by_steps (λ n ds. list_all test ds ≡ true) one more m small
  where
    one : (n : ℕ) → n < 10 → list_all test ((48 + n) ∷ []) ≡ true
    one n low = ap (λ b. b && true) (each n low)

    more : (n : ℕ) (ds : List ℕ) → 10 ≤ n → list_all test ds ≡ true → list_all test (ds ++ ((48 + n % 10) ∷ [])) ≡ true
    more n ds high front = list_all-append test ds ((48 + n % 10) ∷ []) ∙ ap (λ b. b && list_all test ((48 + n % 10) ∷ [])) front ∙ ap (λ b. b && true) (each (n % 10) (omega arith))

-- what no digit passes, nothing in a decimal passes
pub decimal_lacks : (test : ℕ → Bool) → ((d : ℕ) → d < 10 → test (48 + d) ≡ false) → (m : ℕ) → m < 2 ^ 64 → list_any test (decimal m) ≡ false
decimal_lacks test each m small = decimal_by_steps (λ n ds. list_any test ds ≡ false) one more m small
  where
    one : (n : ℕ) → n < 10 → list_any test ((48 + n) ∷ []) ≡ false
    one n low = ap (λ b. b || false) (each n low)

    more : (n : ℕ) (ds : List ℕ) → 10 ≤ n → list_any test ds ≡ false → list_any test (ds ++ ((48 + n % 10) ∷ [])) ≡ false
    more n ds high front = list_any-append test ds ((48 + n % 10) ∷ []) ∙ ap (λ b. b || list_any test ((48 + n % 10) ∷ [])) front ∙ ap (λ b. b || false) (each (n % 10) (omega arith))

-- an octet below or above the digits is none of them
pub decimal_has_no : (c : ℕ) → (c < 48) ⊎ (57 < c) → (m : ℕ) → m < 2 ^ 64 → list_any (λ b. b == c) (decimal m) ≡ false
decimal_has_no c (inl low) m small = decimal_lacks (λ b. b == c) (λ d h. grind (arith, nat_tests)) m small
decimal_has_no c (inr high) m small = decimal_lacks (λ b. b == c) (λ d h. grind (arith, nat_tests)) m small

-- one at least, and as many as the number is below a power of ten
pub decimal_some : (m : ℕ) → m < 2 ^ 64 → 1 ≤ length (decimal m)
decimal_some m small = decimal_nonempty m small

pub decimal_short : (k m : ℕ) → 0 < k → m < 10 ^ k → m < 2 ^ 64 → length (decimal m) ≤ k
decimal_short k m some low small = length-decimal-le k m some low small

pub decimal_five : (m : ℕ) → m < 100000 → length (decimal m) ≤ 5
decimal_five m small = length-decimal-le 5 m (omega arith) small (omega arith)

-- two numbers of one decimal are one
pub decimal_tells : (m n : ℕ) → m < 2 ^ 64 → n < 2 ^ 64 → decimal m ≡ decimal n → m ≡ n
decimal_tells m n = decimal_injective m n
