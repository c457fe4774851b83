-- The number of some decimal digits, digit by digit.
use Rattle.std.proofs.Common.{◌≡◌, ℕ, ◌+◌, ◌*◌, ◌<◌, ◌≤◌, List, [], ◌∷◌, length, get_or, true, refl, arith}
use Rattle.std.proofs.lemmas.Grind.{common_steps}
use Rattle.std.proofs.lemmas.List.Recursion.{and_at}
use Rattle.std.proofs.lemmas.Str.{digit_value_digit}
use Rattle.std.specs.Char.{is_ascii_digit, digit_value}
use Rattle.std.specs.List.{list_all}
use Rattle.std.specs.Str.Parse.{digits_value_after}

-- more digits make no number less
pub digits_more : (n : ℕ) (ds : List ℕ) → n ≤ digits_value_after 10 n ds
digits_more n [] = omega arith
digits_more n (d ∷ ds) = omega (arith, digits_more (n * 10 + digit_value d) ds)

-- the value of one of the digits
pub digit_here : (ds : List ℕ) (i : ℕ) → i < length ds → list_all is_ascii_digit ds ≡ true → digit_value (get_or ds i 0) + 48 ≡ get_or ds i 0
digit_here ds i lt all = grind (arith, common_steps, and_at (λ xs. list_all is_ascii_digit xs) is_ascii_digit refl (λ _ _. refl) ds i 0 lt all, digit_value_digit (get_or ds i 0))
