-- The number of at most nineteen decimal digits.
use Rattle.std.proofs.Common.{◌≡◌, ℕ, ◌<◌, ◌≤◌, ◌^◌, List, [], ◌∷◌, length, true, ◌&&◌, nat_le, arith}
use Rattle.std.proofs.Math.Nat.{pow-le-pow_right}
use Rattle.std.proofs.lemmas.Bool.{and_parts}
use Rattle.std.proofs.lemmas.Bool.Decides.{nat_tests}
use Rattle.std.proofs.lemmas.Grind.{common_steps}
use Rattle.std.proofs.lemmas.Int.Digits.{digits_value-lt}
use Rattle.std.proofs.lemmas.Str.{digit_value_digit}
use Rattle.std.specs.Char.{is_ascii_digit}
use Rattle.std.specs.List.{list_all}
use Rattle.std.specs.Str.Parse.{AllDigits, digits_value}
use Rattle.demand_feed.specs.Line.{is_number}

all_digits : (ds : List ℕ) → list_all is_ascii_digit ds ≡ true → AllDigits 10 ds
all_digits [] h = tt
all_digits (d ∷ ds) h =
    let both = and_parts (is_ascii_digit d) (list_all is_ascii_digit ds) h in
    (grind (arith, common_steps, both.0, digit_value_digit d), all_digits ds both.1)

-- it is below 2^64
pub few_digits : (ds : List ℕ) → list_all is_ascii_digit ds ≡ true → length ds ≤ 19 → digits_value 10 ds < 2 ^ 64
few_digits ds all few = omega (arith, digits_value-lt 10 ds (all_digits ds all), pow-le-pow_right {n = 10} (omega arith) {i = length ds} {j = 19} few)

pub number_small : (word : List ℕ) → is_number word ≡ true → digits_value 10 word < 2 ^ 64
number_small word h =
    let both = and_parts (nat_le 1 (length word) && nat_le (length word) 19) (list_all is_ascii_digit word) h in
    let few = (and_parts (nat_le 1 (length word)) (nat_le (length word) 19) both.0).1 in
    few_digits word both.1 (grind (arith, nat_tests, few))
