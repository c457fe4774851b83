-- What is written of digits is read as them.
use Rattle.std.proofs.Common.{◌≡◌, ℕ, ◌+◌, ◌/◌, ◌%◌, ◌<◌, ◌≤◌, ◌^◌, ◌==◌, Bool, true, false, not, cond, ◌&&◌, nat_le, nat_lt, List, [], ◌∷◌, length, map, Option, None, Some, option_map, refl, ap, ◌∙◌, arith, ◌⊎◌, inl, inr}
use Rattle.std.proofs.lemmas.Bool.Decides.{nat_tests}
use Rattle.std.proofs.lemmas.List.{length-map}
use Rattle.addr_text.specs.Numbers.{all_of, decimal_digit, digits_in, hex_digit, in_base, is_plain, number_of, only_if, together}
use Rattle.addr_text.specs.Groups.{group_of}
use Rattle.addr_text.specs.Written.{decimal_count, decimal_text, digit_char, hex_count, hex_text}
use Rattle.addr_text.proofs.Splits.{Lacks}
use Rattle.addr_text.proofs.Bases.{AllBelow, digits_below, length-digits, value_digits}

-- the character of a digit
pub char_low : (d : ℕ) → d < 10 → digit_char d ≡ 48 + d
char_low d low = let t : nat_lt d 10 ≡ true = grind (arith, nat_tests) in ap (λ b. cond b (48 + d) (87 + d)) t

pub char_high : (d : ℕ) → 10 ≤ d → digit_char d ≡ 87 + d
char_high d high = let t : nat_lt d 10 ≡ false = grind (arith, nat_tests) in ap (λ b. cond b (48 + d) (87 + d)) t

decimal_at : (d : ℕ) → d < 10 → decimal_digit (48 + d) ≡ Some d
decimal_at d low = grind (arith, nat_tests)

pub decimal_char : (d : ℕ) → d < 10 → decimal_digit (digit_char d) ≡ Some d
decimal_char d low = ap decimal_digit (char_low d low) ∙ decimal_at d low

hex_low : (d : ℕ) → d < 10 → hex_digit (48 + d) ≡ Some d
hex_low d low = grind (arith, nat_tests)

hex_high : (d : ℕ) → 10 ≤ d → d < 16 → hex_digit (87 + d) ≡ Some d
hex_high d high low = grind (arith, nat_tests)

pub hex_char : (d : ℕ) → d < 16 → hex_digit (digit_char d) ≡ Some d
hex_char d below = go (nat_lt d 10) refl
  where
    go : (b : Bool) → nat_lt d 10 ≡ b → hex_digit (digit_char d) ≡ Some d
    go true t = let low : d < 10 = grind (arith, nat_tests) in ap hex_digit (char_low d low) ∙ hex_low d low
    go false t = let high : 10 ≤ d = grind (arith, nat_tests) in ap hex_digit (char_high d high) ∙ hex_high d high below

-- the values of what was written of some digits
chars_of : (value : ℕ → Option ℕ) (limit : ℕ) (ds : List ℕ) → ((d : ℕ) → d < limit → value (digit_char d) ≡ Some d) → AllBelow limit ds → all_of value (map digit_char ds) ≡ Some ds
chars_of value limit [] reads below = refl
chars_of value limit (d ∷ ds) reads below =
    ap (λ (o : Option ℕ). together o (all_of value (map digit_char ds))) (reads d below.0) ∙ ap (together (Some d)) (chars_of value limit ds reads below.1)

-- a text of 1 to 4 hexadecimal digits
group_by : (count g : ℕ) → 1 ≤ count → count ≤ 4 → g < 16 ^ count → group_of (map digit_char (digits_in 16 count g)) ≡ Some g
group_by count g some few small =
    let size : length (map digit_char (digits_in 16 count g)) ≡ count = length-map (digits_in 16 count g) digit_char ∙ length-digits 16 count g in
    let low : nat_le 1 (length (map digit_char (digits_in 16 count g))) ≡ true = grind (arith, nat_tests) in
    let high : nat_le (length (map digit_char (digits_in 16 count g))) 4 ≡ true = grind (arith, nat_tests) in
    ap (λ b. cond (b && nat_le (length (map digit_char (digits_in 16 count g))) 4) (option_map (in_base 16) (all_of hex_digit (map digit_char (digits_in 16 count g)))) None) low
    ∙ ap (λ b. cond b (option_map (in_base 16) (all_of hex_digit (map digit_char (digits_in 16 count g)))) None) high
    ∙ ap (option_map (in_base 16)) (chars_of hex_digit 16 (digits_in 16 count g) hex_char (digits_below 16 count g (omega arith)))
    ∙ ap Some (value_digits 16 count g (omega arith) small)

-- what the count of a group's digits is
pub record HasCount (base most n count : ℕ) : Type 0 where
  pub some : 1 ≤ count
  pub few : count ≤ most
  pub holds : n < base ^ count

pub hex_counted : (g : ℕ) → g < 65536 → HasCount 16 4 g (hex_count g)
hex_counted g small = go (nat_lt g 16) (nat_lt g 256) (nat_lt g 4096) refl refl refl
  where
    go : (a b c : Bool) → nat_lt g 16 ≡ a → nat_lt g 256 ≡ b → nat_lt g 4096 ≡ c → HasCount 16 4 g (cond a 1 (cond b 2 (cond c 3 4)))
    go true b c ta tb tc = record { some = omega arith; few = omega arith; holds = grind (arith, nat_tests) }
    go false true c ta tb tc = record { some = omega arith; few = omega arith; holds = grind (arith, nat_tests) }
    go false false true ta tb tc = record { some = omega arith; few = omega arith; holds = grind (arith, nat_tests) }
    go false false false ta tb tc = record { some = omega arith; few = omega arith; holds = omega arith }

pub group_again : (g : ℕ) → g < 65536 → group_of (hex_text g) ≡ Some g
group_again g small = let count = hex_counted g small in group_by (hex_count g) g count.some count.few count.holds

-- a dot or a colon is no digit
apart_low : (c d : ℕ) → (c ≡ 46) ⊎ (c ≡ 58) → d < 10 → (48 + d == c) ≡ false
apart_low c d (inl is) low = grind (arith, nat_tests)
apart_low c d (inr is) low = grind (arith, nat_tests)

apart_high : (c d : ℕ) → (c ≡ 46) ⊎ (c ≡ 58) → (87 + d == c) ≡ false
apart_high c d (inl is) = grind (arith, nat_tests)
apart_high c d (inr is) = grind (arith, nat_tests)

no_mark : (c d : ℕ) → (c ≡ 46) ⊎ (c ≡ 58) → (digit_char d == c) ≡ false
no_mark c d mark = go (nat_lt d 10) refl
  where
    go : (b : Bool) → nat_lt d 10 ≡ b → (digit_char d == c) ≡ false
    go true t = let low : d < 10 = grind (arith, nat_tests) in ap (λ (n : ℕ). n == c) (char_low d low) ∙ apart_low c d mark low
    go false t = let high : 10 ≤ d = grind (arith, nat_tests) in ap (λ (n : ℕ). n == c) (char_high d high) ∙ apart_high c d mark

no_marks : (c : ℕ) (ds : List ℕ) → (c ≡ 46) ⊎ (c ≡ 58) → Lacks c (map digit_char ds)
no_marks c [] mark = tt
no_marks c (d ∷ ds) mark = (no_mark c d mark, no_marks c ds mark)

pub no_dot_hex : (g : ℕ) → Lacks 46 (hex_text g)
no_dot_hex g = no_marks 46 (digits_in 16 (hex_count g) g) (inl refl)

pub no_colon_hex : (g : ℕ) → Lacks 58 (hex_text g)
no_colon_hex g = no_marks 58 (digits_in 16 (hex_count g) g) (inr refl)

pub no_dot_decimal : (n : ℕ) → Lacks 46 (decimal_text n)
no_dot_decimal n = no_marks 46 (digits_in 10 (decimal_count n) n) (inl refl)

-- a group has a digit
pub some_hex : (g : ℕ) → 0 < length (hex_text g)
some_hex g = let some = hex_some g in omega (arith, length-map (digits_in 16 (hex_count g) g) digit_char, length-digits 16 (hex_count g) g)
  where
    hex_some : (h : ℕ) → 1 ≤ hex_count h
    hex_some h = go (nat_lt h 16) (nat_lt h 256) (nat_lt h 4096)
      where
        go : (a b c : Bool) → 1 ≤ cond a 1 (cond b 2 (cond c 3 4))
        go true b c = omega arith
        go false true c = omega arith
        go false false true = omega arith
        go false false false = omega arith

-- a number of 0 to 255 has as many digits, the first of two or three no zero
plain_two : (n : ℕ) → 10 ≤ n → n < 100 → is_plain (map digit_char (digits_in 10 2 n)) ≡ true
unfolding digits_in
plain_two n high low =
    let first : 1 ≤ n / 10 % 10 = omega arith in
    let small : n / 10 % 10 < 10 = omega arith in
    let other : (48 + n / 10 % 10 == 48) ≡ false = grind (arith, nat_tests) in
    ap (λ t. not t) (ap (λ (c : ℕ). c == 48) (char_low (n / 10 % 10) small) ∙ other)

plain_three : (n : ℕ) → 100 ≤ n → n < 256 → is_plain (map digit_char (digits_in 10 3 n)) ≡ true
unfolding digits_in
plain_three n high low =
    let first : 1 ≤ n / 10 / 10 % 10 = omega arith in
    let small : n / 10 / 10 % 10 < 10 = omega arith in
    let other : (48 + n / 10 / 10 % 10 == 48) ≡ false = grind (arith, nat_tests) in
    ap (λ t. not t) (ap (λ (c : ℕ). c == 48) (char_low (n / 10 / 10 % 10) small) ∙ other)

plain_one : (n : ℕ) → is_plain (map digit_char (digits_in 10 1 n)) ≡ true
unfolding digits_in
plain_one n = refl

number_by : (count n : ℕ) → is_plain (map digit_char (digits_in 10 count n)) ≡ true → n < 256 → n < 10 ^ count → number_of 255 (map digit_char (digits_in 10 count n)) ≡ Some n
number_by count n plain low small =
    let under : nat_le n 255 ≡ true = grind (arith, nat_tests) in
    ap (λ b. cond b (only_if (λ m. nat_le m 255) (option_map (in_base 10) (all_of decimal_digit (map digit_char (digits_in 10 count n))))) None) plain
    ∙ ap (λ (o : Option (List ℕ)). only_if (λ m. nat_le m 255) (option_map (in_base 10) o)) (chars_of decimal_digit 10 (digits_in 10 count n) decimal_char (digits_below 10 count n (omega arith)))
    ∙ ap (λ (m : ℕ). only_if (λ k. nat_le k 255) (Some m)) (value_digits 10 count n (omega arith) small)
    ∙ ap (λ b. cond b (Some n) None) under

pub decimal_again : (n : ℕ) → n < 256 → number_of 255 (decimal_text n) ≡ Some n
decimal_again n low = go (nat_lt n 10) (nat_lt n 100) refl refl
  where
    go : (a b : Bool) → nat_lt n 10 ≡ a → nat_lt n 100 ≡ b → number_of 255 (map digit_char (digits_in 10 (cond a 1 (cond b 2 3)) n)) ≡ Some n
    go true b ta tb = number_by 1 n (plain_one n) low (grind (arith, nat_tests))
    go false true ta tb = number_by 2 n (plain_two n (grind (arith, nat_tests)) (grind (arith, nat_tests))) low (grind (arith, nat_tests))
    go false false ta tb = number_by 3 n (plain_three n (grind (arith, nat_tests)) low) low (omega arith)
