-- Numbers and their digits.
use Rattle.std.specs.Prelude.{ℕ, zero, suc, ◌+◌, ◌-◌, ◌*◌, ◌/◌, ◌%◌, List, [], ◌∷◌, ◌++◌, length, Bool, ◌&&◌, ◌||◌, not, ◌==◌, nat_le, if◌then◌else◌, Option, None, Some, option_map, slice_index}
use Rattle.std.specs.List.{fold}

-- the number that digits stand for, the highest first
abbrev pub in_base : ℕ → List ℕ → ℕ
in_base base digits = fold (λ n d. base * n + d) 0 digits

-- the last so many digits of a number, the highest first
unfoldable pub digits_in : ℕ → ℕ → ℕ → List ℕ
digits_in base zero n = []
digits_in base (suc count) n = digits_in base count (n / base) ++ (n % base) ∷ []

-- a value and some more, where all are there
abbrev pub together : Option ℕ → Option (List ℕ) → Option (List ℕ)
together None vs = None
together (Some v) None = None
together (Some v) (Some vs) = Some (v ∷ vs)

-- the values of all items, where each item has one
abbrev pub all_of : {X : Type 0} → (X → Option ℕ) → List X → Option (List ℕ)
all_of value [] = Some []
all_of value (x ∷ xs) = together (value x) (all_of value xs)

-- a value that passes the test
abbrev pub only_if : {X : Type 0} → (X → Bool) → Option X → Option X
only_if test None = None
only_if test (Some x) = if test x then Some x else None

-- the value of a decimal digit
abbrev pub decimal_digit : ℕ → Option ℕ
decimal_digit b = if nat_le 48 b && nat_le b 57 then Some (b - 48) else None

-- the value of a hexadecimal digit of either case
abbrev pub hex_digit : ℕ → Option ℕ
hex_digit b =
    if nat_le 48 b && nat_le b 57 then Some (b - 48)
    else if nat_le 97 b && nat_le b 102 then Some (b - 87)
    else if nat_le 65 b && nat_le b 70 then Some (b - 55)
    else None

-- a text that has a digit, and no zero in front of others
abbrev pub is_plain : List ℕ → Bool
is_plain text = nat_le 1 (length text) && (nat_le (length text) 1 || not (slice_index text 0 == 48))

-- a decimal number without leading zeros, no higher than the limit
abbrev pub number_of : ℕ → List ℕ → Option ℕ
number_of limit text = if is_plain text then only_if (λ n. nat_le n limit) (option_map (in_base 10) (all_of decimal_digit text)) else None
