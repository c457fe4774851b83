-- Decimal numbers without leading zeros.
use Rattle.std.specs.Prelude.{ℕ, List, Bool, ◌&&◌, nat_le, nat_lt, slice_index, if◌then◌else◌, Option, None, Some}
use Rattle.std.specs.Char.{is_ascii_digit}
use Rattle.std.specs.List.{list_all}
use Rattle.std.specs.Str.Parse.{digits_value}

-- decimal digits, of which the first is not 0
abbrev pub is_plain : List ℕ → Bool
is_plain text = nat_lt 48 (slice_index text 0) && list_all is_ascii_digit text

-- the decimal number from 1 to a limit that a text writes, without sign or leading zeros
unfoldable pub count_of : ℕ → List ℕ → Option ℕ
count_of limit text = if is_plain text && (nat_le 1 (digits_value 10 text) && nat_le (digits_value 10 text) limit) then Some (digits_value 10 text) else None
