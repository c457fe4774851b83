-- The one text of an address (RFC 5952 section 4 for IPv6).
use Rattle.std.specs.Prelude.{◌≡◌, ℕ, ◌+◌, ◌<◌, ◌≤◌, ◌==◌, List, ◌∷◌, ◌++◌, length, map, take, drop, nat_lt, if◌then◌else◌}
use Rattle.std.specs.List.{join_with_byte, prefix_len}
use Rattle.addr_text.specs.declared.address.Addr.{Addr}
use Rattle.addr_text.specs.declared.address.Addr.TheVariants.{V4, V6}
use Rattle.addr_text.specs.Numbers.{digits_in}

-- a digit below 16, a letter in lower case
abbrev pub digit_char : ℕ → ℕ
digit_char d = if nat_lt d 10 then 48 + d else 87 + d

-- how many decimal digits a number of 0 to 255 has
abbrev pub decimal_count : ℕ → ℕ
decimal_count n = if nat_lt n 10 then 1 else if nat_lt n 100 then 2 else 3

-- how many hexadecimal digits a group has
abbrev pub hex_count : ℕ → ℕ
hex_count g = if nat_lt g 16 then 1 else if nat_lt g 256 then 2 else if nat_lt g 4096 then 3 else 4

-- a number of 0 to 255, without leading zeros
abbrev pub decimal_text : ℕ → List ℕ
decimal_text n = map digit_char (digits_in 10 (decimal_count n) n)

-- a group, without leading zeros
abbrev pub hex_text : ℕ → List ℕ
hex_text g = map digit_char (digits_in 16 (hex_count g) g)

-- a dot and a number
abbrev pub dot_text : ℕ → List ℕ
dot_text n = 46 ∷ decimal_text n

-- a colon and a group
abbrev pub colon_text : ℕ → List ℕ
colon_text g = 58 ∷ hex_text g

-- numbers joined by dots
abbrev pub dotted : List ℕ → List ℕ
dotted ns = join_with_byte 46 (map decimal_text ns)

-- groups joined by colons
abbrev pub coloned : List ℕ → List ℕ
coloned gs = join_with_byte 58 (map hex_text gs)

-- how many groups of zeros stand from a group on
abbrev pub run_at : List ℕ → ℕ → ℕ
run_at gs i = prefix_len (λ g. g == 0) (drop i gs)

-- the longest run of zeros begins at i, the first of equals
pub record IsLongest (gs : List ℕ) (i : ℕ) : Type 0 where
  pub within : i < length gs
  pub first : (j : ℕ) → j < i → run_at gs j < run_at gs i
  pub longest : (j : ℕ) → j < length gs → run_at gs j ≤ run_at gs i

-- the text of groups: all of them where no run has two zeros; else `::` for the longest run
pub record IsGroupsText (gs text : List ℕ) : Type 0 where
  pub plain : ((j : ℕ) → j < length gs → run_at gs j < 2) → text ≡ coloned gs
  pub short : (i : ℕ) → IsLongest gs i → 2 ≤ run_at gs i → text ≡ coloned (take i gs) ++ 58 ∷ 58 ∷ coloned (drop (i + run_at gs i) gs)

-- the text of an address
abbrev pub IsTextOf : Addr → List ℕ → Type 0
IsTextOf (V4 n) text = text ≡ dotted (digits_in 256 4 n)
IsTextOf (V6 n) text = IsGroupsText (digits_in 65536 8 n) text
