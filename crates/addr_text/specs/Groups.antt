-- The numbers in an address's text: four of IPv4, eight groups of IPv6 (RFC 4291 section 2.2, forms 1 and 2).
use Rattle.std.specs.Prelude.{ℕ, ◌+◌, ◌-◌, List, [], ◌∷◌, ◌++◌, length, drop, Bool, false, ◌&&◌, ◌==◌, nat_le, if◌then◌else◌, Option, None, Some, option_map, replicate}
use Rattle.text_parts.specs.Parts.{parts}
use Rattle.addr_text.specs.Numbers.{all_of, hex_digit, in_base, number_of, only_if}

-- the four numbers of an IPv4 text, joined by dots, each 0 to 255
abbrev pub v4_numbers : List ℕ → Option (List ℕ)
v4_numbers text = only_if (λ ns. length ns == 4) (all_of (number_of 255) (parts 46 text))

-- a group: one to four hexadecimal digits
abbrev pub group_of : List ℕ → Option ℕ
group_of text = if nat_le 1 (length text) && nat_le (length text) 4 then option_map (in_base 16) (all_of hex_digit text) else None

-- groups joined by colons
abbrev pub joined_groups : List ℕ → Option (List ℕ)
joined_groups text = all_of group_of (parts 58 text)

-- on either side of `::` there may be no group
abbrev pub side_groups : List ℕ → Option (List ℕ)
side_groups [] = Some []
side_groups (b ∷ bs) = joined_groups (b ∷ bs)

-- a text that begins with `::`
abbrev pub begins_double : List ℕ → Bool
begins_double [] = false
begins_double (a ∷ []) = false
begins_double (a ∷ b ∷ rest) = (a == 58) && (b == 58)

-- one more octet in front of the left side
abbrev pub on_left : ℕ → List ℕ × List ℕ → List ℕ × List ℕ
on_left b sides = (b ∷ sides.0, sides.1)

-- what stands before and what stands after the first `::`
abbrev pub sides : List ℕ → Option (List ℕ × List ℕ)
sides [] = None
sides (b ∷ rest) = if begins_double (b ∷ rest) then Some ([], drop 1 rest) else option_map (on_left b) (sides rest)

-- the groups of the two sides, and between them zeros for one or more groups, eight in all
abbrev pub filled : Option (List ℕ) → Option (List ℕ) → Option (List ℕ)
filled None right = None
filled (Some ls) None = None
filled (Some ls) (Some rs) = if nat_le (length ls + length rs) 7 then Some (ls ++ replicate (8 - (length ls + length rs)) 0 ++ rs) else None

-- with `::` its two sides, filled; without, eight groups
abbrev pub groups_by : Option (List ℕ × List ℕ) → List ℕ → Option (List ℕ)
groups_by None text = only_if (λ gs. length gs == 8) (joined_groups text)
groups_by (Some two) text = filled (side_groups two.0) (side_groups two.1)

-- the eight groups of an IPv6 text
abbrev pub v6_groups : List ℕ → Option (List ℕ)
v6_groups text = groups_by (sides text) text
