-- The options of an extension record.
use Rattle.std.specs.Prelude.{ℕ, zero, suc, ◌+◌, nat_lt, if◌then◌else◌, List, [], ◌∷◌, length, take, drop, Option, None, Some}
use Rattle.dns_wire.specs.Wire.{◌>>=◌, u16_at}

-- an option: its code, and its octets (RFC 6891 6.1.2)
pub record EdnsOption : Type 0 where
  pub code : ℕ
  pub octets : List ℕ

-- a code, a length, and that many octets; and what follows
abbrev pub option_in : List ℕ → Option (EdnsOption × List ℕ)
option_in octets =
    let size = u16_at 2 octets in
    if nat_lt (length octets) (4 + size) then None
    else Some (record { code = u16_at 0 octets; octets = take size (drop 4 octets) }, drop size (drop 4 octets))

-- one option after the other, at most so many, up to the end
unfoldable pub at_most : ℕ → List ℕ → Option (List EdnsOption)
at_most count [] = Some []
at_most zero (_ ∷ _) = None
at_most (suc count) (octet ∷ octets) = do
  first ← option_in (octet ∷ octets)
  others ← at_most count first.1
  Some (first.0 ∷ others)

-- the options that fill the octets exactly: none takes fewer than four
abbrev pub options_in : List ℕ → Option (List EdnsOption)
options_in octets = at_most (length octets) octets
