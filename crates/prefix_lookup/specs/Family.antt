-- Inside this crate alone: a family's addresses as the numbers of so many bits.
use Rattle.std.specs.Prelude.{ℕ, Option, None, Some}
use Rattle.addr_text.specs.declared.address.Addr.{Addr}
use Rattle.addr_text.specs.declared.address.Addr.TheVariants.{V4, V6}
use Rattle.prefix_lookup.specs.declared.family.Family.{Family}
use Rattle.prefix_lookup.specs.declared.family.Family.TheVariants as family

-- how many bits its addresses have
abbrev pub bits_in : Family → ℕ
bits_in family.V4 = 32
bits_in family.V6 = 128

-- its address of a number
abbrev pub address_in : Family → ℕ → Addr
address_in family.V4 n = V4 n
address_in family.V6 n = V6 n

-- the number of an address, if it is of the family
abbrev pub number_in : Family → Addr → Option ℕ
number_in family.V4 (V4 n) = Some n
number_in family.V6 (V6 n) = Some n
number_in _ _ = None
