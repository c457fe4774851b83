-- The addresses of a family are the numbers of so many bits.
use Rattle.std.proofs.Common.{◌≡◌, ℕ, ◌-◌, ◌/◌, ◌^◌, ◌<◌, ◌≤◌, Some, true, eqb, refl, sym, ap, ◌∙◌, arith}
use Rattle.addr_text.specs.declared.address.Addr.{Addr}
use Rattle.addr_text.specs.declared.address.Addr.TheVariants.{V4, V6}
use Rattle.addr_text.specs.Addresses.{bits_of, value_of}
use Rattle.prefix_lookup.specs.declared.family.Family.{Family}
use Rattle.prefix_lookup.specs.declared.family.Family.TheVariants as family
use Rattle.prefix_lookup.specs.Family.{bits_in, address_in, number_in}
use Rattle.prefix_lookup.specs.Longest.{IsAddress, agrees}

pub same : (family : Family) (s m n : ℕ) → agrees s (address_in family m) (address_in family n) ≡ eqb (m / 2 ^ (bits_in family - s)) (n / 2 ^ (bits_in family - s))
same family.V4 s m n = refl
same family.V6 s m n = refl

pub fits : (family : Family) (n : ℕ) → n < 2 ^ bits_in family → IsAddress (address_in family n)
fits family.V4 n h = h
fits family.V6 n h = h

pub fits_back : (family : Family) (n : ℕ) → IsAddress (address_in family n) → n < 2 ^ bits_in family
fits_back family.V4 n h = h
fits_back family.V6 n h = h

pub width : (family : Family) (n : ℕ) → bits_of (address_in family n) ≡ bits_in family
width family.V4 n = refl
width family.V6 n = refl

pub wide : (family : Family) → bits_in family ≤ 128
wide family.V4 = omega arith
wide family.V6 = omega arith

number_back : (family : Family) (n : ℕ) → value_of (address_in family n) ≡ n
number_back family.V4 n = refl
number_back family.V6 n = refl

pub one_number : (family : Family) (m n : ℕ) → address_in family m ≡ address_in family n → m ≡ n
one_number family m n e = sym (number_back family m) ∙ ap value_of e ∙ number_back family n

-- the number of an address of the family
pub number_is : (family : Family) (n : ℕ) → number_in family (address_in family n) ≡ Some n
number_is family.V4 n = refl
number_is family.V6 n = refl

pub address_is : (family : Family) (a : Addr) (n : ℕ) → number_in family a ≡ Some n → a ≡ address_in family n
address_is family.V4 (V4 m) n e = let same : m ≡ n = cc in ap V4 same
address_is family.V4 (V6 m) n e = absurd cc
address_is family.V6 (V6 m) n e = let same : m ≡ n = cc in ap V6 same
address_is family.V6 (V4 m) n e = absurd cc

-- what agrees with an address of the family in some bits is of the family
pub of_family : (family : Family) (len n : ℕ) (start : Addr) → agrees len start (address_in family n) ≡ true → (m : ℕ) × (start ≡ address_in family m)
of_family family.V4 len n (V4 m) h = (m, refl)
of_family family.V4 len n (V6 m) h = absurd cc
of_family family.V6 len n (V6 m) h = (m, refl)
of_family family.V6 len n (V4 m) h = absurd cc

pub in_family : (family : Family) (len n : ℕ) (a : Addr) → agrees len (address_in family n) a ≡ true → (m : ℕ) × (a ≡ address_in family m)
in_family family.V4 len n (V4 m) h = (m, refl)
in_family family.V4 len n (V6 m) h = absurd cc
in_family family.V6 len n (V6 m) h = (m, refl)
in_family family.V6 len n (V4 m) h = absurd cc
