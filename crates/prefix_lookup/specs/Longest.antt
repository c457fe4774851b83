-- The longest prefix that holds an address. The addresses of a family are the numbers of so many bits.
use Rattle.std.specs.Prelude.{ℕ, ◌-◌, ◌/◌, ◌^◌, ◌<◌, ◌≤◌, Bool, true, false, ◌&&◌, ◌==◌, nat_lt, not, List, Option, find, option_map, All, Contains, IsTrue}
use Rattle.std.specs.List.{list_any}
use Rattle.addr_text.specs.declared.address.Addr.{Addr}
use Rattle.addr_text.specs.declared.address.Addr.TheVariants.{V4, V6}
use Rattle.addr_text.specs.declared.address.Prefix.{Prefix}
use Rattle.addr_text.specs.Addresses.{bits_of, value_of}
use Rattle.map_model.specs.declared.instance.GroupId.{GroupId}

-- a number of as many bits as an address of its family has
abbrev pub IsAddress : Addr → Type 0
IsAddress a = value_of a < 2 ^ bits_of a

-- the two addresses are of one family
abbrev pub is_of_family : Addr → Addr → Bool
is_of_family (V4 m) (V4 n) = true
is_of_family (V6 m) (V6 n) = true
is_of_family _ _ = false

-- the first s bits of an address, as a number
abbrev pub leading : ℕ → Addr → ℕ
leading s a = value_of a / 2 ^ (bits_of a - s)

-- the two addresses are of one family, and have the same first s bits
abbrev pub agrees : ℕ → Addr → Addr → Bool
agrees s a b = is_of_family a b && (leading s a == leading s b)

-- the prefix holds the address
abbrev pub holds : Prefix → Addr → Bool
holds p a = agrees p.len p.addr a

-- some prefix of the table that holds the address is longer than the entry's
abbrev pub is_surpassed : List (Prefix × GroupId) → Addr → Prefix × GroupId → Bool
is_surpassed table a e = list_any (λ f. holds f.0 a && nat_lt e.0.len f.0.len) table

-- the entry's prefix holds the address, and no prefix of the table that holds it is longer
abbrev pub is_longest : List (Prefix × GroupId) → Addr → Prefix × GroupId → Bool
is_longest table a e = holds e.0 a && not (is_surpassed table a e)

-- the entry of the longest prefix that holds the address
unfoldable pub longest : List (Prefix × GroupId) → Addr → Option (Prefix × GroupId)
longest table a = find (is_longest table a) table

-- what makes an entry that of the longest prefix: it is of the table, its prefix holds the address, and no prefix of the table that holds it is longer
pub record IsLongest (table : List (Prefix × GroupId)) (a : Addr) (e : Prefix × GroupId) : Type 0 where
  pub among : Contains table e
  pub holding : IsTrue (holds e.0 a)
  pub most : All (λ f. IsTrue (holds f.0 a) → f.0.len ≤ e.0.len) table

-- the group of the longest prefix that holds the address
abbrev pub group_of : List (Prefix × GroupId) → Addr → Option GroupId
group_of table a = option_map (λ e. e.1) (longest table a)

-- the group is that of an entry of the longest prefix
abbrev pub HasLongest : List (Prefix × GroupId) → Addr → GroupId → Type 0
HasLongest table a g = (p : Prefix) × IsLongest table a (p, g)
