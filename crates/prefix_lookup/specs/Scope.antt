-- The scope of an address: how many of its first bits decide its longest prefix.
use Rattle.std.specs.Prelude.{◌≡◌, ℕ, ◌<◌, ◌≤◌, Bool, ◌||◌, nat_le, not, List, IsTrue}
use Rattle.std.specs.List.{list_all, position_or_len, range_with_len}
use Rattle.addr_text.specs.declared.address.Addr.{Addr}
use Rattle.addr_text.specs.declared.address.Prefix.{Prefix}
use Rattle.addr_text.specs.Addresses.{bits_of}
use Rattle.map_model.specs.declared.instance.GroupId.{GroupId}
use Rattle.prefix_lookup.specs.Longest.{IsAddress, agrees, longest}

-- all addresses that agree with this one in their first s bits have the same longest prefix
abbrev pub IsUniform : List (Prefix × GroupId) → Addr → ℕ → Type 0
IsUniform table a s = (b : Addr) → IsAddress b → IsTrue (agrees s a b) → longest table b ≡ longest table a

-- the least such number of bits
pub record IsScope (table : List (Prefix × GroupId)) (a : Addr) (s : ℕ) : Type 0 where
  pub within : s ≤ bits_of a
  pub uniform : IsUniform table a s
  pub least : (t : ℕ) → t < s → IsUniform table a t → ⊥

-- no prefix longer than s bits begins among the addresses that agree with this one in s bits
abbrev pub is_undivided : List (Prefix × GroupId) → Addr → ℕ → Bool
is_undivided table a s = list_all (λ e. nat_le e.0.len s || not (agrees s a e.0.addr)) table

-- the scope, as a number that computes: the first of the numbers 0, 1, 2, .. of bits at which nothing divides; all bits of the address where it is none below
unfoldable pub scope_of : List (Prefix × GroupId) → Addr → ℕ
scope_of table a = position_or_len (is_undivided table a) (range_with_len 0 (bits_of a))
