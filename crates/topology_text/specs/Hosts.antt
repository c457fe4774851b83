-- The addresses of a node, by family.
use Rattle.std.specs.Prelude.{ℕ, ◌≤◌, ◌==◌, List, length, Bool, true, false, IsTrue, All, if◌then◌else◌}
use Rattle.addr_text.specs.declared.address.Addr.{Addr}
use Rattle.addr_text.specs.declared.address.Addr.TheVariants.{V4, V6}

-- a node's addresses of either family, in the file's order
pub record HostLists : Type 0 where
  pub v4 : List Addr
  pub v6 : List Addr

-- the addresses for records of a kind: 1 is A, 28 is AAAA (RFC 1035 section 3.2.2, RFC 3596 section 2.1)
abbrev pub addresses_at : HostLists → ℕ → List Addr
addresses_at h kind = if kind == 28 then h.v6 else h.v4

-- whether an address is of version 4
abbrev pub is_v4 : Addr → Bool
is_v4 (V4 bits) = true
is_v4 (V6 bits) = false

-- whether an address is of version 6
abbrev pub is_v6 : Addr → Bool
is_v6 (V4 bits) = false
is_v6 (V6 bits) = true

-- at most forty addresses of each family, each in the list of its own
pub record IsHosts (h : HostLists) : Type 0 where
  pub few_v4 : length h.v4 ≤ 40
  pub few_v6 : length h.v6 ≤ 40
  pub v4 : All (λ a. IsTrue (is_v4 a)) h.v4
  pub v6 : All (λ a. IsTrue (is_v6 a)) h.v6
