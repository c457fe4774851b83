-- Addresses, prefixes and listen texts.
use Rattle.std.specs.Prelude.{◌≡◌, ℕ, ◌≤◌, ◌-◌, ◌%◌, ◌^◌, List, length, Bool, true, ◌&&◌, ◌==◌, if◌then◌else◌, Option, None, Some, option_map, slice_index, slice_range}
use Rattle.std.specs.List.{before_first, after_first, before_last, after_last}
use Rattle.std.specs.Option.{option_and_then, option_or}
use Rattle.addr_text.specs.declared.address.Addr.{Addr}
use Rattle.addr_text.specs.declared.address.Addr.TheVariants.{V4, V6}
use Rattle.addr_text.specs.declared.address.Prefix.{Prefix}
use Rattle.addr_text.specs.declared.address.Listen.{Listen}
use Rattle.addr_text.specs.Numbers.{in_base, number_of, only_if}
use Rattle.addr_text.specs.Groups.{v4_numbers, v6_groups}

-- the address of an IPv4 text
abbrev pub v4_of : List ℕ → Option Addr
v4_of text = option_map (λ ns. V4 (in_base 256 ns)) (v4_numbers text)

-- the address of an IPv6 text
abbrev pub v6_of : List ℕ → Option Addr
v6_of text = option_map (λ gs. V6 (in_base 65536 gs)) (v6_groups text)

-- the address of a text of either family; no text is of both
unfoldable pub addr_of : List ℕ → Option Addr
addr_of text = option_or (v4_of text) (v6_of text)

-- how many bits an address of the family has
abbrev pub bits_of : Addr → ℕ
bits_of (V4 n) = 32
bits_of (V6 n) = 128

-- the address as a number of so many bits
abbrev pub value_of : Addr → ℕ
value_of (V4 n) = n
value_of (V6 n) = n

-- no bit of the address is set beyond its first so many
abbrev pub is_clear : Addr → ℕ → Bool
is_clear addr len = value_of addr % 2 ^ (bits_of addr - len) == 0

-- a length within the address's family, and no bit set beyond it
pub record IsPrefix (p : Prefix) : Type 0 where
  pub len : p.len ≤ bits_of p.addr
  pub clear : is_clear p.addr p.len ≡ true

-- a prefix of so many bits
abbrev pub prefix_at : Addr → ℕ → Prefix
prefix_at addr len = record { addr = addr; len = len }

-- the prefix that holds all addresses of version 4
abbrev pub default_v4 : Prefix
default_v4 = record { addr = V4 0; len = 0 }

-- the prefix that holds all addresses of version 6
abbrev pub default_v6 : Prefix
default_v6 = record { addr = V6 0; len = 0 }

-- a length no longer than the address, after which no bit is set
abbrev pub prefix_with : List ℕ → Addr → Option Prefix
prefix_with size addr = option_map (prefix_at addr) (only_if (is_clear addr) (number_of (bits_of addr) size))

-- an address, a slash and a length
unfoldable pub prefix_of : List ℕ → Option Prefix
prefix_of text = option_and_then (prefix_with (after_first (λ b. b == 47) text)) (addr_of (before_first (λ b. b == 47) text))

-- what stands between a `[` at the front and a `]` at the end
abbrev pub in_brackets : List ℕ → Option (List ℕ)
in_brackets text = if (slice_index text 0 == 91) && (slice_index text (length text - 1) == 93) then Some (slice_range text 1 (length text - 1)) else None

-- an IPv4 text, or an IPv6 text in brackets
abbrev pub host_of : List ℕ → Option Addr
host_of text = option_or (v4_of text) (option_and_then v6_of (in_brackets text))

-- an address and a port
abbrev pub listen_at : Addr → ℕ → Listen
listen_at addr port = record { addr = addr; port = port }

-- an address, and a port of 0 to 65535
abbrev pub listen_with : List ℕ → Addr → Option Listen
listen_with port addr = option_map (listen_at addr) (number_of 65535 port)

-- a host, a colon and a port, where the colon is the last one
unfoldable pub listen_of : List ℕ → Option Listen
listen_of text = option_and_then (listen_with (after_last (λ b. b == 58) text)) (host_of (before_last (λ b. b == 58) text))
