-- Datagrams, as words of the command line say them.
use Rattle.std.specs.Prelude.{ℕ, List, Option, option_map}
use Rattle.std.specs.Option.{option_and_then}
use Rattle.std.specs.Result.{result_ok}
use Rattle.hex.specs.Hex.{decode_of}
use Rattle.addr_text.specs.declared.address.Addr.{Addr}
use Rattle.addr_text.specs.Addresses.{addr_of}

-- a datagram: the address that it comes from, and its octets
pub record Datagram : Type 0 where
  pub from : Addr
  pub octets : List ℕ

-- the octets of an even number of hexadecimal digits of either case, two for each
abbrev pub hex_of : List ℕ → Option (List ℕ)
hex_of digits = result_ok (decode_of digits)

-- octets from an address
abbrev pub datagram_from : List ℕ → Addr → Datagram
datagram_from octets from = record { from = from; octets = octets }

-- the datagram of an address's text and of digits
abbrev pub datagram_of : List ℕ → List ℕ → Option Datagram
datagram_of addr digits = option_and_then (λ octets. option_map (datagram_from octets) (addr_of addr)) (hex_of digits)
