-- What a datagram is: each list of octets is exactly one of these.
use Rattle.std.specs.Prelude.{ℕ, ◌/◌, ◌%◌, ◌^◌, Bool, false, ◌&&◌, ◌||◌, ◌==◌, nat_lt, nat_le, not, if◌then◌else◌, List, [], ◌∷◌, length, drop, filter, slice_index, Option, None, Some}
use Rattle.std.specs.Option.{option_map_or}
use Rattle.dns_wire.specs.declared.message.Head.{Head}
use Rattle.dns_wire.specs.Wire.{◌>>=◌, Record, name_in, records_in, u16_at}

-- the extension record (RFC 6891 6.1.2, 6.1.3)
pub record Extension : Type 0 where
  pub payload : ℕ
  pub version : ℕ
  pub dnssec_ok : Bool
  pub options : List ℕ

-- what is asked
pub record Asked : Type 0 where
  pub head : Head
  pub name : List ℕ
  pub kind : ℕ
  pub class : ℕ
  pub opt : Option Extension

pub data Reading : Type 0 where
  Silent : Reading
  NotImp : Head → Reading
  Form : Head → Reading
  Query : Asked → Reading

-- the second line of a header (RFC 1035 4.1.1): QR 1 bit, OPCODE 4, AA, TC, RD 1 each
abbrev pub is_response : List ℕ → Bool
is_response octets = nat_le 128 (slice_index octets 2)

abbrev pub opcode_of : List ℕ → ℕ
opcode_of octets = slice_index octets 2 / 8 % 16

-- what a reply repeats of the header
abbrev pub head_of : List ℕ → Head
head_of octets = record { id = u16_at 0 octets; opcode = opcode_of octets; rd = slice_index octets 2 % 2 == 1 }

-- one question, and neither answers nor authority: QDCOUNT, ANCOUNT, NSCOUNT
abbrev pub has_one_question : List ℕ → Bool
has_one_question octets = (u16_at 4 octets == 1) && (u16_at 6 octets == 0) && (u16_at 8 octets == 0)

abbrev pub is_opt : Record → Bool
is_opt r = r.kind == 41

-- in the place of a TTL stand an octet of the reply's code, the version, and 16 flags of which the first is DO (RFC 6891 6.1.3)
abbrev pub extension_of : Record → Extension
extension_of r = record { payload = r.class; version = r.ttl / 2 ^ 16 % 2 ^ 8; dnssec_ok = nat_le (2 ^ 15) (r.ttl % 2 ^ 16); options = r.content }

-- the single octet 0
abbrev pub is_root : List ℕ → Bool
is_root (octet ∷ []) = octet == 0
is_root _ = false

-- none, or the only one; its name is the root
abbrev pub only_opt : List Record → Option (Option Extension)
only_opt [] = Some None
only_opt (r ∷ []) = if is_root r.owner then Some (Some (extension_of r)) else None
only_opt (_ ∷ _ ∷ _) = None

-- so many records, and the only OPT among them
abbrev pub opt_in : ℕ → List ℕ → Option (Option Extension)
opt_in count octets = records_in count octets >>= λ records. only_opt (filter is_opt records)

-- a question, all of the additional records, and at most one OPT among them
unfoldable pub query_in : List ℕ → Option Asked
query_in octets = do
  name ← name_in false (drop 12 octets)
  opt ← if nat_lt (length name.1) 4 then None else opt_in (u16_at 10 octets) (drop 4 name.1)
  Some (record { head = head_of octets; name = name.0; kind = u16_at 0 name.1; class = u16_at 2 name.1; opt = opt })

-- nothing that is replied to: too short, too long, or a response
abbrev pub is_silent : List ℕ → Bool
is_silent octets = nat_lt (length octets) 12 || nat_lt 4096 (length octets) || is_response octets

-- which case it is
unfoldable pub reading : List ℕ → Reading
reading octets =
    if is_silent octets then Silent
    else if not (opcode_of octets == 0) then NotImp (head_of octets)
    else if not (has_one_question octets) then Form (head_of octets)
    else option_map_or Query (query_in octets) (Form (head_of octets))
