-- How the fields of a reply are written.
use Rattle.std.specs.Prelude.{ℕ, ◌+◌, ◌*◌, ◌%◌, Bool, if◌then◌else◌, List, ◌∷◌, ◌++◌, length}
use Rattle.std.specs.List.{flat_map}
use Rattle.byteorder.specs.Endian.{big_bytes}
use Rattle.dns_wire.specs.declared.message.Head.{Head}

-- numbers of 16 and of 32 bits, the high octet first
abbrev pub u16 : ℕ → List ℕ
u16 n = big_bytes 2 n

abbrev pub u32 : ℕ → List ℕ
u32 n = big_bytes 4 n

-- a bit that counts for so much
abbrev pub bit : Bool → ℕ → ℕ
bit b n = if b then n else 0

-- the header of a reply (RFC 1035 4.1.1): QR 1, OPCODE 4 bits, AA, TC, RD; RA and Z 0, RCODE 4 bits; and the counts
abbrev pub header : Head → Bool → Bool → ℕ → List ℕ → List ℕ
header h aa tc rcode counts = u16 h.id ++ (128 + 8 * (h.opcode % 16) + bit aa 4 + bit tc 2 + bit h.rd 1) ∷ rcode % 16 ∷ flat_map u16 counts

-- a question (RFC 1035 4.1.2)
abbrev pub question : List ℕ → ℕ → ℕ → List ℕ
question name kind class = name ++ u16 kind ++ u16 class

-- a record of class IN whose name is a pointer (RFC 1035 4.1.3, 4.1.4)
abbrev pub record_of : ℕ → ℕ → ℕ → List ℕ → List ℕ
record_of owner kind ttl octets = u16 owner ++ u16 kind ++ u16 1 ++ u32 ttl ++ u16 (length octets) ++ octets

-- the extension record up to its options, which have so many octets (RFC 6891 6.1.2): the root's name, kind 41, payload size 1232, version 0
abbrev pub opt_head : ℕ → Bool → ℕ → List ℕ
opt_head extended dnssec_ok size = 0 ∷ u16 41 ++ u16 1232 ++ extended ∷ 0 ∷ u16 (bit dnssec_ok 32768) ++ u16 size

-- the extension record
abbrev pub opt : ℕ → Bool → List ℕ → List ℕ
opt extended dnssec_ok options = opt_head extended dnssec_ok (length options) ++ options
