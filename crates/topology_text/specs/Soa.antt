-- The data of an SOA record on the wire.
use Rattle.std.specs.Prelude.{ℕ, List, ◌++◌}
use Rattle.byteorder.specs.Endian.{big_bytes}

-- the primary's name and the mailbox's, without pointers, and five numbers of 32 bits, the high octet first (RFC 1035 section 3.3.13)
abbrev pub soa_content : (mname rname : List ℕ) (serial refresh retry expire minimum : ℕ) → List ℕ
soa_content mname rname serial refresh retry expire minimum =
    mname ++ rname ++ big_bytes 4 serial ++ big_bytes 4 refresh ++ big_bytes 4 retry ++ big_bytes 4 expire ++ big_bytes 4 minimum
