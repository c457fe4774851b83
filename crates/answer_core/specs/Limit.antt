-- How long a reply may be.
use Rattle.std.specs.Prelude.{ℕ, min, max, Option, None, Some}
use Rattle.dns_wire.specs.Message.{Extension}
use Rattle.answer_core.specs.declared.way.Way.{Way}
use Rattle.answer_core.specs.declared.way.Way.TheVariants as way
use Rattle.answer_core.specs.Grammar.{Datagram, Query}

-- 512 octets, where the query says nothing of its size (RFC 1035 4.2.1); else what its OPT record says, but at least 512 and at most 1232 (RFC 6891 6.2.3 to 6.2.5); over a stream 65,535 (RFC 1035 4.2.2)
abbrev pub limit_of : Way → Option Extension → ℕ
limit_of way.Stream opt = 65535
limit_of way.Datagram None = 512
limit_of way.Datagram (Some o) = min (max o.payload 512) 1232

-- the most octets of a reply, by any way: forty IPv6 addresses of a service whose name has 128 octets, with an OPT record and a subnet of 128 bits
abbrev pub longest_reply : ℕ
longest_reply = 1299

-- of the reply to a datagram: what is no query has a header alone
abbrev pub limit_for : Way → Datagram → ℕ
limit_for w (Query r) = limit_of w r.asked.opt
limit_for w _ = 512
