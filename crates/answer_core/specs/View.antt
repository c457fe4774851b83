-- Inside this crate alone: what the code's types stand for, and what they keep.
use Rattle.std.specs.Prelude.{ℕ, ◌≤◌, List, length}
use Rattle.std.specs.Borrow.{Bor}
use Rattle.addr_text.specs.declared.address.Addr.{Addr}
use Rattle.dns_wire.specs.View.{asked}
use Rattle.answer_core.specs.declared.outcome.Outcome.{Outcome}
use Rattle.answer_core.specs.declared.outcome.Outcome.TheVariants.{BadVers, Error, Negative, Positive, Truncated}
use Rattle.answer_core.specs.declared.outcome.Records.{Records}
use Rattle.answer_core.specs.declared.outcome.Records.TheVariants.{Soa, NameServers, Addresses}
use Rattle.answer_core.specs.declared.request.Request as request
use Rattle.answer_core.specs.Grammar as grammar

abbrev pub request_view : request.Request → grammar.Request
request_view r = record { asked = asked r.query.now; subnet = r.subnet; fault = r.fault }

abbrev pub records_view : Records (Bor (List Addr)) → Records (List Addr)
records_view Soa = Soa
records_view NameServers = NameServers
records_view (Addresses kind addresses) = Addresses kind addresses.now

abbrev pub outcome_view : Outcome (Bor (List Addr)) → Outcome (List Addr)
outcome_view BadVers = BadVers
outcome_view (Error code) = Error code
outcome_view (Negative code) = Negative code
outcome_view (Positive records scope) = Positive (records_view records) scope
outcome_view (Truncated scope) = Truncated scope

-- at most forty addresses, under a name of at most 128 octets; name servers under one of at most 64. At size 0 that bounds the addresses alone
abbrev pub AreShort : ℕ → Records (List Addr) → Type 0
AreShort size Soa = Unit {0}
AreShort size NameServers = size ≤ 64
AreShort size (Addresses kind addresses) = (size ≤ 128) × (length addresses ≤ 40)

abbrev pub IsShort : ℕ → Outcome (List Addr) → Type 0
IsShort size BadVers = Unit {0}
IsShort size (Error code) = Unit {0}
IsShort size (Negative code) = Unit {0}
IsShort size (Positive records scope) = AreShort size records
IsShort size (Truncated scope) = Unit {0}
