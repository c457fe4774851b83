-- The stated reply of a version to a datagram.
use Rattle.std.specs.Prelude.{◌≡◌, ℕ, false, nat_le, if◌then◌else◌, List, [], ◌∷◌, ◌++◌, length, Option, None, Some}
use Rattle.std.specs.List.{flat_map}
use Rattle.addr_text.specs.declared.address.Addr.{Addr}
use Rattle.dns_wire.specs.declared.message.Head.{Head}
use Rattle.dns_wire.specs.Spelling.{header, question}
use Rattle.published_map.specs.Version.{Version}
use Rattle.topology_text.specs.declared.topology.Zone.{Zone}
use Rattle.answer_core.specs.declared.replying.Answer.{Answer}
use Rattle.answer_core.specs.declared.replying.Answer.TheVariants as answer
use Rattle.answer_core.specs.Columns.{is_authoritative, is_truncated, rcode}
use Rattle.answer_core.specs.Grammar.{Request, Datagram, datagram_of, Silent, NotImp, Form, Query}
use Rattle.answer_core.specs.Outcome.{outcome_of}
use Rattle.answer_core.specs.declared.outcome.Outcome.{Outcome}
use Rattle.answer_core.specs.declared.outcome.Outcome.TheVariants.{BadVers, Error, Negative, Positive, Truncated}
use Rattle.answer_core.specs.declared.way.Way.{Way}
use Rattle.answer_core.specs.Limit.{limit_of}
use Rattle.answer_core.specs.Sections.{resource, answers, authority, additional, count_of_opt}

-- the header alone, with no counts
abbrev pub alone : Head → ℕ → List ℕ
alone h code = header h false false code (0 ∷ 0 ∷ 0 ∷ 0 ∷ [])

-- a reply that repeats the question
abbrev pub full : Zone → Request → Outcome (List Addr) → List ℕ
full z r outcome =
    let q = r.asked in
    header q.head (is_authoritative outcome) (is_truncated outcome) (rcode outcome) (1 ∷ length (answers z outcome) ∷ length (authority z q.name outcome) ∷ count_of_opt q.opt ∷ [])
    ++ question q.name q.kind q.class
    ++ flat_map resource (answers z outcome)
    ++ flat_map resource (authority z q.name outcome)
    ++ additional q.opt r.subnet outcome

-- what is replied where that has no room: no records
abbrev pub cut_short : {T : Type 0} → Outcome T → Outcome T
cut_short BadVers = BadVers
cut_short (Error code) = Error code
cut_short (Negative code) = Negative code
cut_short (Positive records scope) = Truncated scope
cut_short (Truncated scope) = Truncated scope

-- an outcome whose reply may have so many octets
abbrev pub fitted : ℕ → Zone → Request → Outcome (List Addr) → Outcome (List Addr)
fitted limit z r outcome = if nat_le (length (full z r outcome)) limit then outcome else cut_short outcome

-- the reply to a query that can be read
abbrev pub reply_to_query : Version → Addr → Request → ℕ → Way → List ℕ
reply_to_query v from r draw way = full v.plan.zone r (fitted (limit_of way r.asked.opt) v.plan.zone r (outcome_of v r from draw))

-- what is no query is not implemented (RCODE 4) or a format error (1)
abbrev pub reply_to : Version → Addr → Datagram → ℕ → Way → Option (List ℕ)
reply_to v from Silent draw way = None
reply_to v from (NotImp h) draw way = Some (alone h 4)
reply_to v from (Form h) draw way = Some (alone h 1)
reply_to v from (Query r) draw way = Some (reply_to_query v from r draw way)

abbrev pub reply_of : Version → Addr → List ℕ → ℕ → Way → Option (List ℕ)
reply_of v from octets draw way = reply_to v from (datagram_of octets) draw way

-- sent: these octets are the stated reply; silent: there is none, and no octets
abbrev pub Replies : Answer → List ℕ → Option (List ℕ) → Type 0
Replies answer.Sent octets stated = stated ≡ Some octets
Replies answer.Silent octets stated = (stated ≡ None) × (octets ≡ [])
