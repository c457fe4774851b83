-- No reply is over its limit.
use Rattle.std.proofs.Common.{◌≡◌, ℕ, ◌+◌, ◌*◌, ◌≤◌, List, [], ◌∷◌, ◌++◌, length, take, Option, Some, None, refl, sym, subst, arith, length-append, length-take}
use Rattle.std.specs.Prelude.{map, min, All}
use Rattle.std.specs.List.{flat_map}
use Rattle.byteorder.specs.Endian.{big_bytes}
use Rattle.std.proofs.lemmas.List.Elements.{All-head, All-tail}
use Rattle.addr_text.specs.declared.address.Addr.{Addr}
use Rattle.addr_text.specs.declared.address.Addr.TheVariants.{V4, V6}
use Rattle.client_subnet.specs.declared.subnet.SubnetOpt.{SubnetOpt}
use Rattle.client_subnet.specs.Spelling.{octets_for, option_for}
use Rattle.dns_wire.specs.Message.{Extension}
use Rattle.dns_wire.specs.Spelling.{header, question, u16}
use Rattle.topology_text.specs.declared.topology.Zone.{Zone}
use Rattle.topology_text.specs.Plan.{IsZone}
use Rattle.answer_core.specs.Columns.{is_authoritative, is_truncated, rcode, scope_told}
use Rattle.answer_core.specs.Grammar.{Request}
use Rattle.answer_core.specs.Sections.{resource, server, address, soa, numbers_of, apex_name, question_name, resources, answers, authority, additional, repeated, count_of_opt}
use Rattle.answer_core.specs.Reply.{cut_short, full}
use Rattle.answer_core.specs.Limit.{limit_of, longest_reply}
use Rattle.answer_core.specs.declared.way.Way.{Way}
use Rattle.answer_core.specs.declared.way.Way.TheVariants as ways
use Rattle.answer_core.specs.View.{AreShort, IsShort}
use Rattle.answer_core.specs.declared.outcome.Outcome.{Outcome}
use Rattle.answer_core.specs.declared.outcome.Outcome.TheVariants.{BadVers, Error, Negative, Positive, Truncated}
use Rattle.answer_core.specs.declared.outcome.Records.{Records}
use Rattle.answer_core.specs.declared.outcome.Records.TheVariants.{Soa, NameServers, Addresses}

servers_len : (ttl : ℕ) (ns : List (List ℕ)) → All (λ n. length n ≤ 64) ns → length (flat_map resource (map (server ttl) ns)) ≤ 76 * length ns
servers_len ttl [] all = omega arith
servers_len ttl (n ∷ ns) all =
    let rest : length (flat_map resource (map (server ttl) ns)) ≤ 76 * length ns = servers_len ttl ns (All-tail (λ n. length n ≤ 64) n ns all) in
    let here : length n ≤ 64 = All-head (λ n. length n ≤ 64) n ns all in
    omega (arith, length-append (resource (server ttl n)) (flat_map resource (map (server ttl) ns)))

address_len : (ttl kind : ℕ) (a : Addr) → length (resource (address ttl kind a)) ≤ 28
address_len ttl kind (V4 n) = omega arith
address_len ttl kind (V6 n) = omega arith

addresses_len : (ttl kind : ℕ) (several : List Addr) → length (flat_map resource (map (address ttl kind) several)) ≤ 28 * length several
addresses_len ttl kind [] = omega arith
addresses_len ttl kind (a ∷ others) =
    let rest : length (flat_map resource (map (address ttl kind) others)) ≤ 28 * length others = addresses_len ttl kind others in
    let here : length (resource (address ttl kind a)) ≤ 28 = address_len ttl kind a in
    omega (arith, length-append (resource (address ttl kind a)) (flat_map resource (map (address ttl kind) others)))

soa_len : (z : Zone) (owner ttl : ℕ) → IsZone z → length (flat_map resource (soa z owner ttl ∷ [])) ≤ 160
soa_len z owner ttl zone =
    omega (arith, zone.mname, zone.rname, length-append (resource (soa z owner ttl)) [], length-append (z.mname ++ z.rname) (numbers_of z), length-append z.mname z.rname)

taken : (size : ℕ) (address : List ℕ) (all : ℕ) → length address ≡ all → all ≤ 16 → 8 + length (take size address) ≤ 24
taken size address all e le = omega (arith, length-take size address)

option_len : (a : Addr) (source scope : ℕ) → length (option_for a source scope) ≤ 24
option_len (V4 n) source scope = let t : 8 + length (take (octets_for source) (big_bytes 4 n)) ≤ 24 = taken (octets_for source) (big_bytes 4 n) 4 refl (omega arith) in omega arith
option_len (V6 n) source scope = let t : 8 + length (take (octets_for source) (big_bytes 16 n)) ≤ 24 = taken (octets_for source) (big_bytes 16 n) 16 refl (omega arith) in omega arith

repeated_len : (subnet : Option SubnetOpt) (told : Option ℕ) → length (repeated subnet told) ≤ 24
repeated_len (Some s) (Some scope) = option_len s.addr s.source scope
repeated_len (Some s) None = omega arith
repeated_len None told = omega arith

additional_len : (o : Option Extension) (subnet : Option SubnetOpt) (outcome : Outcome (List Addr)) → length (additional o subnet outcome) ≤ 35
additional_len None subnet outcome = omega arith
additional_len (Some e) subnet outcome = omega (arith, repeated_len subnet (scope_told outcome))

-- a name and the records behind it
name_and_answers : (z : Zone) (name : List ℕ) (r : Records (List Addr)) → IsZone z → length name ≤ 255 → AreShort (length name) r → length name + length (flat_map resource (resources z r)) ≤ 1248
name_and_answers z name Soa zone short fit = let a : length (flat_map resource (resources z Soa)) ≤ 160 = soa_len z question_name z.ttl zone in omega arith
name_and_answers z name NameServers zone short fit =
    let a : length (flat_map resource (resources z NameServers)) ≤ 76 * length z.ns = servers_len z.ttl z.ns zone.short_ns in omega (arith, zone.few_ns)
name_and_answers z name (Addresses kind addresses) zone short fit =
    let some : length (flat_map resource (resources z (Addresses kind addresses))) ≤ 28 * length addresses = addresses_len z.ttl kind addresses in omega (arith, fit.0, fit.1)

name_and_records : (z : Zone) (name : List ℕ) (o : Outcome (List Addr)) → IsZone z → length name ≤ 255 → IsShort (length name) o → length name + length (flat_map resource (answers z o)) + length (flat_map resource (authority z name o)) ≤ 1248
name_and_records z name BadVers zone short fit = omega arith
name_and_records z name (Error code) zone short fit = omega arith
name_and_records z name (Negative code) zone short fit = let a : length (flat_map resource (authority z name (Negative code))) ≤ 160 = soa_len z (apex_name z name) (min z.ttl z.minimum) zone in omega arith
name_and_records z name (Positive records scope) zone short fit = let a : length name + length (flat_map resource (resources z records)) ≤ 1248 = name_and_answers z name records zone short fit in omega arith
name_and_records z name (Truncated scope) zone short fit = omega arith

-- with no records of an answer
name_and_rest : (z : Zone) (name : List ℕ) (o : Outcome (List Addr)) → IsZone z → length name ≤ 255 → length name + length (flat_map resource (answers z (cut_short o))) + length (flat_map resource (authority z name (cut_short o))) ≤ 423
name_and_rest z name BadVers zone short = omega arith
name_and_rest z name (Error code) zone short = omega arith
name_and_rest z name (Negative code) zone short = let a : length (flat_map resource (authority z name (Negative code))) ≤ 160 = soa_len z (apex_name z name) (min z.ttl z.minimum) zone in omega arith
name_and_rest z name (Positive records scope) zone short = omega arith
name_and_rest z name (Truncated scope) zone short = omega arith

five : (most : ℕ) (head name a b c : List ℕ) (n : ℕ) → length head ≡ 12 → length name ≡ n + 4 → n + length a + length b ≤ most → length c ≤ 35 → length (head ++ name ++ a ++ b ++ c) ≤ most + 51
five most head name a b c n h1 h2 h3 h4 = omega (arith, length-append (head ++ name ++ a ++ b) c, length-append (head ++ name ++ a) b, length-append (head ++ name) a, length-append head name)

question_len : (name : List ℕ) (kind class : ℕ) → length (question name kind class) ≡ length name + 4
question_len name kind class = omega (arith, length-append (name ++ u16 kind) (u16 class), length-append name (u16 kind))

length_by : (most : ℕ) (z : Zone) (r : Request) (o : Outcome (List Addr)) → length r.asked.name + length (flat_map resource (answers z o)) + length (flat_map resource (authority z r.asked.name o)) ≤ most → length (full z r o) ≤ most + 51
length_by most z r o some =
    let q = r.asked in
    five most (header q.head (is_authoritative o) (is_truncated o) (rcode o) (1 ∷ length (answers z o) ∷ length (authority z q.name o) ∷ count_of_opt q.opt ∷ [])) (question q.name q.kind q.class) (flat_map resource (answers z o)) (flat_map resource (authority z q.name o)) (additional q.opt r.subnet o) (length q.name)
    refl (question_len q.name q.kind q.class) some (additional_len q.opt r.subnet o)

pub bound : (z : Zone) (r : Request) (o : Outcome (List Addr)) → IsZone z → length r.asked.name ≤ 255 → IsShort (length r.asked.name) o → length (full z r o) ≤ longest_reply
bound z r o zone short fit = omega (arith, length_by 1248 z r o (name_and_records z r.asked.name o zone short fit))

pub bound_cut : (z : Zone) (r : Request) (o : Outcome (List Addr)) → IsZone z → length r.asked.name ≤ 255 → length (full z r (cut_short o)) ≤ 512
bound_cut z r o zone short = omega (arith, length_by 423 z r (cut_short o) (name_and_rest z r.asked.name o zone short))

-- the same, where the outcome that was cut short is told by an equation
pub bound_cut_as : (z : Zone) (r : Request) (o cut : Outcome (List Addr)) → cut ≡ cut_short o → IsZone z → length r.asked.name ≤ 255 → length (full z r cut) ≤ 512
bound_cut_as z r o cut is zone short = subst (λ (x : Outcome (List Addr)). length (full z r x) ≤ 512) (sym is) (bound_cut z r o zone short)

-- a limit is at least 512
pub limit_least : (way : Way) (o : Option Extension) → 512 ≤ limit_of way o
limit_least ways.Stream o = omega arith
limit_least ways.Datagram None = omega arith
limit_least ways.Datagram (Some e) = omega arith
