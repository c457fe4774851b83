-- The records of a reply's sections.
use Rattle.std.specs.Prelude.{ℕ, ◌+◌, ◌-◌, List, [], ◌∷◌, ◌++◌, length, map, min, Option, None, Some}
use Rattle.byteorder.specs.Endian.{big_bytes}
use Rattle.addr_text.specs.declared.address.Addr.{Addr}
use Rattle.addr_text.specs.declared.address.Addr.TheVariants.{V4, V6}
use Rattle.client_subnet.specs.declared.subnet.SubnetOpt.{SubnetOpt}
use Rattle.client_subnet.specs.Spelling.{subnet_option}
use Rattle.dns_wire.specs.Message.{Extension}
use Rattle.dns_wire.specs.Spelling.{record_of, opt, u32}
use Rattle.topology_text.specs.declared.topology.Zone.{Zone}
use Rattle.answer_core.specs.Columns.{extended, scope_told}
use Rattle.answer_core.specs.declared.outcome.Outcome.{Outcome}
use Rattle.answer_core.specs.declared.outcome.Outcome.TheVariants.{BadVers, Error, Negative, Positive, Truncated}
use Rattle.answer_core.specs.declared.outcome.Records.{Records}
use Rattle.answer_core.specs.declared.outcome.Records.TheVariants.{Soa, NameServers, Addresses}

-- a record of class IN whose name is a pointer
pub record Resource : Type 0 where
  pub owner : ℕ
  pub kind : ℕ
  pub ttl : ℕ
  pub content : List ℕ

abbrev pub resource : Resource → List ℕ
resource r = record_of r.owner r.kind r.ttl r.content

-- the pointer to the question's name, which stands behind the header's 12 octets (RFC 1035 4.1.4): c00c
abbrev pub question_name : ℕ
question_name = 49164

-- the pointer to the apex at the end of the question's name
abbrev pub apex_name : Zone → List ℕ → ℕ
apex_name z name = question_name + length name - length z.apex

-- an address's octets (RFC 1035 3.4.1, RFC 3596 2.2)
abbrev pub octets_of : Addr → List ℕ
octets_of (V4 n) = big_bytes 4 n
octets_of (V6 n) = big_bytes 16 n

abbrev pub address : ℕ → ℕ → Addr → Resource
address ttl kind a = record { owner = question_name; kind = kind; ttl = ttl; content = octets_of a }

-- a name server, without pointers
abbrev pub server : ℕ → List ℕ → Resource
server ttl name = record { owner = question_name; kind = 2; ttl = ttl; content = name }

-- the data of the zone's SOA record (RFC 1035 3.3.13), without pointers
abbrev pub numbers_of : Zone → List ℕ
numbers_of z = u32 z.serial ++ u32 z.refresh ++ u32 z.retry ++ u32 z.expire ++ u32 z.minimum

abbrev pub soa : Zone → ℕ → ℕ → Resource
soa z owner ttl = record { owner = owner; kind = 6; ttl = ttl; content = z.mname ++ z.rname ++ numbers_of z }

-- the SOA record of a negative answer (RFC 2308 3): its name is the apex, its TTL the lesser of the zone's two
abbrev pub negative_soa : Zone → List ℕ → Resource
negative_soa z name = soa z (apex_name z name) (min z.ttl z.minimum)

-- the records of a positive answer
abbrev pub resources : Zone → Records (List Addr) → List Resource
resources z Soa = soa z question_name z.ttl ∷ []
resources z NameServers = map (server z.ttl) z.ns
resources z (Addresses kind addresses) = map (address z.ttl kind) addresses

-- the answers
abbrev pub answers : Zone → Outcome (List Addr) → List Resource
answers z BadVers = []
answers z (Error code) = []
answers z (Negative code) = []
answers z (Positive records scope) = resources z records
answers z (Truncated scope) = []

-- the authority, where that name was asked for
abbrev pub authority : Zone → List ℕ → Outcome (List Addr) → List Resource
authority z name BadVers = []
authority z name (Error code) = []
authority z name (Negative code) = negative_soa z name ∷ []
authority z name (Positive records scope) = []
authority z name (Truncated scope) = []

-- the subnet as in the query, with the scope that is told
abbrev pub repeated : Option SubnetOpt → Option ℕ → List ℕ
repeated (Some s) (Some scope) = subnet_option s scope
repeated (Some s) None = []
repeated None told = []

-- an OPT record where the query has one
abbrev pub additional : Option Extension → Option SubnetOpt → Outcome (List Addr) → List ℕ
additional None subnet outcome = []
additional (Some o) subnet outcome = opt (extended outcome) o.dnssec_ok (repeated subnet (scope_told outcome))

abbrev pub count_of_opt : Option Extension → ℕ
count_of_opt None = 0
count_of_opt (Some o) = 1
