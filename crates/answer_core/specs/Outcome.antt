-- What is replied to a query that can be read: by the first of these steps that decides.
use Rattle.std.specs.Prelude.{◌≡◌, ℕ, Bool, ◌||◌, ◌==◌, not, if◌then◌else◌, List, [], ◌∷◌, ◌++◌, Option, None, Some, option_map}
use Rattle.std.specs.List.{position}
use Rattle.std.specs.Option.{option_and_then}
use Rattle.addr_text.specs.declared.address.Addr.{Addr}
use Rattle.client_subnet.specs.declared.subnet.SubnetOpt.{SubnetOpt}
use Rattle.map_model.specs.Market.{pool_of}
use Rattle.name_text.specs.Names.{is_same, is_under, labels_part}
use Rattle.map_model.specs.declared.instance.GroupId.{GroupId}
use Rattle.prefix_lookup.specs.Longest.{HasLongest, group_of}
use Rattle.prefix_lookup.specs.Scope.{IsScope, scope_of}
use Rattle.published_map.specs.Version.{Version}
use Rattle.topology_text.specs.declared.topology.Zone.{Zone}
use Rattle.topology_text.specs.Plan.{addresses_of, unit_of}
use Rattle.answer_core.specs.declared.outcome.Outcome.{Outcome}
use Rattle.answer_core.specs.declared.outcome.Outcome.TheVariants.{BadVers, Error, Negative, Positive}
use Rattle.answer_core.specs.declared.outcome.Records.TheVariants.{Soa, NameServers, Addresses}
use Rattle.answer_core.specs.declared.request.QueryFault.{QueryFault}
use Rattle.answer_core.specs.declared.request.QueryFault.TheVariants as fault
use Rattle.answer_core.specs.Grammar.{Request}
use Rattle.answer_core.specs.Pick.{pick_of}

-- RCODE (RFC 1035 4.1.1): a format error, a server failure, no such name, refused, and none of these
abbrev pub form_err : ℕ
form_err = 1

abbrev pub serv_fail : ℕ
serv_fail = 2

abbrev pub nx_domain : ℕ
nx_domain = 3

abbrev pub refused : ℕ
refused = 5

abbrev pub no_error : ℕ
no_error = 0

-- options that break their format; another class than IN, or not a name of the zone; nothing placed for the client's unit
abbrev pub FormErr : Outcome (List Addr)
FormErr = Error form_err

abbrev pub Refused : Outcome (List Addr)
Refused = Error refused

abbrev pub ServFail : Outcome (List Addr)
ServFail = Error serv_fail

-- no such name, and no record of the type
abbrev pub NxDomain : Outcome (List Addr)
NxDomain = Negative nx_domain

abbrev pub NoData : Outcome (List Addr)
NoData = Negative no_error

-- the client's address: that of the subnet, where some of its bits are given, else the sender's
abbrev pub client_of : Option SubnetOpt → Addr → Addr
client_of None from = from
client_of (Some s) from = if s.source == 0 then from else s.addr

-- how many bits of the client's address decide the answer; 0 where none of them was given
abbrev pub told_scope : Version → Option SubnetOpt → ℕ
told_scope v None = 0
told_scope v (Some s) = if s.source == 0 then 0 else scope_of v.plan.prefixes s.addr

-- the group that the version's table gives to an address is that of its longest prefix, and the scope the least number of bits that decide it
pub record IsLookedUp (v : Version) (a : Addr) : Type 0 where
  pub group : (g : GroupId) × (group_of v.plan.prefixes a ≡ Some g) × HasLongest v.plan.prefixes a g
  pub scope : IsScope v.plan.prefixes a (scope_of v.plan.prefixes a)

-- the pool on which the draw falls for a unit, and for the unit of the client's group and a service; none where nothing is placed for it
abbrev pub pool_for_unit : Version → ℕ → ℕ → Option ℕ
pool_for_unit v draw unit = option_map (λ k. pool_of v.market unit k) (pick_of v unit draw)

abbrev pub pool_for : Version → Addr → ℕ → ℕ → Option ℕ
pool_for v client service draw = option_and_then (λ g. pool_for_unit v draw (unit_of v.plan g.0 service)) (group_of v.plan.prefixes client)

-- all addresses of the pool, in the file's order
abbrev pub of_addresses : ℕ → List Addr → ℕ → Outcome (List Addr)
of_addresses kind [] scope = NoData
of_addresses kind (a ∷ more) scope = Positive (Addresses kind (a ∷ more)) scope

abbrev pub of_pool : Version → ℕ → ℕ → Option ℕ → Outcome (List Addr)
of_pool v kind scope None = ServFail
of_pool v kind scope (Some pool) = of_addresses kind (addresses_of v.plan pool kind) scope

-- types: A 1, NS 2, SOA 6, AAAA 28, ANY 255, which counts as A
abbrev pub is_address_kind : ℕ → Bool
is_address_kind kind = (kind == 1) || (kind == 28) || (kind == 255)

abbrev pub answered_kind : ℕ → ℕ
answered_kind kind = if kind == 28 then 28 else 1

-- the name of the service of a number
abbrev pub at_service : Version → Request → Addr → ℕ → ℕ → Outcome (List Addr)
at_service v r from draw service =
    if not (is_address_kind r.asked.kind) then NoData
    else of_pool v (answered_kind r.asked.kind) (told_scope v r.subnet) (pool_for v (client_of r.subnet from) service draw)

-- the apex
abbrev pub at_apex : ℕ → Outcome (List Addr)
at_apex kind = if kind == 6 then Positive Soa 0 else if kind == 2 then Positive NameServers 0 else NoData

-- the number of the service whose name it is: its label and the apex
abbrev pub service_of : Zone → List ℕ → Option ℕ
service_of z name = position (λ service. is_same name (labels_part service ++ z.apex)) z.services

-- a name under the apex
abbrev pub of_service : Version → Request → Addr → ℕ → Option ℕ → Outcome (List Addr)
of_service v r from draw None = NxDomain
of_service v r from draw (Some service) = at_service v r from draw service

-- class IN is 1
abbrev pub by_name : Version → Request → Addr → ℕ → Outcome (List Addr)
by_name v r from draw =
    let zone = v.plan.zone in
    if not (r.asked.class == 1) then Refused
    else if not (is_under r.asked.name zone.apex) then Refused
    else if is_same r.asked.name zone.apex then at_apex r.asked.kind
    else of_service v r from draw (service_of zone r.asked.name)

-- what is at fault comes before class and name
abbrev pub by_fault : Option QueryFault → Outcome (List Addr) → Outcome (List Addr)
by_fault (Some fault.Version) other = BadVers
by_fault (Some fault.Options) other = FormErr
by_fault None other = other

abbrev pub outcome_of : Version → Request → Addr → ℕ → Outcome (List Addr)
outcome_of v r from draw = by_fault r.fault (by_name v r from draw)
