-- What a topology's file says.
use Rattle.std.specs.Prelude.{◌≡◌, ℕ, Bool, ◌+◌, ◌==◌, ◌&&◌, ◌<◌, ◌≤◌, ◌^◌, false, List, [], ◌∷◌, length, map, Option, None, Some, IsTrue, IsFalse, All, AllPairs, Contains, position, slice_index_or}
use Rattle.std.specs.Str.{bytes_eq}
use Rattle.addr_text.specs.declared.address.Addr.{Addr}
use Rattle.addr_text.specs.declared.address.Prefix.{Prefix}
use Rattle.addr_text.specs.Addresses.{IsPrefix, default_v4, default_v6}
use Rattle.map_model.specs.declared.instance.GroupId.{GroupId}
use Rattle.map_model.specs.Market.{Market, IsMarket, is_pool_at}
use Rattle.name_text.specs.Names.{is_same, is_under, label_fault}
use Rattle.name_text.specs.Wire.{wire}
use Rattle.topology_text.specs.declared.topology.Zone.{Zone}
use Rattle.topology_text.specs.Hosts.{HostLists, IsHosts, addresses_at}
use Rattle.topology_text.specs.Soa.{soa_content}
use Rattle.topology_text.specs.Texts.{is_name}

-- how many of the units are groups, and the group and the service of each class, which are the units behind them in file order
pub record Classes : Type 0 where
  pub groups : ℕ
  pub pairs : List (GroupId × ℕ)

-- the instance, the zone, and by number the names of nodes and units and the addresses of nodes; which units are classes; each prefix with its group, in file order
pub record Plan : Type 0 where
  pub market : Market
  pub zone : Zone
  pub node_names : List (List ℕ)
  pub group_names : List (List ℕ)
  pub classes : Classes
  pub prefixes : List (Prefix × GroupId)
  pub addresses : List HostLists

-- the place of a text in a list of distinct names
abbrev pub number_in : List (List ℕ) → List ℕ → Option ℕ
number_in names text = position (bytes_eq text) names

-- what a number that may be there leads to, or another number
abbrev pub number_or : (ℕ → ℕ) → Option ℕ → ℕ → ℕ
number_or f None other = other
number_or f (Some k) other = f k

-- a class is of that group and service
abbrev pub is_class_of : ℕ → ℕ → GroupId × ℕ → Bool
is_class_of g s c = c.0.0 == g && c.1 == s

-- the unit of a group for a service: its class for that service where there is one, else the group
abbrev pub unit_among : Classes → ℕ → ℕ → ℕ
unit_among c g s = number_or (λ k. c.groups + k) (position (is_class_of g s) c.pairs) g

-- and in a topology
abbrev pub unit_of : Plan → ℕ → ℕ → ℕ
unit_of p g s = unit_among p.classes g s

-- the addresses of a node for records of a kind, 1 or 28
abbrev pub addresses_of : Plan → ℕ → ℕ → List Addr
addresses_of p n kind = addresses_at (slice_index_or p.addresses n (record { v4 = []; v6 = [] })) kind

-- names for nodes or groups: as many as there are, each by the rule, and no two the same
pub record AreNames (names : List (List ℕ)) (count : ℕ) : Type 0 where
  pub as_many : length names ≡ count
  pub each : All (λ n. IsTrue (is_name n)) names
  pub distinct : AllPairs (λ a b. a ≡ b → ⊥) names

-- prefixes of groups: each with no bit beyond its length, each once, and both that hold all addresses of a family
pub record ArePrefixes (prefixes : List (Prefix × GroupId)) (groups : ℕ) : Type 0 where
  pub few : length prefixes ≤ 262144
  pub each : All (λ e. IsPrefix e.0) prefixes
  pub owned : All (λ e. e.1.0 < groups) prefixes
  pub once : AllPairs (λ a b. a.0 ≡ b.0 → ⊥) prefixes
  pub all_v4 : Contains (map (λ e. e.0) prefixes) default_v4
  pub all_v6 : Contains (map (λ e. e.0) prefixes) default_v6

-- classes: with the groups they are all units; each of a group and a service that are there, and no two of the same
pub record AreClasses (c : Classes) (units : ℕ) (services : ℕ) : Type 0 where
  pub whole : c.groups + length c.pairs ≡ units
  pub owned : All (λ e. e.0.0 < c.groups) c.pairs
  pub served : All (λ e. e.1 < services) c.pairs
  pub once : AllPairs (λ a b. a.0.0 ≡ b.0.0 → a.1 ≡ b.1 → ⊥) c.pairs

-- the name is one label of 1 to 63 octets
abbrev pub IsService : List ℕ → Type 0
IsService name = (label : List ℕ) × (label_fault label ≡ None) × (name ≡ wire (label ∷ []))

-- a zone: names of at most 64 octets, one to four name servers and at most 64 services, no two the same whatever the case of letters, no name server in the zone, times that fit 31 bits, and the octets of its SOA record's data
pub record IsZone (z : Zone) : Type 0 where
  pub apex : length z.apex ≤ 64
  pub mname : length z.mname ≤ 64
  pub rname : length z.rname ≤ 64
  pub minimum : z.minimum < 2 ^ 31
  pub ttl : z.ttl < 2 ^ 31
  pub some_ns : 1 ≤ length z.ns
  pub few_ns : length z.ns ≤ 4
  pub short_ns : All (λ n. length n ≤ 64) z.ns
  pub outside : All (λ n. is_under n z.apex ≡ false) z.ns
  pub distinct_ns : AllPairs (λ a b. is_same a b ≡ false) z.ns
  pub few_services : length z.services ≤ 64
  pub services : All IsService z.services
  pub distinct_services : AllPairs (λ a b. is_same a b ≡ false) z.services
  pub soa : z.soa ≡ soa_content z.mname z.rname z.serial z.refresh z.retry z.expire z.minimum

-- what holds of every topology
pub record IsPlan (p : Plan) : Type 0 where
  pub market : IsMarket p.market
  pub zone : IsZone p.zone
  pub nodes : AreNames p.node_names (length p.market.nodes)
  pub groups : AreNames p.group_names (length p.market.groups)
  pub classes : AreClasses p.classes (length p.market.groups) (length p.zone.services)
  pub prefixes : ArePrefixes p.prefixes p.classes.groups
  pub as_many : length p.addresses ≡ length p.market.nodes
  pub addresses : All IsHosts p.addresses
  pub pools_only : (n : ℕ) → n < length p.market.nodes → IsFalse (is_pool_at p.market n) → (addresses_of p n 1 ≡ []) × (addresses_of p n 28 ≡ [])
