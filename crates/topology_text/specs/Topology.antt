-- What a fault-free table says.
use Rattle.std.specs.Prelude.{◌≡◌, ℕ, ◌<◌, ◌≤◌, ◌^◌, pos, List, [], map, length, true, false, Option, None, Some, IfSome, All, AllPairs, is_some, option_map, option_and_then, slice_get, slice_index_or, unwrap_or}
use Rattle.std.specs.List.{filter_map, range_with_len}
use Rattle.toml.specs.Data.{Data, Members, boolean, integer, string, table}
use Rattle.addr_text.specs.declared.address.Addr.{Addr}
use Rattle.addr_text.specs.declared.address.Prefix.{Prefix}
use Rattle.map_model.specs.declared.instance.Choice.{Choice}
use Rattle.map_model.specs.declared.instance.Node.{Node}
use Rattle.map_model.specs.declared.instance.GroupId.{GroupId}
use Rattle.map_model.specs.Market.{Group, Market}
use Rattle.topology_text.specs.Hosts.{HostLists, IsHosts}
use Rattle.topology_text.specs.Plan.{Classes, IsZone, Plan}
use Rattle.topology_text.specs.Soa.{soa_content}
use Rattle.topology_text.specs.Texts.{is_name, v4_address, v6_address, zone_name}
use Rattle.topology_text.specs.declared.prefixes.PrefixAt.{PrefixAt}
use Rattle.topology_text.specs.declared.topology.Zone.{Zone}
use Rattle.topology_text.specs.Walk.{items_at, value_at}
use Rattle.topology_text.specs.Names.{Entries, units_of, pair_of, repeats_pair, ascend, entry_at, has_repeat, is_pool, is_pool_number, names_in, number_of, parent_of, text_at, texts_of, zone_items, zone_text}
use Rattle.topology_text.specs.declared.schema.Key.{Key}
use Rattle.topology_text.specs.declared.schema.Key.TheVariants.{Apex, Mname, Rname, Serial, Refresh, Retry, Expire, Minimum, Ttl, Ns, Services, Name, Parent, Capacity, A, Aaaa, Demand, Pools, Scores, Limits}

-- a value that is a number, or 0
abbrev pub natural : Data → ℕ
natural (integer (pos n)) = n
natural _ = 0

-- a value that is there and a number, or 0
abbrev pub natural_in : Option Data → ℕ
natural_in None = 0
natural_in (Some d) = natural d

-- the number at a key of an entry
abbrev pub number_at : Data → Key → ℕ
number_at (table ms) k = natural_in (value_at ms k)
number_at _ k = 0

-- the items at a key of an entry
abbrev pub items_in : Data → Key → List Data
items_in (table ms) k = items_at ms k
items_in _ k = []

-- a node: its capacity, and the node that its parent's name leads to
abbrev pub node_of : List Data → Data → Node
node_of nodes e = record { capacity = number_at e Capacity; parent = option_map (λ n. record { 0 = n }) (option_and_then (number_of nodes) (text_at e Parent)); is_pool = is_pool e }

-- the number of the node that a text names
abbrev pub pool_number : List Data → Data → Option ℕ
pool_number nodes (string t) = number_of nodes t
pool_number nodes _ = None

-- the limit at a place: the number there, or the largest where there is none
abbrev pub limit_in : List Data → ℕ → ℕ
limit_in limits k = unwrap_or (option_map natural (slice_get limits k)) 4294967295

-- the pool at one place of a list, its score and its limit
abbrev pub choice_in : List Data → List Data → List Data → List Data → ℕ → Choice
choice_in nodes pools scores limits k = record { pool = record { 0 = unwrap_or (pool_number nodes (slice_index_or pools k (boolean false))) 0 }; score = natural (slice_index_or scores k (boolean false)); limit = limit_in limits k }

-- a group: its demand, and each pool beside its score and its limit; a group without limits has the largest
abbrev pub group_of : List Data → Data → Group
group_of nodes e = record { demand = number_at e Demand; choices = map (choice_in nodes (items_in e Pools) (items_in e Scores) (items_in e Limits)) (range_with_len 0 (length (items_in e Pools))) }

-- the instance
abbrev pub market_of : Entries → Market
market_of d = record { groups = map (group_of d.nodes) (units_of d); nodes = map (node_of d.nodes) d.nodes }

-- the name that stands at a key of the zone
abbrev pub zone_name_at : Option Members → Key → List ℕ
zone_name_at zone k = unwrap_or (option_and_then zone_name (zone_text zone k)) []

-- the number that stands at a key of the zone
abbrev pub zone_number : Option Members → Key → ℕ
zone_number None k = 0
zone_number (Some ms) k = natural_in (value_at ms k)

-- the zone: each key's value, and the octets that its SOA record has
abbrev pub zone_of : Option Members → Zone
zone_of z = record {
  apex = zone_name_at z Apex;
  mname = zone_name_at z Mname;
  rname = zone_name_at z Rname;
  serial = zone_number z Serial;
  refresh = zone_number z Refresh;
  retry = zone_number z Retry;
  expire = zone_number z Expire;
  minimum = zone_number z Minimum;
  ttl = zone_number z Ttl;
  ns = names_in Ns (zone_items z Ns);
  services = names_in Services (zone_items z Services);
  soa = soa_content (zone_name_at z Mname) (zone_name_at z Rname) (zone_number z Serial) (zone_number z Refresh) (zone_number z Retry) (zone_number z Expire) (zone_number z Minimum);
}

-- the name of an entry
abbrev pub name_of : Data → List ℕ
name_of e = unwrap_or (text_at e Name) []

-- the address that an item of `a` or `aaaa` is
abbrev pub address_in : Key → Data → Option Addr
address_in A (string t) = v4_address t
address_in Aaaa (string t) = v6_address t
address_in _ _ = None

-- the addresses of an entry
abbrev pub hosts_of : Data → HostLists
hosts_of e = record { v4 = filter_map (address_in A) (items_in e A); v6 = filter_map (address_in Aaaa) (items_in e Aaaa) }

-- a prefix with its group
abbrev pub owned : PrefixAt → Prefix × GroupId
owned e = (e.prefix, record { 0 = e.group })

-- a class's group and service, as they are kept
abbrev pub kept_pair : ℕ × ℕ → GroupId × ℕ
kept_pair p = (record { 0 = p.0 }, p.1)

-- how many units are groups, and the classes
abbrev pub classes_of : Entries → Classes
classes_of d = record { groups = length d.groups; pairs = map kept_pair (filter_map (pair_of d) d.classes) }

-- all of it: the instance, the zone, names and addresses by number, and the prefixes that stand on the walk
abbrev pub plan_of : Entries → List PrefixAt → Plan
plan_of d prefixes = record {
  market = market_of d;
  zone = zone_of d.zone;
  node_names = map name_of d.nodes;
  group_names = map name_of (units_of d);
  classes = classes_of d;
  prefixes = map owned prefixes;
  addresses = map hosts_of d.nodes;
}

-- a group whose numbers and pools can stand in an instance
pub record IsSoundGroup (nodes : List Data) (e : Data) : Type 0 where
  pub some : 1 ≤ number_at e Demand
  pub fits : number_at e Demand < 2 ^ 32
  pub asks : 1 ≤ length (items_in e Pools)
  pub few : length (items_in e Pools) ≤ 16
  pub beside : length (items_in e Scores) ≡ length (items_in e Pools)
  pub pools : All (λ p. is_pool_number nodes (pool_number nodes p) ≡ true) (items_in e Pools)
  pub distinct : has_repeat (texts_of (items_in e Pools)) ≡ false
  pub scores : All (λ s. natural s < 2 ^ 32) (items_in e Scores)
  pub limits : All (λ l. (1 ≤ natural l) × (natural l < 2 ^ 32)) (items_in e Limits)

-- entries whose names can stand in a topology
pub record AreSoundNames (entries : List Data) : Type 0 where
  pub each : (i : ℕ) → i < length entries → is_name (name_of (entry_at entries i)) ≡ true
  pub distinct : AllPairs (λ a b. a ≡ b → ⊥) (map name_of entries)

-- a zone whose names and numbers are there
pub record IsSoundZone (zone : Option Members) : Type 0 where
  pub apex : is_some (option_and_then zone_name (zone_text zone Apex)) ≡ true
  pub mname : is_some (option_and_then zone_name (zone_text zone Mname)) ≡ true
  pub rname : is_some (option_and_then zone_name (zone_text zone Rname)) ≡ true
  pub serial : zone_number zone Serial < 2 ^ 32
  pub refresh : zone_number zone Refresh < 2 ^ 32
  pub retry : zone_number zone Retry < 2 ^ 32
  pub expire : zone_number zone Expire < 2 ^ 32
  pub minimum : zone_number zone Minimum < 2 ^ 31
  pub ttl : zone_number zone Ttl < 2 ^ 31
  pub whole : IsZone (zone_of zone)

-- classes that can stand in a topology: each names a group and a service, and no two name the same
pub record AreSoundClasses (d : Entries) : Type 0 where
  pub named : (i : ℕ) → i < length d.classes → is_some (pair_of d (entry_at d.classes i)) ≡ true
  pub once : (i : ℕ) → i < length d.classes → repeats_pair d i ≡ false

-- entries that can stand in a topology
pub record IsSound (d : Entries) : Type 0 where
  pub few_nodes : length d.nodes ≤ 8192
  pub few_groups : length (units_of d) ≤ 65536
  pub capacities : (i : ℕ) → i < length d.nodes → number_at (entry_at d.nodes i) Capacity ≤ 2 ^ 48
  pub parents : (i : ℕ) → i < length d.nodes → IfSome (parent_of d.nodes i) (λ p. p < i)
  pub inner : (i : ℕ) → i < length d.nodes → IfSome (parent_of d.nodes i) (λ p. is_pool (entry_at d.nodes p) ≡ false)
  pub shallow : (i : ℕ) → i < length d.nodes → length (ascend 9 d.nodes (Some i)) ≤ 8
  pub groups : (g : ℕ) → g < length (units_of d) → IsSoundGroup d.nodes (entry_at (units_of d) g)
  pub node_names : AreSoundNames d.nodes
  pub group_names : AreSoundNames (units_of d)
  pub classes : AreSoundClasses d
  pub hosts : (i : ℕ) → i < length d.nodes → IsHosts (hosts_of (entry_at d.nodes i))
  pub pools_only : (i : ℕ) → i < length d.nodes → is_pool (entry_at d.nodes i) ≡ false → hosts_of (entry_at d.nodes i) ≡ record { v4 = []; v6 = [] }
  pub zone : IsSoundZone d.zone
