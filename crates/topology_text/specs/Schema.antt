-- The keys of the topology's tables: the text of each, its kind, and whether it is required.
use Rattle.std.specs.Prelude.{ℕ, codes, List, [], ◌∷◌, Bool, true, false}
use Rattle.toml.specs.Data.{Data, string, integer, boolean, array, table}
use Rattle.topology_text.specs.declared.schema.Key.{Key}
use Rattle.topology_text.specs.declared.schema.Key.TheVariants.{Zone, Node, Group, Class, Apex, Mname, Rname, Serial, Refresh, Retry, Expire, Minimum, Ttl, Ns, Services, Name, Parent, Capacity, Pool, A, Aaaa, Demand, Pools, Scores, Limits, Prefixes, Owner, Service}
use Rattle.topology_text.specs.declared.schema.Kind.{Kind}
use Rattle.topology_text.specs.declared.schema.Kind.TheVariants.{Text, Integer, Flag, Table, Texts, Integers, Tables}
use Rattle.topology_text.specs.declared.schema.Spot.{Spot}
use Rattle.topology_text.specs.declared.schema.Spot.TheVariants.{Top, ZoneTable, NodeTable, GroupTable, ClassTable, Family}

-- a key as it is written; a class names its group under the text that the top table's groups have
abbrev pub key_text : Key → List ℕ
key_text Zone = codes "zone"
key_text Node = codes "node"
key_text Group = codes "group"
key_text Class = codes "class"
key_text Apex = codes "apex"
key_text Mname = codes "mname"
key_text Rname = codes "rname"
key_text Serial = codes "serial"
key_text Refresh = codes "refresh"
key_text Retry = codes "retry"
key_text Expire = codes "expire"
key_text Minimum = codes "minimum"
key_text Ttl = codes "ttl"
key_text Ns = codes "ns"
key_text Services = codes "services"
key_text Name = codes "name"
key_text Parent = codes "parent"
key_text Capacity = codes "capacity"
key_text Pool = codes "pool"
key_text A = codes "a"
key_text Aaaa = codes "aaaa"
key_text Demand = codes "demand"
key_text Pools = codes "pools"
key_text Scores = codes "scores"
key_text Limits = codes "limits"
key_text Prefixes = codes "prefixes"
key_text Owner = codes "group"
key_text Service = codes "service"

-- the kind of a key's value
abbrev pub kind_of : Key → Kind
kind_of Zone = Table
kind_of Node = Tables
kind_of Group = Tables
kind_of Class = Tables
kind_of Apex = Text
kind_of Mname = Text
kind_of Rname = Text
kind_of Serial = Integer
kind_of Refresh = Integer
kind_of Retry = Integer
kind_of Expire = Integer
kind_of Minimum = Integer
kind_of Ttl = Integer
kind_of Ns = Texts
kind_of Services = Texts
kind_of Name = Text
kind_of Parent = Text
kind_of Capacity = Integer
kind_of Pool = Flag
kind_of A = Texts
kind_of Aaaa = Texts
kind_of Demand = Integer
kind_of Pools = Texts
kind_of Scores = Integers
kind_of Limits = Integers
kind_of Prefixes = Texts
kind_of Owner = Text
kind_of Service = Text

-- the keys that a table must have
abbrev pub is_required : Key → Bool
is_required Parent = false
is_required Pool = false
is_required A = false
is_required Aaaa = false
is_required Limits = false
is_required Class = false
is_required _ = true

-- the keys of a table, in their order
abbrev pub keys_of : Spot → List Key
keys_of Top = Zone ∷ Node ∷ Group ∷ Class ∷ []
keys_of ZoneTable = Apex ∷ Mname ∷ Rname ∷ Serial ∷ Refresh ∷ Retry ∷ Expire ∷ Minimum ∷ Ttl ∷ Ns ∷ Services ∷ []
keys_of (NodeTable n) = Name ∷ Parent ∷ Capacity ∷ Pool ∷ A ∷ Aaaa ∷ []
keys_of (GroupTable g) = Name ∷ Demand ∷ Pools ∷ Scores ∷ Limits ∷ Prefixes ∷ []
keys_of (ClassTable c) = Name ∷ Owner ∷ Service ∷ Demand ∷ Pools ∷ Scores ∷ Limits ∷ []
keys_of (Family f) = []

-- a value is of a kind; the items of an array are looked at apart
abbrev pub is_kind : Kind → Data → Bool
is_kind Text (string _) = true
is_kind Integer (integer _) = true
is_kind Flag (boolean _) = true
is_kind Table (table _) = true
is_kind Texts (array _) = true
is_kind Integers (array _) = true
is_kind Tables (array _) = true
is_kind _ _ = false

-- an item is of the kind that a list of that kind has
abbrev pub is_item_kind : Kind → Data → Bool
is_item_kind Texts d = is_kind Text d
is_item_kind Integers d = is_kind Integer d
is_item_kind Tables d = is_kind Table d
is_item_kind _ d = true
