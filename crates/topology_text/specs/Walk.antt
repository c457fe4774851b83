-- The walk over a topology's tables, and the faults that stand at a key of one of them.
use Rattle.std.specs.Prelude.{ℕ, List, [], ◌∷◌, ◌++◌, map, Bool, if◌then◌else◌, Option, None, Some}
use Rattle.std.specs.List.{cons_option, enumerate_from, filter, filter_map, flat_map}
use Rattle.toml.specs.Data.{Data, array, table, Items, no_items, item, Members, no_members, member, get_member, as_table}
use Rattle.topology_text.specs.Schema.{key_text, keys_of}
use Rattle.topology_text.specs.declared.schema.At.{At}
use Rattle.topology_text.specs.declared.schema.At.TheVariants.{Item}
use Rattle.topology_text.specs.declared.schema.Key.{Key}
use Rattle.topology_text.specs.declared.schema.Key.TheVariants.{Zone, Node, Group, Class}
use Rattle.topology_text.specs.declared.schema.Spot.{Spot}
use Rattle.topology_text.specs.declared.schema.Spot.TheVariants.{Top, ZoneTable, NodeTable, GroupTable, ClassTable}
use Rattle.topology_text.specs.declared.schema.Place.{Place}

-- the items of an array
abbrev pub list_of : Items → List Data
list_of no_items = []
list_of (item d ds) = d ∷ list_of ds

-- the names in a table
abbrev pub names_of : Members → List (List ℕ)
names_of no_members = []
names_of (member k d ms) = k ∷ names_of ms

-- the value at a key
abbrev pub value_at : Members → Key → Option Data
value_at ms k = get_member (key_text k) ms

-- the items of a value that is an array
abbrev pub items_of_value : Option Data → List Data
items_of_value (Some (array ds)) = list_of ds
items_of_value _ = []

-- the items at a key
abbrev pub items_at : Members → Key → List Data
items_at ms k = items_of_value (value_at ms k)

-- a table, and where it stands
pub record Visit : Type 0 where
  pub spot : Spot
  pub members : Members

-- where an entry of `node`, `group` or `class` stands
abbrev pub entry_spot : Key → ℕ → Spot
entry_spot Node i = NodeTable i
entry_spot Class i = ClassTable i
entry_spot _ i = GroupTable i

-- a value that is a table
abbrev pub table_in : Option Data → Option Members
table_in None = None
table_in (Some d) = as_table d

-- the visit of a value that is a table
abbrev pub visit_of : Spot → Data → Option Visit
visit_of spot (table ms) = Some (record { spot = spot; members = ms })
visit_of spot _ = None

-- the zone on the walk, if it is a table
abbrev pub zone_visits : Option Data → List Visit
zone_visits None = []
zone_visits (Some d) = cons_option (visit_of ZoneTable d) []

-- the visits of the entries that are tables, the first of them number i
abbrev pub entries_from : Key → ℕ → List Data → List Visit
entries_from key i ds = filter_map (λ p. visit_of (entry_spot key p.0) p.1) (enumerate_from i ds)

-- the tables in the order of the walk
abbrev pub walk : Members → List Visit
walk top = record { spot = Top; members = top } ∷ zone_visits (value_at top Zone) ++ entries_from Node 0 (items_at top Node) ++ entries_from Group 0 (items_at top Group) ++ entries_from Class 0 (items_at top Class)

-- the first of a list
abbrev pub first : {A : Type 0} → List A → Option A
first [] = None
first (x ∷ xs) = Some x

-- the items that pass a test, the first of them number i
abbrev pub items_from : (Data → Bool) → ℕ → List Data → List At
items_from test i ds = filter_map (λ p. if test p.1 then Some (Item p.0) else None) (enumerate_from i ds)

-- the items that pass a test
abbrev pub items_where : (Data → Bool) → List Data → List At
items_where test ds = items_from test 0 ds

-- the elements that pass a test of their number and themselves, each behind its number
abbrev pub marked_from : {X : Type 0} → (ℕ → X → Bool) → ℕ → List X → List (ℕ × X)
marked_from test i xs = filter (λ p. test p.0 p.1) (enumerate_from i xs)

-- the same over a whole list
abbrev pub marked : {X : Type 0} → (ℕ → X → Bool) → List X → List (ℕ × X)
marked test xs = marked_from test 0 xs

-- the places of what is found at a key
abbrev pub places_at : (Visit → Key → List At) → Visit → Key → List Place
places_at finds v k = map (λ at. record { spot = v.spot; key = Some k; at = at }) (finds v k)

-- the places at which something is found in a table
abbrev pub places_in : (Visit → Key → List At) → Visit → List Place
places_in finds v = flat_map (places_at finds v) (keys_of v.spot)

-- and on a walk
abbrev pub places_of : (Visit → Key → List At) → List Visit → List Place
places_of finds visits = flat_map (places_in finds) visits
