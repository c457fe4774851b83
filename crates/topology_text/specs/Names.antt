-- The names of a topology's nodes, groups and classes, and what the names in it lead to.
use Rattle.std.specs.Prelude.{ℕ, zero, suc, ◌+◌, List, [], ◌∷◌, ◌++◌, length, map, take, Bool, false, not, ◌&&◌, ◌||◌, ◌==◌, nat_lt, Option, None, Some, is_some, option_and_then, slice_index_or, position}
use Rattle.std.specs.List.{filter_map, list_any, position_from}
use Rattle.std.specs.Str.{bytes_eq, str_to_ascii_lowercase}
use Rattle.toml.specs.Data.{Data, string, boolean, table, Members, as_str}
use Rattle.name_text.specs.Names.{is_same, is_under}
use Rattle.topology_text.specs.Texts.{service_name, zone_name}
use Rattle.topology_text.specs.Walk.{Visit, items_at, marked, table_in, value_at}
use Rattle.topology_text.specs.Values.{whole_if}
use Rattle.topology_text.specs.declared.schema.At.{At}
use Rattle.topology_text.specs.declared.schema.At.TheVariants.{Item}
use Rattle.topology_text.specs.declared.schema.Spot.{Spot}
use Rattle.topology_text.specs.declared.schema.Spot.TheVariants.{NodeTable, GroupTable, ClassTable}
use Rattle.topology_text.specs.declared.schema.Key.{Key}
use Rattle.topology_text.specs.declared.schema.Key.TheVariants.{Zone, Node, Group, Class, Apex, Name, Parent, Pool, Pools, Ns, Services, A, Aaaa, Scores, Limits, Owner, Service}

-- a value that is a text
abbrev pub text_in : Option Data → Option (List ℕ)
text_in (Some (string t)) = Some t
text_in _ = None

-- the text at a key of an entry
abbrev pub text_at : Data → Key → Option (List ℕ)
text_at (table ms) k = text_in (value_at ms k)
text_at _ k = None

-- the entry has that name
abbrev pub is_called : List ℕ → Option (List ℕ) → Bool
is_called text None = false
is_called text (Some name) = bytes_eq name text

-- the number of the first entry of that name
abbrev pub number_of : List Data → List ℕ → Option ℕ
number_of entries text = position_from (λ e. is_called text (text_at e Name)) 0 entries

-- the entries of a topology's three arrays, and its zone where that is a table
pub record Entries : Type 0 where
  pub nodes : List Data
  pub groups : List Data
  pub classes : List Data
  pub zone : Option Members

-- the entries of a table's three arrays, and its zone
abbrev pub entries_of : Members → Entries
entries_of top = record { nodes = items_at top Node; groups = items_at top Group; classes = items_at top Class; zone = table_in (value_at top Zone) }

-- the units of demand: the groups, and behind them the classes
abbrev pub units_of : Entries → List Data
units_of d = d.groups ++ d.classes

-- the items at a key of the zone
abbrev pub zone_items : Option Members → Key → List Data
zone_items None k = []
zone_items (Some ms) k = items_at ms k

-- the text at a key of the zone
abbrev pub zone_text : Option Members → Key → Option (List ℕ)
zone_text None k = None
zone_text (Some ms) k = text_in (value_at ms k)

-- a value that is a boolean, or false
abbrev pub flag_in : Option Data → Bool
flag_in (Some (boolean b)) = b
flag_in _ = false

-- an entry that is a pool
abbrev pub is_pool : Data → Bool
is_pool (table ms) = flag_in (value_at ms Pool)
is_pool _ = false

-- the entry of that number
abbrev pub entry_at : List Data → ℕ → Data
entry_at entries n = slice_index_or entries n (boolean false)

-- the number of a node's parent
abbrev pub parent_of : List Data → ℕ → Option ℕ
parent_of nodes n = option_and_then (number_of nodes) (text_at (entry_at nodes n) Parent)

-- the nodes from one up, at most so many
unfoldable pub ascend : ℕ → List Data → Option ℕ → List ℕ
ascend zero nodes at = []
ascend (suc steps) nodes None = []
ascend (suc steps) nodes (Some n) = n ∷ ascend steps nodes (parent_of nodes n)

-- an answer other than a number
abbrev pub is_other : Option ℕ → ℕ → Bool
is_other None i = false
is_other (Some j) i = not (j == i)

-- the name is that of an entry before number i
abbrev pub is_taken : List Data → ℕ → Option (List ℕ) → Bool
is_taken entries i None = false
is_taken entries i (Some text) = is_other (number_of entries text) i

-- the later of two entries of one name
abbrev pub repeats_name : Entries → Spot → Option (List ℕ) → Bool
repeats_name d (NodeTable i) text = is_taken d.nodes i text
repeats_name d (GroupTable i) text = is_taken (units_of d) i text
repeats_name d (ClassTable i) text = is_taken (units_of d) (length d.groups + i) text
repeats_name d _ text = false

-- the name on the wire that an item of `ns` or `services` stands for
abbrev pub name_in : Key → Data → Option (List ℕ)
name_in Ns (string t) = zone_name t
name_in Services (string t) = service_name t
name_in _ _ = None

-- the names that the items of a list stand for
abbrev pub names_in : Key → List Data → List (List ℕ)
names_in k ds = filter_map (name_in k) ds

-- the name is there among some, whatever the case of letters
abbrev pub is_among : List (List ℕ) → Option (List ℕ) → Bool
is_among names None = false
is_among names (Some name) = list_any (is_same name) names

-- a name as it is compared
abbrev pub folds_of : Option (List ℕ) → List (List ℕ)
folds_of None = []
folds_of (Some name) = str_to_ascii_lowercase name ∷ []

-- the name is one of those that were folded
abbrev pub is_seen : List (List ℕ) → Option (List ℕ) → Bool
is_seen folds None = false
is_seen folds (Some name) = list_any (bytes_eq (str_to_ascii_lowercase name)) folds

-- the items that stand for a name for which an earlier item stands
abbrev pub repeats_in : Key → List Data → List At
repeats_in k ds = map (λ p. Item p.0) (marked (λ i d. is_among (names_in k (take i ds)) (name_in k d)) ds)

-- the number of the service whose label a text is, whatever the case of letters
abbrev pub service_number : Option Members → List ℕ → Option ℕ
service_number zone text = option_and_then (λ name. position (is_same name) (names_in Services (zone_items zone Services))) (service_name text)

-- two numbers, where both are there
abbrev pub both : Option ℕ → Option ℕ → Option (ℕ × ℕ)
both (Some g) (Some s) = Some (g, s)
both _ _ = None

-- the numbers of the group and the service that a class names
abbrev pub pair_of : Entries → Data → Option (ℕ × ℕ)
pair_of d e = both (option_and_then (number_of d.groups) (text_at e Owner)) (option_and_then (service_number d.zone) (text_at e Service))

-- the two are one group and one service
abbrev pub is_same_pair : ℕ × ℕ → ℕ × ℕ → Bool
is_same_pair p q = p.0 == q.0 && p.1 == q.1

-- a pair is there among some
abbrev pub is_paired : List (ℕ × ℕ) → Option (ℕ × ℕ) → Bool
is_paired pairs None = false
is_paired pairs (Some p) = list_any (is_same_pair p) pairs

-- class number i is of a group and a service of which an earlier class is
abbrev pub repeats_pair : Entries → ℕ → Bool
repeats_pair d i = is_paired (filter_map (pair_of d) (take i d.classes)) (pair_of d (entry_at d.classes i))

-- the class at a place of the walk is so
abbrev pub repeats_pair_at : Entries → Spot → Bool
repeats_pair_at d (ClassTable i) = repeats_pair d i
repeats_pair_at d _ = false

-- a name, a name server or a service that stands earlier too, or the service of a later class of one group and service
abbrev pub duplicate_name : Entries → Visit → Key → List At
duplicate_name d v Name = whole_if (repeats_name d v.spot (text_in (value_at v.members Name)))
duplicate_name d v Ns = repeats_in Ns (zone_items d.zone Ns)
duplicate_name d v Services = repeats_in Services (zone_items d.zone Services)
duplicate_name d v Service = whole_if (repeats_pair_at d v.spot)
duplicate_name d v _ = []

-- a pool has that number
abbrev pub is_pool_number : List Data → Option ℕ → Bool
is_pool_number nodes None = false
is_pool_number nodes (Some n) = is_pool (entry_at nodes n)

-- a parent that is no node, a pool that is none, a class's group that is none, or its service that is none
abbrev pub is_unknown_name : Entries → Key → Data → Bool
is_unknown_name d Parent (string t) = not (is_some (number_of d.nodes t))
is_unknown_name d Pools (string t) = not (is_pool_number d.nodes (number_of d.nodes t))
is_unknown_name d Owner (string t) = not (is_some (number_of d.groups t))
is_unknown_name d Service (string t) = not (is_some (service_number d.zone t))
is_unknown_name d _ _ = false

-- a parent that doesn't stand earlier, or is a pool
abbrev pub is_misplaced : List Data → ℕ → Option ℕ → Bool
is_misplaced nodes i None = false
is_misplaced nodes i (Some p) = not (nat_lt p i) || is_pool (entry_at nodes p)

-- the entry at a place of the walk has such a parent
abbrev pub misplaced_at : Entries → Spot → Bool
misplaced_at d (NodeTable i) = is_misplaced d.nodes i (parent_of d.nodes i)
misplaced_at d _ = false

-- a node whose parent is misplaced, at its key `parent`
abbrev pub parent_order : Entries → Visit → Key → List At
parent_order d v Parent = whole_if (misplaced_at d v.spot)
parent_order d v _ = []

-- a path of more than eight nodes
abbrev pub is_deep : List Data → ℕ → Bool
is_deep nodes i = nat_lt 8 (length (ascend 9 nodes (Some i)))

-- the node at a place of the walk has such a path
abbrev pub is_deep_at : Entries → Spot → Bool
is_deep_at d (NodeTable i) = is_deep d.nodes i
is_deep_at d _ = false

-- a node whose path is too deep, at its key `parent`
abbrev pub too_deep : Entries → Visit → Key → List At
too_deep d v Parent = whole_if (is_deep_at d v.spot)
too_deep d v _ = []

-- a name server that is the apex or stands under it
abbrev pub is_under_apex : Option (List ℕ) → Option (List ℕ) → Bool
is_under_apex (Some apex) (Some name) = is_under name apex
is_under_apex _ _ = false

-- an item of `ns` that is the zone's apex or stands under it
abbrev pub is_inside : Entries → Key → Data → Bool
is_inside d Ns (string t) = is_under_apex (option_and_then zone_name (zone_text d.zone Apex)) (zone_name t)
is_inside d _ _ = false

-- the texts of an array
abbrev pub texts_of : List Data → List (List ℕ)
texts_of ds = filter_map as_str ds

-- some text stands twice
abbrev pub has_repeat : List (List ℕ) → Bool
has_repeat [] = false
has_repeat (x ∷ xs) = list_any (bytes_eq x) xs || has_repeat xs

-- an array at a key has so many items
abbrev pub count_at : Members → Key → ℕ
count_at ms k = length (items_at ms k)

-- a list against its shape
abbrev pub is_misshapen : Members → Key → Bool
is_misshapen ms Ns = is_some (value_at ms Ns) && (count_at ms Ns == 0)
is_misshapen ms A = nat_lt 0 (count_at ms A) && not (flag_in (value_at ms Pool))
is_misshapen ms Aaaa = nat_lt 0 (count_at ms Aaaa) && not (flag_in (value_at ms Pool))
is_misshapen ms Pools = is_some (value_at ms Pools) && ((count_at ms Pools == 0 || nat_lt 16 (count_at ms Pools)) || has_repeat (texts_of (items_at ms Pools)))
is_misshapen ms Scores = is_some (value_at ms Scores) && not (count_at ms Scores == count_at ms Pools)
is_misshapen ms Limits = is_some (value_at ms Limits) && not (count_at ms Limits == count_at ms Pools)
is_misshapen ms _ = false

-- a list against its shape, as a whole
abbrev pub list_shape : Visit → Key → List At
list_shape v k = whole_if (is_misshapen v.members k)
