-- All faults of a topology's table, by number and within a number in the order of the walk.
use Rattle.std.specs.Prelude.{Bool, List, ◌++◌, map, Result, Ok, Err, Option, None, Some, ◌≡◌, ℕ, if◌then◌else◌}
use Rattle.std.specs.List.{flat_map}
use Rattle.std.specs.Str.{is_utf8}
use Rattle.toml.specs.Data.{Data, Members}
use Rattle.toml.specs.Parse.{parse_document}
use Rattle.topology_text.specs.Walk.{Visit, first, places_of, value_at, walk}
use Rattle.topology_text.specs.Values.{failing, is_bad_address, is_bad_name, is_bad_prefix, is_out_of_range, missing, too_many, unknown, wrong_kind}
use Rattle.topology_text.specs.Names.{Entries, duplicate_name, entries_of, is_inside, is_unknown_name, list_shape, parent_order, too_deep}
use Rattle.topology_text.specs.Plan.{Plan}
use Rattle.topology_text.specs.Prefixes.{all_prefixes, duplicate_prefixes, no_default, passing}
use Rattle.topology_text.specs.Topology.{plan_of}
use Rattle.topology_text.specs.declared.schema.Key.{Key}
use Rattle.topology_text.specs.declared.schema.Place.{Place}
use Rattle.topology_text.specs.declared.fault.TopologyFault.{TopologyFault}
use Rattle.topology_text.specs.declared.fault.TopologyFault.TheVariants.{NotToml, MissingKey, WrongKind, UnknownKey, BadName, DuplicateName, UnknownName, ParentOrder, TooDeep, Range, BadAddress, BadPrefix, DuplicatePrefix, NoDefault, ListShape, NsInside, TooMany, NoMemory}

-- the places of values and items that fail a test
abbrev pub failures : (Key → Data → Bool) → List Visit → List Place
failures test visits = places_of (λ v k. failing (test k) (value_at v.members k)) visits

-- keys that are missing, values of the wrong kind, keys that no table has
abbrev pub shape_faults : List Visit → List TopologyFault
shape_faults visits = map MissingKey (places_of missing visits) ++ (map WrongKind (places_of wrong_kind visits) ++ map UnknownKey (flat_map unknown visits))

-- names against their rule, names that stand twice, names of nothing, parents that stand elsewhere or too deep
abbrev pub name_faults : Entries → List Visit → List TopologyFault
name_faults d visits =
    map BadName (failures is_bad_name visits)
    ++ (map DuplicateName (places_of (duplicate_name d) visits)
    ++ (map UnknownName (failures (is_unknown_name d) visits)
    ++ (map ParentOrder (places_of (parent_order d) visits) ++ map TooDeep (places_of (too_deep d) visits))))

-- numbers out of range, texts that are no addresses or no prefixes
abbrev pub value_faults : List Visit → List TopologyFault
value_faults visits =
    map Range (failures is_out_of_range visits)
    ++ (map BadAddress (failures is_bad_address visits) ++ map BadPrefix (failures is_bad_prefix visits))

-- prefixes that stand twice, default prefixes that are missing
abbrev pub prefix_faults : List Visit → List TopologyFault
prefix_faults visits = map DuplicatePrefix (duplicate_prefixes (all_prefixes visits)) ++ map NoDefault (no_default (all_prefixes visits))

-- lists against their shape, name servers in the zone, lists past their limit
abbrev pub list_faults : Entries → List Visit → List TopologyFault
list_faults d visits =
    map ListShape (places_of list_shape visits)
    ++ (map NsInside (failures (is_inside d) visits) ++ map TooMany (places_of too_many visits ++ passing visits))

-- all of them
abbrev pub faults_on : Entries → List Visit → List TopologyFault
faults_on d visits = shape_faults visits ++ (name_faults d visits ++ (value_faults visits ++ (prefix_faults visits ++ list_faults d visits)))

-- all faults of a table
unfoldable pub faults_of : Members → List TopologyFault
faults_of top = faults_on (entries_of top) (walk top)

-- no fault, or the first
abbrev pub found_none : Option TopologyFault → Result (Unit {0}) TopologyFault
found_none None = Ok tt
found_none (Some f) = Err f

-- what a check of these faults answers: nothing, or the first of them
abbrev pub checked : List TopologyFault → Result (Unit {0}) TopologyFault
checked faults = found_none (first faults)

-- the table whose text some bytes are
unfoldable pub document : List ℕ → Option Members
document bytes = if is_utf8 bytes then parse_document bytes else None

-- why some bytes have no table
abbrev pub HasNoTable : List ℕ → TopologyFault → Type 0
HasNoTable bytes NoMemory = Unit {0}
HasNoTable bytes NotToml = document bytes ≡ None
HasNoTable bytes _ = ⊥

-- what the file says, or the first fault
abbrev pub found_or : Plan → Option TopologyFault → Result Plan TopologyFault
found_or plan None = Ok plan
found_or plan (Some f) = Err f

-- what a table is read as
abbrev pub reading_of : Option Members → Result Plan TopologyFault
reading_of None = Err NotToml
reading_of (Some top) = found_or (plan_of (entries_of top) (all_prefixes (walk top))) (first (faults_of top))

-- what some bytes are read as, if there is memory
abbrev pub reading : List ℕ → Result Plan TopologyFault
reading bytes = reading_of (document bytes)
