-- The text of a fault: its number, its words and its place.
use Rattle.std.specs.Prelude.{ℕ, codes, List, [], ◌++◌, Option, None, Some}
use Rattle.std.specs.Fmt.{decimal}
use Rattle.topology_text.specs.Schema.{key_text}
use Rattle.topology_text.specs.declared.fault.TopologyFault.{TopologyFault}
use Rattle.topology_text.specs.declared.fault.TopologyFault.TheVariants.{NotToml, MissingKey, WrongKind, UnknownKey, BadName, DuplicateName, UnknownName, ParentOrder, TooDeep, Range, BadAddress, BadPrefix, DuplicatePrefix, NoDefault, ListShape, NsInside, TooMany, NoMemory}
use Rattle.topology_text.specs.declared.schema.At.{At}
use Rattle.topology_text.specs.declared.schema.At.TheVariants.{Whole, Item}
use Rattle.topology_text.specs.declared.schema.Key.{Key}
use Rattle.topology_text.specs.declared.schema.Place.{Place}
use Rattle.topology_text.specs.declared.schema.Spot.{Spot}
use Rattle.topology_text.specs.declared.schema.Spot.TheVariants.{Top, ZoneTable, NodeTable, GroupTable, ClassTable, Family}

-- a table, or a family of addresses
abbrev pub spot_text : Spot → List ℕ
spot_text Top = codes "top"
spot_text ZoneTable = codes "zone"
spot_text (NodeTable n) = codes "node " ++ decimal n
spot_text (GroupTable n) = codes "group " ++ decimal n
spot_text (ClassTable n) = codes "class " ++ decimal n
spot_text (Family n) = codes "family " ++ decimal n

-- a space and the key, where there is one
abbrev pub key_part : Option Key → List ℕ
key_part None = []
key_part (Some k) = codes " " ++ key_text k

-- a space and the item, where there is one
abbrev pub at_part : At → List ℕ
at_part Whole = []
at_part (Item n) = codes " " ++ decimal n

-- where a fault stands
abbrev pub place_text : Place → List ℕ
place_text p = spot_text p.spot ++ (key_part p.key ++ at_part p.at)

-- a fault
abbrev pub fault_text : TopologyFault → List ℕ
fault_text NotToml = codes "1 not toml"
fault_text (MissingKey p) = codes "2 missing key at " ++ place_text p
fault_text (WrongKind p) = codes "3 wrong kind at " ++ place_text p
fault_text (UnknownKey p) = codes "4 unknown key at " ++ place_text p
fault_text (BadName p) = codes "5 bad name at " ++ place_text p
fault_text (DuplicateName p) = codes "6 duplicate name at " ++ place_text p
fault_text (UnknownName p) = codes "7 unknown name at " ++ place_text p
fault_text (ParentOrder p) = codes "8 parent order at " ++ place_text p
fault_text (TooDeep p) = codes "9 too deep at " ++ place_text p
fault_text (Range p) = codes "10 out of range at " ++ place_text p
fault_text (BadAddress p) = codes "11 bad address at " ++ place_text p
fault_text (BadPrefix p) = codes "12 bad prefix at " ++ place_text p
fault_text (DuplicatePrefix p) = codes "13 duplicate prefix at " ++ place_text p
fault_text (NoDefault p) = codes "14 no default at " ++ place_text p
fault_text (ListShape p) = codes "15 list shape at " ++ place_text p
fault_text (NsInside p) = codes "16 ns inside at " ++ place_text p
fault_text (TooMany p) = codes "17 too many at " ++ place_text p
fault_text NoMemory = codes "out of memory"
