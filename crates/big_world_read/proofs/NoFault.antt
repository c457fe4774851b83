-- The topology of a big world has no fault, and is read as what it says.
use Rattle.std.proofs.Common.{◌≡◌, ℕ, ◌≤◌, Bool, true, List, [], ◌++◌, Option, None, Some, if◌then◌else◌, ap, ◌∙◌}
use Rattle.std.specs.Prelude.{Ok}
use Rattle.std.specs.List.{flat_map}
use Rattle.std.specs.Str.{is_utf8}
use Rattle.toml.specs.Data.{Members}
use Rattle.toml.specs.Parse.{parse_document}
use Rattle.topology_text.specs.Faults.{document, failures, faults_of, faults_on, found_or, list_faults, name_faults, prefix_faults, reading, reading_of, shape_faults, value_faults}
use Rattle.topology_text.specs.Names.{Entries, duplicate_name, entries_of, is_inside, is_unknown_name, list_shape, parent_order, too_deep}
use Rattle.topology_text.specs.Prefixes.{all_prefixes, duplicate_prefixes, no_default, passing}
use Rattle.topology_text.specs.Topology.{plan_of}
use Rattle.topology_text.specs.Values.{is_bad_address, is_bad_name, is_bad_prefix, is_out_of_range, missing, too_many, unknown, wrong_kind}
use Rattle.topology_text.specs.Walk.{Visit, first, places_of, walk}
use Rattle.topology_text.specs.declared.fault.TopologyFault.{TopologyFault}
use Rattle.topology_text.specs.declared.fault.TopologyFault.TheVariants.{MissingKey, WrongKind, UnknownKey, BadName, DuplicateName, UnknownName, ParentOrder, TooDeep, Range, BadAddress, BadPrefix, DuplicatePrefix, NoDefault, ListShape, NsInside, TooMany}
use Rattle.big_world.specs.declared.TheConstants.{LARGEST_WORLD}
use Rattle.big_world.specs.Topology.{topology_of}
use Rattle.big_world.specs.World.{world_of}
use Rattle.big_world.proofs.Octets.{is_text}
use Rattle.big_world.proofs.Parses.{parses}
use Rattle.big_world_read.specs.Read.{world_plan}
use Rattle.big_world_read.proofs.Named.{none_bad_name, none_deep, none_duplicate, none_inside, none_misplaced, none_unknown_name}
use Rattle.big_world_read.proofs.Numbered.{both_empty, map_empty}
use Rattle.big_world_read.proofs.Prefixes.{defaults_there, never_passing, prefixes_once}
use Rattle.big_world_read.proofs.Shapes.{none_missing, none_misshapen, none_too_many, none_unknown, none_wrong}
use Rattle.big_world_read.proofs.Values.{none_bad_address, none_bad_prefix, none_out_of_range}
use Rattle.big_world_read.proofs.Visits.{visits}
use Rattle.big_world_read.proofs.Walked.{entries_are, walked, world_entries}

-- no rule finds anything
record FindsNone (d : Entries) (vs : List Visit) : Type 0 where
  missing : places_of missing vs ≡ []
  kinds : places_of wrong_kind vs ≡ []
  unknown : flat_map unknown vs ≡ []
  names : failures is_bad_name vs ≡ []
  once : places_of (duplicate_name d) vs ≡ []
  known : failures (is_unknown_name d) vs ≡ []
  parents : places_of (parent_order d) vs ≡ []
  depths : places_of (too_deep d) vs ≡ []
  ranges : failures is_out_of_range vs ≡ []
  addresses : failures is_bad_address vs ≡ []
  prefixes : failures is_bad_prefix vs ≡ []
  distinct : duplicate_prefixes (all_prefixes vs) ≡ []
  defaults : no_default (all_prefixes vs) ≡ []
  shapes : places_of list_shape vs ≡ []
  outside : failures (is_inside d) vs ≡ []
  limits : places_of too_many vs ≡ []
  total : passing vs ≡ []

none_of_shape : (d : Entries) (vs : List Visit) → FindsNone d vs → shape_faults vs ≡ []
none_of_shape d vs h = both_empty _ _ (map_empty MissingKey (places_of missing vs) h.missing) (both_empty _ _ (map_empty WrongKind (places_of wrong_kind vs) h.kinds) (map_empty UnknownKey (flat_map unknown vs) h.unknown))

none_of_names : (d : Entries) (vs : List Visit) → FindsNone d vs → name_faults d vs ≡ []
none_of_names d vs h =
    both_empty _ _ (map_empty BadName (failures is_bad_name vs) h.names)
    (both_empty _ _ (map_empty DuplicateName (places_of (duplicate_name d) vs) h.once)
    (both_empty _ _ (map_empty UnknownName (failures (is_unknown_name d) vs) h.known)
    (both_empty _ _ (map_empty ParentOrder (places_of (parent_order d) vs) h.parents) (map_empty TooDeep (places_of (too_deep d) vs) h.depths))))

none_of_values : (d : Entries) (vs : List Visit) → FindsNone d vs → value_faults vs ≡ []
none_of_values d vs h =
    both_empty _ _ (map_empty Range (failures is_out_of_range vs) h.ranges)
    (both_empty _ _ (map_empty BadAddress (failures is_bad_address vs) h.addresses) (map_empty BadPrefix (failures is_bad_prefix vs) h.prefixes))

none_of_prefixes : (d : Entries) (vs : List Visit) → FindsNone d vs → prefix_faults vs ≡ []
none_of_prefixes d vs h = both_empty _ _ (map_empty DuplicatePrefix (duplicate_prefixes (all_prefixes vs)) h.distinct) (map_empty NoDefault (no_default (all_prefixes vs)) h.defaults)

none_of_lists : (d : Entries) (vs : List Visit) → FindsNone d vs → list_faults d vs ≡ []
none_of_lists d vs h =
    both_empty _ _ (map_empty ListShape (places_of list_shape vs) h.shapes)
    (both_empty _ _ (map_empty NsInside (failures (is_inside d) vs) h.outside)
    (map_empty TooMany (places_of too_many vs ++ passing vs) (both_empty _ _ h.limits h.total)))

none_at_all : (d : Entries) (vs : List Visit) → FindsNone d vs → faults_on d vs ≡ []
none_at_all d vs h =
    both_empty _ _ (none_of_shape d vs h) (both_empty _ _ (none_of_names d vs h) (both_empty _ _ (none_of_values d vs h) (both_empty _ _ (none_of_prefixes d vs h) (none_of_lists d vs h))))

finds_none : (n : ℕ) → 1 ≤ n → n ≤ LARGEST_WORLD → FindsNone (world_entries n) (visits n)
finds_none n some small = record {
  missing = none_missing n;
  kinds = none_wrong n;
  unknown = none_unknown n;
  names = none_bad_name n small;
  once = none_duplicate n small;
  known = none_unknown_name n small;
  parents = none_misplaced n small;
  depths = none_deep n small;
  ranges = none_out_of_range n;
  addresses = none_bad_address n small;
  prefixes = none_bad_prefix n small;
  distinct = prefixes_once n some small;
  defaults = defaults_there n some small;
  shapes = none_misshapen n small;
  outside = none_inside n;
  limits = none_too_many n small;
  total = never_passing n small;
}

-- there is no fault
pub no_fault : (n : ℕ) → 1 ≤ n → n ≤ LARGEST_WORLD → faults_of (world_of n) ≡ []
unfolding faults_of
no_fault n some small = (λ i. faults_on (entries_are n i) (walked n i)) ∙ none_at_all (world_entries n) (visits n) (finds_none n some small)

-- what the document is read as
pub reads_document : (n : ℕ) → 1 ≤ n → n ≤ LARGEST_WORLD → reading_of (Some (world_of n)) ≡ Ok (world_plan n)
unfolding world_plan
reads_document n some small = ap (λ (fs : List TopologyFault). found_or (plan_of (entries_of (world_of n)) (all_prefixes (walk (world_of n)))) (first fs)) (no_fault n some small)

-- a text that is a document's
read_text : (bytes : List ℕ) (top : Members) → parse_document bytes ≡ Some top → is_utf8 bytes ≡ true → reading bytes ≡ reading_of (Some top)
unfolding document
read_text bytes top parsed utf8 = ap (λ (b : Bool). reading_of (if b then parse_document bytes else None)) utf8 ∙ ap (λ (o : Option Members). reading_of o) parsed

-- and the text
pub reads : (n : ℕ) → 1 ≤ n → n ≤ LARGEST_WORLD → parse_document (topology_of n) ≡ Some (world_of n) → is_utf8 (topology_of n) ≡ true → reading (topology_of n) ≡ Ok (world_plan n)
reads n some small parsed utf8 = read_text (topology_of n) (world_of n) parsed utf8 ∙ reads_document n some small

-- the topology is read as what it says
pub topology_read : (n : ℕ) → 1 ≤ n → n ≤ LARGEST_WORLD → reading (topology_of n) ≡ Ok (world_plan n)
topology_read n some small = reads n some small (parses n some) (is_text n)
