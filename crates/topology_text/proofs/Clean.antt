-- A table without faults is sound.
use Rattle.std.proofs.Common.{◌≡◌, ℕ, ◌+◌, ◌^◌, ◌<◌, ◌≤◌, true, false, List, [], ◌++◌, length, get_or, Option, Some, IfSome, is_some, option_and_then, All, refl, ap, sym, ◌∙◌, subst, arith, lit<}
use Rattle.std.proofs.lemmas.Bool.{not-false}
use Rattle.toml.specs.Data.{Data, Members, boolean, table}
use Rattle.topology_text.specs.Hosts.{IsHosts}
use Rattle.topology_text.specs.Texts.{is_name, zone_name}
use Rattle.topology_text.specs.Walk.{items_at, items_of_value, places_of, table_in, value_at, walk}
use Rattle.topology_text.specs.Values.{failing, is_bad_name, is_out_of_range, missing, too_many, wrong_in, wrong_kind}
use Rattle.topology_text.specs.Names.{ascend, count_at, duplicate_name, entries_of, entry_at, flag_in, has_repeat, is_inside, is_pool, is_taken, names_in, repeats_in, zone_items, zone_text, is_unknown_name, list_shape, parent_of, pair_of, parent_order, text_at, text_in, texts_of, too_deep, units_of}
use Rattle.topology_text.specs.Faults.{failures, faults_of, name_faults, prefix_faults, shape_faults, value_faults}
use Rattle.topology_text.specs.Prefixes.{all_prefixes, duplicate_prefixes, no_default, passing}
use Rattle.topology_text.specs.Topology.{AreSoundClasses, AreSoundNames, IsSound, IsSoundGroup, IsSoundZone, hosts_of, number_at, zone_name_at, zone_of}
use Rattle.name_text.specs.Names.{is_under}
use Rattle.topology_text.specs.Plan.{IsZone}
use Rattle.topology_text.specs.declared.schema.Key.TheVariants.{Zone, Node, Group, Class, Owner, Service, Apex, Mname, Rname, Serial, Refresh, Retry, Expire, Minimum, Ttl, Ns, Services, Name, Pool, A, Aaaa, Capacity, Demand, Pools, Scores, Limits}
use Rattle.topology_text.proofs.Quiet.{empty_first, empty_second, empty_map, not_whole, quiet_top, quiet_zone, quiet_node, quiet_group, quiet_class}
use Rattle.topology_text.proofs.SoundHosts.{hosts_good, hosts_none, list_empty}
use Rattle.topology_text.proofs.SoundNames.{name_good, names_sound}
use Rattle.topology_text.proofs.ZoneNames.{all_outside, all_services, all_short, apex_of, few_names, names_apart, ns_named, ns_there, some_names, zone_name_short}
use Rattle.topology_text.proofs.SoundZone.{zone_name_good}
use Rattle.topology_text.proofs.Sound.{is_table, not_deep, not_over, number_fits, parent_before, parent_inner, table_there}
use Rattle.topology_text.proofs.SoundClasses.{both_there, few_units, owner_there, service_there, unit_all}
use Rattle.topology_text.proofs.SoundGroups.{array_passes, demand_low, is_there, kinds_pass, limit_fits, pool_there, score_fits, shape_pools, shape_scores}

-- the rules find nothing on the walk
pub record IsQuiet (top : Members) : Type 0 where
  pub missed : places_of missing (walk top) ≡ []
  pub kinds : places_of wrong_kind (walk top) ≡ []
  pub well_named : failures is_bad_name (walk top) ≡ []
  pub once : places_of (duplicate_name (entries_of top)) (walk top) ≡ []
  pub named : failures (is_unknown_name (entries_of top)) (walk top) ≡ []
  pub ordered : places_of (parent_order (entries_of top)) (walk top) ≡ []
  pub deep : places_of (too_deep (entries_of top)) (walk top) ≡ []
  pub ranges : failures is_out_of_range (walk top) ≡ []
  pub twice : duplicate_prefixes (all_prefixes (walk top)) ≡ []
  pub defaults : no_default (all_prefixes (walk top)) ≡ []
  pub shapes : places_of list_shape (walk top) ≡ []
  pub inside : failures (is_inside (entries_of top)) (walk top) ≡ []
  pub many : places_of too_many (walk top) ≡ []
  pub passed : passing (walk top) ≡ []

pub quiet : (top : Members) → faults_of top ≡ [] → IsQuiet top
unfolding faults_of
quiet top h =
    let shape = empty_first (shape_faults (walk top)) _ h in
    let rest = empty_second (shape_faults (walk top)) _ h in
    let names = empty_first (name_faults (entries_of top) (walk top)) _ rest in
    let rest2 = empty_second (name_faults (entries_of top) (walk top)) _ rest in
    let values = empty_first (value_faults (walk top)) _ rest2 in
    let rest3 = empty_second (value_faults (walk top)) _ rest2 in
    let prefixes = empty_first (prefix_faults (walk top)) _ rest3 in
    let lists = empty_second (prefix_faults (walk top)) _ rest3 in
    let shape2 = empty_second _ _ shape in
    let names2 = empty_second _ _ names in
    let names3 = empty_second _ _ names2 in
    let names4 = empty_second _ _ names3 in
    let lists2 = empty_second _ _ lists in
    let limits : places_of too_many (walk top) ++ passing (walk top) ≡ [] = empty_map _ _ (empty_second _ _ lists2) in
    record {
      missed = empty_map _ _ (empty_first _ _ shape);
      kinds = empty_map _ _ (empty_first _ _ shape2);
      well_named = empty_map _ _ (empty_first _ _ names);
      once = empty_map _ _ (empty_first _ _ names2);
      named = empty_map _ _ (empty_first _ _ names3);
      ordered = empty_map _ _ (empty_first _ _ names4);
      deep = empty_map _ _ (empty_second _ _ names4);
      ranges = empty_map _ _ (empty_first _ _ values);
      twice = empty_map _ _ (empty_first _ _ prefixes);
      defaults = empty_map _ _ (empty_second _ _ prefixes);
      shapes = empty_map _ _ (empty_first _ _ lists);
      inside = empty_map _ _ (empty_first _ _ lists2);
      many = empty_first _ _ limits;
      passed = empty_second (places_of too_many (walk top)) _ limits;
    }

-- each entry of a node, and of a group, is a table
node_table : (top : Members) → IsQuiet top → (i : ℕ) → i < length (items_at top Node) → (ms : Members) × (entry_at (items_at top Node) i ≡ table ms)
node_table top q i l = is_table _ (not-false _ (kinds_pass Node (value_at top Node) (quiet_top wrong_kind top 1 q.kinds (lit< tt)) i (boolean false) l))

group_table : (top : Members) → IsQuiet top → (g : ℕ) → g < length (items_at top Group) → (ms : Members) × (entry_at (items_at top Group) g ≡ table ms)
group_table top q g l = is_table _ (not-false _ (kinds_pass Group (value_at top Group) (quiet_top wrong_kind top 2 q.kinds (lit< tt)) g (boolean false) l))

class_table : (top : Members) → IsQuiet top → (c : ℕ) → c < length (items_at top Class) → (ms : Members) × (entry_at (items_at top Class) c ≡ table ms)
class_table top q c l = is_table _ (not-false _ (kinds_pass Class (value_at top Class) (quiet_top wrong_kind top 3 q.kinds (lit< tt)) c (boolean false) l))

capacity_of : (top : Members) → IsQuiet top → (i : ℕ) → i < length (items_at top Node) → number_at (entry_at (items_at top Node) i) Capacity ≤ 2 ^ 48
capacity_of top q i l =
    let (ms, is) = node_table top q i l in
    let fits = number_fits Capacity 0 (2 ^ 48 + 1) (lit< tt) (λ z. refl) (value_at ms Capacity) (quiet_node (λ v k. failing (is_out_of_range k) (value_at v.members k)) top i ms 2 q.ranges l is (lit< tt)) in
    subst (λ (e : Data). number_at e Capacity ≤ 2 ^ 48) (sym is) (omega (arith, fits))

parent_of_node : (top : Members) → IsQuiet top → (i : ℕ) → i < length (items_at top Node) → IfSome (parent_of (items_at top Node) i) (λ p. p < i)
parent_of_node top q i l = let (ms, is) = node_table top q i l in parent_before (items_at top Node) i _ (quiet_node (parent_order (entries_of top)) top i ms 1 q.ordered l is (lit< tt))

inner_of_node : (top : Members) → IsQuiet top → (i : ℕ) → i < length (items_at top Node) → IfSome (parent_of (items_at top Node) i) (λ p. is_pool (entry_at (items_at top Node) p) ≡ false)
inner_of_node top q i l = let (ms, is) = node_table top q i l in parent_inner (items_at top Node) i _ (quiet_node (parent_order (entries_of top)) top i ms 1 q.ordered l is (lit< tt))

shallow_node : (top : Members) → IsQuiet top → (i : ℕ) → i < length (items_at top Node) → length (ascend 9 (items_at top Node) (Some i)) ≤ 8
shallow_node top q i l = let (ms, is) = node_table top q i l in not_deep (items_at top Node) i (quiet_node (too_deep (entries_of top)) top i ms 1 q.deep l is (lit< tt))

-- a group that is a table
table_group : (top : Members) → IsQuiet top → (g : ℕ) → g < length (items_at top Group) → (ms : Members) → get_or (items_at top Group) g (boolean false) ≡ table ms → IsSoundGroup (items_at top Node) (table ms)
table_group top q g l ms is =
    let pools_there : is_some (value_at ms Pools) ≡ true = is_there _ (quiet_group missing top g ms 2 q.missed l is (lit< tt)) in
    let scores_there : is_some (value_at ms Scores) ≡ true = is_there _ (quiet_group missing top g ms 3 q.missed l is (lit< tt)) in
    let demand_there : is_some (value_at ms Demand) ≡ true = is_there _ (quiet_group missing top g ms 1 q.missed l is (lit< tt)) in
    let demand_range = quiet_group (λ v k. failing (is_out_of_range k) (value_at v.members k)) top g ms 1 q.ranges l is (lit< tt) in
    let pools_kind = quiet_group wrong_kind top g ms 2 q.kinds l is (lit< tt) in
    let pools_known = quiet_group (λ v k. failing (is_unknown_name (entries_of top) k) (value_at v.members k)) top g ms 2 q.named l is (lit< tt) in
    let scores_range = quiet_group (λ v k. failing (is_out_of_range k) (value_at v.members k)) top g ms 3 q.ranges l is (lit< tt) in
    let limits_kind = quiet_group wrong_kind top g ms 4 q.kinds l is (lit< tt) in
    let limits_range = quiet_group (λ v k. failing (is_out_of_range k) (value_at v.members k)) top g ms 4 q.ranges l is (lit< tt) in
    let pools_shape : (1 ≤ count_at ms Pools) × (count_at ms Pools ≤ 16) × (has_repeat (texts_of (items_at ms Pools)) ≡ false) =
    shape_pools _ _ _ pools_there (not_whole _ (quiet_group list_shape top g ms 2 q.shapes l is (lit< tt))) in
    let scores_shape : count_at ms Scores ≡ count_at ms Pools = shape_scores _ _ _ scores_there (not_whole _ (quiet_group list_shape top g ms 3 q.shapes l is (lit< tt))) in
    record {
      some = demand_low (value_at ms Demand) demand_there (quiet_group wrong_kind top g ms 1 q.kinds l is (lit< tt)) demand_range;
      fits = number_fits Demand 1 (2 ^ 32) (lit< tt) (λ z. refl) (value_at ms Demand) demand_range;
      asks = pools_shape.0;
      few = pools_shape.1;
      beside = scores_shape;
      pools = λ j d h. pool_there (entries_of top) _ (kinds_pass Pools (value_at ms Pools) pools_kind j d h) (array_passes (is_unknown_name (entries_of top) Pools) (value_at ms Pools) pools_known j d h);
      distinct = pools_shape.2;
      limits = λ j d h. limit_fits (get_or (items_of_value (value_at ms Limits)) j d) (kinds_pass Limits (value_at ms Limits) limits_kind j d h) (array_passes (is_out_of_range Limits) (value_at ms Limits) limits_range j d h);
      scores = λ j d h. score_fits (get_or (items_of_value (value_at ms Scores)) j d) (array_passes (is_out_of_range Scores) (value_at ms Scores) scores_range j d h);
    }

-- a class that is a table
table_class : (top : Members) → IsQuiet top → (g : ℕ) → g < length (items_at top Class) → (ms : Members) → get_or (items_at top Class) g (boolean false) ≡ table ms → IsSoundGroup (items_at top Node) (table ms)
table_class top q g l ms is =
    let pools_there : is_some (value_at ms Pools) ≡ true = is_there _ (quiet_class missing top g ms 4 q.missed l is (lit< tt)) in
    let scores_there : is_some (value_at ms Scores) ≡ true = is_there _ (quiet_class missing top g ms 5 q.missed l is (lit< tt)) in
    let demand_there : is_some (value_at ms Demand) ≡ true = is_there _ (quiet_class missing top g ms 3 q.missed l is (lit< tt)) in
    let demand_range = quiet_class (λ v k. failing (is_out_of_range k) (value_at v.members k)) top g ms 3 q.ranges l is (lit< tt) in
    let pools_kind = quiet_class wrong_kind top g ms 4 q.kinds l is (lit< tt) in
    let pools_known = quiet_class (λ v k. failing (is_unknown_name (entries_of top) k) (value_at v.members k)) top g ms 4 q.named l is (lit< tt) in
    let scores_range = quiet_class (λ v k. failing (is_out_of_range k) (value_at v.members k)) top g ms 5 q.ranges l is (lit< tt) in
    let limits_kind = quiet_class wrong_kind top g ms 6 q.kinds l is (lit< tt) in
    let limits_range = quiet_class (λ v k. failing (is_out_of_range k) (value_at v.members k)) top g ms 6 q.ranges l is (lit< tt) in
    let pools_shape : (1 ≤ count_at ms Pools) × (count_at ms Pools ≤ 16) × (has_repeat (texts_of (items_at ms Pools)) ≡ false) =
    shape_pools _ _ _ pools_there (not_whole _ (quiet_class list_shape top g ms 4 q.shapes l is (lit< tt))) in
    let scores_shape : count_at ms Scores ≡ count_at ms Pools = shape_scores _ _ _ scores_there (not_whole _ (quiet_class list_shape top g ms 5 q.shapes l is (lit< tt))) in
    record {
      some = demand_low (value_at ms Demand) demand_there (quiet_class wrong_kind top g ms 3 q.kinds l is (lit< tt)) demand_range;
      fits = number_fits Demand 1 (2 ^ 32) (lit< tt) (λ z. refl) (value_at ms Demand) demand_range;
      asks = pools_shape.0;
      few = pools_shape.1;
      beside = scores_shape;
      pools = λ j d h. pool_there (entries_of top) _ (kinds_pass Pools (value_at ms Pools) pools_kind j d h) (array_passes (is_unknown_name (entries_of top) Pools) (value_at ms Pools) pools_known j d h);
      distinct = pools_shape.2;
      limits = λ j d h. limit_fits (get_or (items_of_value (value_at ms Limits)) j d) (kinds_pass Limits (value_at ms Limits) limits_kind j d h) (array_passes (is_out_of_range Limits) (value_at ms Limits) limits_range j d h);
      scores = λ j d h. score_fits (get_or (items_of_value (value_at ms Scores)) j d) (array_passes (is_out_of_range Scores) (value_at ms Scores) scores_range j d h);
    }

-- the name of an entry that is a table
has_name : (entries : List Data) (i : ℕ) (e : Data) (ms : Members) → e ≡ table ms → is_some (value_at ms Name) ≡ true → wrong_in Name (value_at ms Name) ≡ [] → failing (is_bad_name Name) (value_at ms Name) ≡ []
    → is_taken entries i (text_in (value_at ms Name)) ≡ false → (t : List ℕ) × (text_at e Name ≡ Some t) × (is_name t ≡ true) × (is_taken entries i (text_at e Name) ≡ false)
has_name entries i e ms is there kind good free =
    let (t, named, well) = name_good (value_at ms Name) there kind good in
    let same : text_at e Name ≡ text_in (value_at ms Name) = ap (λ (x : Data). text_at x Name) is in
    (t, same ∙ named, well, ap (is_taken entries i) same ∙ free)

node_names : (top : Members) → IsQuiet top → AreSoundNames (items_at top Node)
node_names top q = names_sound (items_at top Node) (λ i l.
    let (ms, is) = node_table top q i l in
    has_name (items_at top Node) i (entry_at (items_at top Node) i) ms is (is_there _ (quiet_node missing top i ms 0 q.missed l is (lit< tt))) (quiet_node wrong_kind top i ms 0 q.kinds l is (lit< tt))
    (quiet_node (λ v k. failing (is_bad_name k) (value_at v.members k)) top i ms 0 q.well_named l is (lit< tt)) (not_whole _ (quiet_node (duplicate_name (entries_of top)) top i ms 0 q.once l is (lit< tt))))

unit_names : (top : Members) → IsQuiet top → AreSoundNames (units_of (entries_of top))
unit_names top q =
    let units = units_of (entries_of top) in
    names_sound units (unit_all (λ i e. (t : List ℕ) × (text_at e Name ≡ Some t) × (is_name t ≡ true) × (is_taken units i (text_at e Name) ≡ false)) (items_at top Group) (items_at top Class)
    (λ i l.
    let (ms, is) = group_table top q i l in
    has_name units i (entry_at (items_at top Group) i) ms is (is_there _ (quiet_group missing top i ms 0 q.missed l is (lit< tt))) (quiet_group wrong_kind top i ms 0 q.kinds l is (lit< tt))
    (quiet_group (λ v k. failing (is_bad_name k) (value_at v.members k)) top i ms 0 q.well_named l is (lit< tt)) (not_whole _ (quiet_group (duplicate_name (entries_of top)) top i ms 0 q.once l is (lit< tt))))
    (λ c l.
    let (ms, is) = class_table top q c l in
    has_name units (length (items_at top Group) + c) (entry_at (items_at top Class) c) ms is (is_there _ (quiet_class missing top c ms 0 q.missed l is (lit< tt))) (quiet_class wrong_kind top c ms 0 q.kinds l is (lit< tt))
    (quiet_class (λ v k. failing (is_bad_name k) (value_at v.members k)) top c ms 0 q.well_named l is (lit< tt)) (not_whole _ (quiet_class (duplicate_name (entries_of top)) top c ms 0 q.once l is (lit< tt)))))

-- each class names a group and a service
named_class : (top : Members) → IsQuiet top → (c : ℕ) → c < length (items_at top Class) → is_some (pair_of (entries_of top) (entry_at (items_at top Class) c)) ≡ true
named_class top q c l =
    let d = entries_of top in
    let (ms, is) = class_table top q c l in
    let owner = owner_there d (value_at ms Owner) (is_there _ (quiet_class missing top c ms 1 q.missed l is (lit< tt))) (quiet_class wrong_kind top c ms 1 q.kinds l is (lit< tt))
    (quiet_class (λ v k. failing (is_unknown_name d k) (value_at v.members k)) top c ms 1 q.named l is (lit< tt)) in
    let service = service_there d (value_at ms Service) (is_there _ (quiet_class missing top c ms 2 q.missed l is (lit< tt))) (quiet_class wrong_kind top c ms 2 q.kinds l is (lit< tt))
    (quiet_class (λ v k. failing (is_unknown_name d k) (value_at v.members k)) top c ms 2 q.named l is (lit< tt)) in
    ap (λ (e : Data). is_some (pair_of d e)) is ∙ both_there _ _ owner service

classes_sound : (top : Members) → IsQuiet top → AreSoundClasses (entries_of top)
classes_sound top q = record {
  named = named_class top q;
  once = λ c l. let (ms, is) = class_table top q c l in not_whole _ (quiet_class (duplicate_name (entries_of top)) top c ms 2 q.once l is (lit< tt));
}

-- the addresses of a node
hosts_of_node : (top : Members) → IsQuiet top → (i : ℕ) → i < length (items_at top Node) → IsHosts (hosts_of (entry_at (items_at top Node) i))
hosts_of_node top q i l =
    let (ms, is) = node_table top q i l in
    subst (λ (e : Data). IsHosts (hosts_of e)) (sym is) (hosts_good (table ms) (not_over 40 _ (quiet_node too_many top i ms 4 q.many l is (lit< tt))) (not_over 40 _ (quiet_node too_many top i ms 5 q.many l is (lit< tt))))

-- a node that is no pool has none
hosts_of_other : (top : Members) → IsQuiet top → (i : ℕ) → i < length (items_at top Node) → is_pool (entry_at (items_at top Node) i) ≡ false → hosts_of (entry_at (items_at top Node) i) ≡ record { v4 = []; v6 = [] }
hosts_of_other top q i l other =
    let (ms, is) = node_table top q i l in
    let no_pool : flag_in (value_at ms Pool) ≡ false = ap is_pool (sym is) ∙ other in
    ap hosts_of is
    ∙ hosts_none (table ms) (list_empty (flag_in (value_at ms Pool)) (items_at ms A) no_pool (not_whole _ (quiet_node list_shape top i ms 4 q.shapes l is (lit< tt))))
    (list_empty (flag_in (value_at ms Pool)) (items_at ms Aaaa) no_pool (not_whole _ (quiet_node list_shape top i ms 5 q.shapes l is (lit< tt))))

-- what the zone's lists show
zone_lists : (top ms : Members) → IsQuiet top → value_at top Zone ≡ Some (table ms) → is_some (option_and_then zone_name (zone_text (Some ms) Apex)) ≡ true → IsZone (zone_of (Some ms))
zone_lists top ms q is there =
    let d = entries_of top in
    let same : d.zone ≡ Some ms = ap table_in is in
    let there2 : is_some (apex_of d) ≡ true = ap (λ z. is_some (option_and_then zone_name (zone_text z Apex))) same ∙ there in
    let ns_list : repeats_in Ns (items_at ms Ns) ≡ [] = ap (λ z. repeats_in Ns (zone_items z Ns)) (sym same) ∙ quiet_zone (duplicate_name d) top ms 9 q.once is (lit< tt) in
    let services_list : repeats_in Services (items_at ms Services) ≡ [] = ap (λ z. repeats_in Services (zone_items z Services)) (sym same) ∙ quiet_zone (duplicate_name d) top ms 10 q.once is (lit< tt) in
    let ns_is : is_some (value_at ms Ns) ≡ true = is_there _ (quiet_zone missing top ms 9 q.missed is (lit< tt)) in
    let ns_count : 1 ≤ length (items_at ms Ns) = ns_there _ _ ns_is (not_whole _ (quiet_zone list_shape top ms 9 q.shapes is (lit< tt))) in
    let ns_kind = quiet_zone wrong_kind top ms 9 q.kinds is (lit< tt) in
    let ns_good = quiet_zone (λ v k. failing (is_bad_name k) (value_at v.members k)) top ms 9 q.well_named is (lit< tt) in
    let ns_free = quiet_zone (λ v k. failing (is_inside d k) (value_at v.members k)) top ms 9 q.inside is (lit< tt) in
    let ns_few : length (items_at ms Ns) ≤ 4 = not_over 4 _ (quiet_zone too_many top ms 9 q.many is (lit< tt)) in
    let services_few : length (items_at ms Services) ≤ 64 = not_over 64 _ (quiet_zone too_many top ms 10 q.many is (lit< tt)) in
    record {
      apex = zone_name_short (zone_text (Some ms) Apex);
      mname = zone_name_short (zone_text (Some ms) Mname);
      rname = zone_name_short (zone_text (Some ms) Rname);
      minimum = number_fits Minimum 0 (2 ^ 31) (lit< tt) (λ z. refl) (value_at ms Minimum) (quiet_zone (λ v k. failing (is_out_of_range k) (value_at v.members k)) top ms 7 q.ranges is (lit< tt));
      ttl = number_fits Ttl 0 (2 ^ 31) (lit< tt) (λ z. refl) (value_at ms Ttl) (quiet_zone (λ v k. failing (is_out_of_range k) (value_at v.members k)) top ms 8 q.ranges is (lit< tt));
      some_ns = some_names Ns (items_at ms Ns) ns_count (ns_named _ (kinds_pass Ns (value_at ms Ns) ns_kind 0 (boolean false) ns_count) (array_passes (is_bad_name Ns) (value_at ms Ns) ns_good 0 (boolean false) ns_count));
      few_ns = omega (arith, few_names Ns (items_at ms Ns));
      short_ns = all_short (items_at ms Ns);
      outside = subst (λ z. All (λ n. is_under n (zone_name_at z Apex) ≡ false) (names_in Ns (items_at ms Ns))) same (all_outside d (items_at ms Ns) there2 (λ j l. array_passes (is_inside d Ns) (value_at ms Ns) ns_free j (boolean false) l));
      distinct_ns = names_apart Ns (items_at ms Ns) ns_list;
      few_services = omega (arith, few_names Services (items_at ms Services));
      services = all_services (items_at ms Services);
      distinct_services = names_apart Services (items_at ms Services) services_list;
      soa = refl;
    }

-- the zone, which is a table
zone_table : (top ms : Members) → IsQuiet top → value_at top Zone ≡ Some (table ms) → IsSoundZone (Some ms)
zone_table top ms q is =
    let there = zone_name_good Apex refl (λ t. refl) (value_at ms Apex) (is_there _ (quiet_zone missing top ms 0 q.missed is (lit< tt))) (quiet_zone wrong_kind top ms 0 q.kinds is (lit< tt)) (quiet_zone (λ v k. failing (is_bad_name k) (value_at v.members k)) top ms 0 q.well_named is (lit< tt)) in
    record {
      whole = zone_lists top ms q is there;
      apex = there;
      mname = zone_name_good Mname refl (λ t. refl) (value_at ms Mname) (is_there _ (quiet_zone missing top ms 1 q.missed is (lit< tt))) (quiet_zone wrong_kind top ms 1 q.kinds is (lit< tt)) (quiet_zone (λ v k. failing (is_bad_name k) (value_at v.members k)) top ms 1 q.well_named is (lit< tt));
      rname = zone_name_good Rname refl (λ t. refl) (value_at ms Rname) (is_there _ (quiet_zone missing top ms 2 q.missed is (lit< tt))) (quiet_zone wrong_kind top ms 2 q.kinds is (lit< tt)) (quiet_zone (λ v k. failing (is_bad_name k) (value_at v.members k)) top ms 2 q.well_named is (lit< tt));
      serial = number_fits Serial 0 (2 ^ 32) (lit< tt) (λ z. refl) (value_at ms Serial) (quiet_zone (λ v k. failing (is_out_of_range k) (value_at v.members k)) top ms 3 q.ranges is (lit< tt));
      refresh = number_fits Refresh 0 (2 ^ 32) (lit< tt) (λ z. refl) (value_at ms Refresh) (quiet_zone (λ v k. failing (is_out_of_range k) (value_at v.members k)) top ms 4 q.ranges is (lit< tt));
      retry = number_fits Retry 0 (2 ^ 32) (lit< tt) (λ z. refl) (value_at ms Retry) (quiet_zone (λ v k. failing (is_out_of_range k) (value_at v.members k)) top ms 5 q.ranges is (lit< tt));
      expire = number_fits Expire 0 (2 ^ 32) (lit< tt) (λ z. refl) (value_at ms Expire) (quiet_zone (λ v k. failing (is_out_of_range k) (value_at v.members k)) top ms 6 q.ranges is (lit< tt));
      minimum = number_fits Minimum 0 (2 ^ 31) (lit< tt) (λ z. refl) (value_at ms Minimum) (quiet_zone (λ v k. failing (is_out_of_range k) (value_at v.members k)) top ms 7 q.ranges is (lit< tt));
      ttl = number_fits Ttl 0 (2 ^ 31) (lit< tt) (λ z. refl) (value_at ms Ttl) (quiet_zone (λ v k. failing (is_out_of_range k) (value_at v.members k)) top ms 8 q.ranges is (lit< tt));
    }

zone_sound : (top : Members) → IsQuiet top → IsSoundZone (table_in (value_at top Zone))
zone_sound top q =
    let (ms, is) = table_there Zone refl (value_at top Zone) (is_there _ (quiet_top missing top 0 q.missed (lit< tt))) (quiet_top wrong_kind top 0 q.kinds (lit< tt)) in
    subst (λ (o : Option Data). IsSoundZone (table_in o)) (sym is) (zone_table top ms q is)

pub sound : (top : Members) → faults_of top ≡ [] → IsSound (entries_of top)
sound top h =
    let q = quiet top h in
    record {
      few_nodes = not_over 8192 _ (quiet_top too_many top 1 q.many (lit< tt));
      few_groups = few_units top (quiet_top too_many top 3 q.many (lit< tt));
      capacities = capacity_of top q;
      parents = parent_of_node top q;
      inner = inner_of_node top q;
      shallow = shallow_node top q;
      node_names = node_names top q;
      group_names = unit_names top q;
      classes = classes_sound top q;
      hosts = hosts_of_node top q;
      pools_only = hosts_of_other top q;
      zone = zone_sound top q;
      groups = unit_all (λ g e. IsSoundGroup (items_at top Node) e) (items_at top Group) (items_at top Class)
          (λ g l. let (ms, is) = group_table top q g l in subst (IsSoundGroup (items_at top Node)) (sym is) (table_group top q g l ms is))
          (λ c l. let (ms, is) = class_table top q c l in subst (IsSoundGroup (items_at top Node)) (sym is) (table_class top q c l ms is));
    }
