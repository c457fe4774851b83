-- Each name of a big world follows its rule and stands once, and leads to what it should.
use Rattle.std.proofs.Common.{append-nil, ◌≡◌, ℕ, ◌≤◌, not, [], Option, refl, ap, sym, ◌∙◌, arith}
use Rattle.std.specs.Prelude.{is_some}
use Rattle.name_text.specs.Names.{is_under, label_name_of, name_of}
use Rattle.toml.specs.Data.{Data, table}
use Rattle.topology_text.specs.Faults.{failures}
use Rattle.topology_text.specs.Names.{duplicate_name, is_inside, is_taken, is_unknown_name, parent_order, text_at, text_in, too_deep}
use Rattle.topology_text.specs.Values.{is_bad_name}
use Rattle.topology_text.specs.Walk.{places_of, value_at}
use Rattle.topology_text.specs.declared.schema.Key.TheVariants.{Name, Prefixes}
use Rattle.big_world.specs.declared.TheConstants.{LARGEST_WORLD}
use Rattle.big_world.specs.World.{groups_data, nodes_data}
use Rattle.big_world_read.proofs.Names.{group_good, group_name_free, listed_known, node_name_free, not_deep, not_misplaced, pool_good, region_found, region_good}
use Rattle.big_world_read.proofs.Passes.{Passes, failing_at, passes, prefixes_pass, whole}
use Rattle.big_world_read.proofs.Quiet.{IsQuiet, nothing_found, quiet_by}
use Rattle.big_world_read.proofs.Visits.{group_entry, members_of, node_entry, visits, zone_visit}
use Rattle.big_world_read.proofs.Walked.{group_is_table, node_is_table, world_entries}

-- names by their rule
good_names : (n : ℕ) → n ≤ LARGEST_WORLD → Passes is_bad_name n
unfolding name_of label_name_of
good_names n small = record {
  whole_zone = λ ms. refl;
  nodes = λ ms. refl;
  groups = λ ms. refl;
  zone = quiet_by (failing_at is_bad_name) zone_visit refl;
  region = λ i within. ap not (region_good i (omega arith));
  pool = λ i j within fits. ap not (pool_good i j (omega arith) (omega arith));
  parent = λ i within. refl;
  capacity = λ c low. refl;
  flag = refl;
  host = λ i j within fits. refl;
  group = λ i below. ap not (group_good i (omega arith));
  demand = λ d some low. refl;
  pools = λ s t start. refl;
  scores = λ y low. refl;
  prefixes = λ i below. prefixes_pass (is_bad_name Prefixes) (λ t. refl) i;
}

pub none_bad_name : (n : ℕ) → n ≤ LARGEST_WORLD → failures is_bad_name (visits n) ≡ []
none_bad_name n small = passes is_bad_name n (good_names n small)

-- names that lead to a node, or to a pool
known_names : (n : ℕ) → n ≤ LARGEST_WORLD → Passes (is_unknown_name (world_entries n)) n
known_names n small = record {
  whole_zone = λ ms. refl;
  nodes = λ ms. refl;
  groups = λ ms. refl;
  zone = quiet_by (failing_at (is_unknown_name (world_entries n))) zone_visit refl;
  region = λ i within. refl;
  pool = λ i j within fits. refl;
  parent = λ i within. ap (λ (o : Option ℕ). not (is_some o)) (region_found n i small within);
  capacity = λ c low. refl;
  flag = refl;
  host = λ i j within fits. refl;
  group = λ i below. refl;
  demand = λ d some low. refl;
  pools = λ s t start. ap not (listed_known n s t small);
  scores = λ y low. refl;
  prefixes = λ i below. prefixes_pass (is_unknown_name (world_entries n) Prefixes) (λ t. refl) i;
}

pub none_unknown_name : (n : ℕ) → n ≤ LARGEST_WORLD → failures (is_unknown_name (world_entries n)) (visits n) ≡ []
none_unknown_name n small = passes (is_unknown_name (world_entries n)) n (known_names n small)

-- name servers outside the zone
outside : (n : ℕ) → Passes (is_inside (world_entries n)) n
unfolding name_of is_under
outside n = record {
  whole_zone = λ ms. refl;
  nodes = λ ms. refl;
  groups = λ ms. refl;
  zone = quiet_by (failing_at (is_inside (world_entries n))) zone_visit refl;
  region = λ i within. refl;
  pool = λ i j within fits. refl;
  parent = λ i within. refl;
  capacity = λ c low. refl;
  flag = refl;
  host = λ i j within fits. refl;
  group = λ i below. refl;
  demand = λ d some low. refl;
  pools = λ s t start. refl;
  scores = λ y low. refl;
  prefixes = λ i below. prefixes_pass (is_inside (world_entries n) Prefixes) (λ t. refl) i;
}

pub none_inside : (n : ℕ) → failures (is_inside (world_entries n)) (visits n) ≡ []
none_inside n = passes (is_inside (world_entries n)) n (outside n)

-- the name in a table is the name of the entry
name_within : (e : Data) → e ≡ table (members_of e) → text_in (value_at (members_of e) Name) ≡ text_at e Name
name_within e is = sym (ap (λ (d : Data). text_at d Name) is)

-- no name stands twice
zone_once : (n : ℕ) → IsQuiet (duplicate_name (world_entries n)) zone_visit
unfolding name_of label_name_of
zone_once n = quiet_by (duplicate_name (world_entries n)) zone_visit refl

pub none_duplicate : (n : ℕ) → n ≤ LARGEST_WORLD → places_of (duplicate_name (world_entries n)) (visits n) ≡ []
none_duplicate n small =
    nothing_found (duplicate_name (world_entries n)) n (refl, (refl, (refl, (refl, tt)))) (zone_once n)
    (λ p below. (whole _ (ap (is_taken (nodes_data n) p) (name_within (node_entry n p) (node_is_table n p)) ∙ node_name_free n p small below), (refl, (refl, (refl, (refl, (refl, tt)))))))
    (λ i below. (whole _ (ap (λ ds. is_taken ds i (text_in (value_at (members_of (group_entry n i)) Name))) (append-nil (groups_data n)) ∙ ap (is_taken (groups_data n) i) (name_within (group_entry n i) (group_is_table n i)) ∙ group_name_free n i small below), (refl, (refl, (refl, (refl, (refl, tt)))))))

-- each parent stands earlier and is no pool
pub none_misplaced : (n : ℕ) → n ≤ LARGEST_WORLD → places_of (parent_order (world_entries n)) (visits n) ≡ []
none_misplaced n small =
    nothing_found (parent_order (world_entries n)) n (refl, (refl, (refl, (refl, tt)))) (quiet_by (parent_order (world_entries n)) zone_visit refl)
    (λ p below. (refl, (whole _ (not_misplaced n p small below), (refl, (refl, (refl, (refl, tt)))))))
    (λ i below. (refl, (refl, (refl, (refl, (refl, (refl, tt)))))))

-- no path is too long
pub none_deep : (n : ℕ) → n ≤ LARGEST_WORLD → places_of (too_deep (world_entries n)) (visits n) ≡ []
none_deep n small =
    nothing_found (too_deep (world_entries n)) n (refl, (refl, (refl, (refl, tt)))) (quiet_by (too_deep (world_entries n)) zone_visit refl)
    (λ p below. (refl, (whole _ (not_deep n p small below), (refl, (refl, (refl, (refl, tt)))))))
    (λ i below. (refl, (refl, (refl, (refl, (refl, (refl, tt)))))))
