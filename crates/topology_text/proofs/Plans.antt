-- What sound entries and prefixes say is a topology.
use Rattle.std.proofs.Common.{◌≡◌, ℕ, ◌^◌, ◌<◌, ◌≤◌, false, List, [], length, get_or, map, IsTrue, All, refl, ap, sym, ◌∙◌, subst, arith}
use Rattle.std.proofs.lemmas.List.{get_or-map, length-map}
use Rattle.toml.specs.Data.{Data, boolean}
use Rattle.addr_text.specs.declared.address.Prefix.{Prefix}
use Rattle.map_model.specs.declared.instance.GroupId.{GroupId}
use Rattle.map_model.specs.Market.{Market}
use Rattle.topology_text.specs.Hosts.{HostLists, IsHosts, addresses_at}
use Rattle.topology_text.specs.Names.{Entries, units_of}
use Rattle.topology_text.specs.Plan.{AreClasses, AreNames, ArePrefixes, Classes, IsPlan}
use Rattle.topology_text.specs.Texts.{is_name}
use Rattle.topology_text.specs.Topology.{AreSoundNames, IsSound, classes_of, group_of, hosts_of, market_of, name_of, node_of, owned, plan_of, zone_of}
use Rattle.topology_text.specs.declared.prefixes.PrefixAt.{PrefixAt}
use Rattle.topology_text.specs.declared.topology.Zone.{Zone}
use Rattle.topology_text.proofs.Distinct.{market_good, pool_same}
use Rattle.topology_text.proofs.SoundClasses.{classes_good}
use Rattle.topology_text.proofs.Markets.{All-map_at, get_or-map_at}

names_good : (entries : List Data) (n : ℕ) → AreSoundNames entries → length entries ≡ n → AreNames (map name_of entries) n
names_good entries n s len = record {
  as_many = length-map entries name_of ∙ len;
  each = All-map_at name_of (λ t. IsTrue (is_name t)) entries (boolean false) s.each;
  distinct = s.distinct;
}

-- the groups of prefixes have numbers of 32 bits
pub owners_fit : (prefixes : List PrefixAt) (n : ℕ) → ArePrefixes (map owned prefixes) n → n ≤ 65536 → All (λ e. e.group < 2 ^ 32) prefixes
owners_fit prefixes n p few k d h =
    let there : (get_or (map owned prefixes) k (owned d)).1.0 < n = p.owned k (owned d) (omega (arith, length-map prefixes owned)) in
    let same : (get_or (map owned prefixes) k (owned d)).1.0 ≡ (get_or prefixes k d).group = ap (λ e. e.1.0) (get_or-map owned prefixes k d (owned d) h) in
    omega arith

pub plan_good : (d : Entries) (prefixes : List PrefixAt) → IsSound d → ArePrefixes (map owned prefixes) (length d.groups) → IsPlan (plan_of d prefixes)
plan_good d prefixes s p =
    let nodes_len : length d.nodes ≡ length (map (node_of d.nodes) d.nodes) = sym (length-map d.nodes (node_of d.nodes)) in
    let groups_len : length (units_of d) ≡ length (map (group_of d.nodes) (units_of d)) = sym (length-map (units_of d) (group_of d.nodes)) in
    record {
      market = market_good d s;
      zone = s.zone.whole;
      nodes = names_good d.nodes _ s.node_names nodes_len;
      groups = names_good (units_of d) _ s.group_names groups_len;
      classes = subst (λ n. AreClasses (classes_of d) n (length (zone_of d.zone).services)) groups_len (classes_good d s.classes);
      prefixes = p;
      as_many = length-map d.nodes hosts_of ∙ nodes_len;
      addresses = All-map_at hosts_of IsHosts d.nodes (boolean false) s.hosts;
      pools_only = λ n h other.
          let l : n < length d.nodes = omega arith in
          let none : get_or (map hosts_of d.nodes) n (record { v4 = []; v6 = [] }) ≡ record { v4 = []; v6 = [] } =
          get_or-map_at hosts_of d.nodes n (boolean false) ∙ s.pools_only n l (sym (pool_same d n) ∙ other) in
          (ap (λ (h : HostLists). addresses_at h 1) none, ap (λ (h : HostLists). addresses_at h 28) none);
    }

-- the parts that were built are the plan's
pub plan_same : (d : Entries) (ps : List PrefixAt) (market : Market) (zone : Zone) (node_names group_names : List (List ℕ)) (classes : Classes) (prefixes : List (Prefix × GroupId)) (addresses : List HostLists)
    → market ≡ market_of d → zone ≡ zone_of d.zone → node_names ≡ map name_of d.nodes → group_names ≡ map name_of (units_of d) → classes ≡ classes_of d → prefixes ≡ map owned ps → addresses ≡ map hosts_of d.nodes
    → record { market = market; zone = zone; node_names = node_names; group_names = group_names; classes = classes; prefixes = prefixes; addresses = addresses } ≡ plan_of d ps
plan_same d ps market zone node_names group_names classes prefixes addresses m z nn gn c p a = rw (m, z, nn, gn, c, p, a) refl
