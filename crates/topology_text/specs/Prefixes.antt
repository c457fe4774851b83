-- The prefixes of a topology's groups, all of them in the order of the file.
use Rattle.std.specs.Prelude.{ℕ, ◌+◌, List, [], ◌∷◌, ◌++◌, length, map, sum_by, take, Bool, not, ◌&&◌, ◌==◌, nat_lt, false, if◌then◌else◌, Option, None, Some, option_map}
use Rattle.std.specs.List.{enumerate_from, filter_map, flat_map, list_any}
use Rattle.addr_text.specs.declared.address.Addr.{Addr}
use Rattle.addr_text.specs.declared.address.Addr.TheVariants.{V4, V6}
use Rattle.addr_text.specs.declared.address.Prefix.{Prefix}
use Rattle.addr_text.specs.Addresses.{default_v4, default_v6, prefix_of}
use Rattle.toml.specs.Data.{Data, string}
use Rattle.topology_text.specs.Walk.{Visit, items_at, marked}
use Rattle.topology_text.specs.declared.prefixes.PrefixAt.{PrefixAt}
use Rattle.topology_text.specs.declared.schema.At.TheVariants.{Whole, Item}
use Rattle.topology_text.specs.declared.schema.Key.TheVariants.{Prefixes}
use Rattle.topology_text.specs.declared.schema.Place.{Place}
use Rattle.topology_text.specs.declared.schema.Spot.{Spot}
use Rattle.topology_text.specs.declared.schema.Spot.TheVariants.{GroupTable, Family}

-- the two are one address
abbrev pub is_same_addr : Addr → Addr → Bool
is_same_addr (V4 m) (V4 n) = m == n
is_same_addr (V6 m) (V6 n) = m == n
is_same_addr _ _ = false

-- the two are one prefix
abbrev pub is_same_prefix : Prefix → Prefix → Bool
is_same_prefix p q = is_same_addr p.addr q.addr && p.len == q.len

-- the prefix that an item is
abbrev pub prefix_in : Data → Option Prefix
prefix_in (string t) = prefix_of t
prefix_in _ = None

-- the prefixes in a list of a group, the first item being number i
abbrev pub prefixes_from : ℕ → ℕ → List Data → List PrefixAt
prefixes_from group i ds = filter_map (λ p. option_map (λ x. record { prefix = x; group = group; item = p.0 }) (prefix_in p.1)) (enumerate_from i ds)

-- the prefixes of a table, if it is a group
abbrev pub prefixes_at : Spot → List Data → List PrefixAt
prefixes_at (GroupTable g) ds = prefixes_from g 0 ds
prefixes_at _ ds = []

-- the prefixes on a walk
abbrev pub all_prefixes : List Visit → List PrefixAt
all_prefixes visits = flat_map (λ v. prefixes_at v.spot (items_at v.members Prefixes)) visits

-- where a prefix stands
abbrev pub place_of : PrefixAt → Place
place_of e = record { spot = GroupTable e.group; key = Some Prefixes; at = Item e.item }

-- some entry has that prefix
abbrev pub has_prefix : List PrefixAt → Prefix → Bool
has_prefix entries p = list_any (λ e. is_same_prefix p e.prefix) entries

-- the places of the prefixes that stand earlier too
abbrev pub duplicate_prefixes : List PrefixAt → List Place
duplicate_prefixes entries = map (λ p. place_of p.1) (marked (λ i e. has_prefix (take i entries) e.prefix) entries)

-- the place of a family whose default prefix isn't there
abbrev pub lacking : ℕ → Bool → List Place
lacking family there = if there then [] else record { spot = Family family; key = None; at = Whole } ∷ []

-- the families whose default prefixes are in no group
abbrev pub no_default : List PrefixAt → List Place
no_default entries = lacking 4 (has_prefix entries default_v4) ++ lacking 6 (has_prefix entries default_v6)

-- how many items the prefixes of a table have, if it is a group
abbrev pub count_at : Spot → List Data → ℕ
count_at (GroupTable g) ds = length ds
count_at _ ds = 0

-- how many items the prefixes of all groups on a walk have
abbrev pub total : List Visit → ℕ
total visits = sum_by (λ v. count_at v.spot (items_at v.members Prefixes)) visits

-- the first so many tables have more prefixes than a topology may have
abbrev pub is_past : List Visit → ℕ → Bool
is_past visits n = nat_lt 262144 (total (take n visits))

-- the `prefixes` with which their total passes its limit
abbrev pub passing : List Visit → List Place
passing visits = map (λ p. record { spot = p.1.spot; key = Some Prefixes; at = Whole }) (marked (λ i v. is_past visits (i + 1) && not (is_past visits i)) visits)
