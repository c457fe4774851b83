-- Keys, loads, what is wanted, what refuses, and what a good map is.
use Rattle.std.specs.Prelude.{◌≡◌, ℕ, ◌-◌, ◌<◌, ◌≤◌, Bool, true, ◌&&◌, ◌||◌, ◌==◌, nat_lt, nat_le, if◌then◌else◌, List, length, Option, None, Some, IsTrue, IsSome, slice_index_or, sum_by, find, map}
use Rattle.std.specs.List.{list_any, list_all, range_with_len, flat_map, filter_map}
use Rattle.std.specs.Option.{option_map}
use Rattle.std.specs.declared.cmp.Ordering.{Ordering}
use Rattle.std.specs.Ordering.{nat_cmp, ordering_then, is_le}
use Rattle.map_model.specs.declared.instance.Key.{Key}
use Rattle.map_model.specs.declared.instance.Offer.{Offer}
use Rattle.map_model.specs.declared.lines.By.{By}
use Rattle.map_model.specs.declared.lines.By.TheVariants.{Limit, Node}
use Rattle.map_model.specs.declared.lines.MapLine.{MapLine}
use Rattle.map_model.specs.declared.lines.NameLine.{NameLine}
use Rattle.map_model.specs.Market.{Market, demand_of, choices_of, pool_of, key_of, limit_of, capacity_of, path}

-- the order of keys: by score, then by group, then by pool
abbrev pub key_cmp : Key → Key → Ordering
key_cmp a b = ordering_then (nat_cmp a.score b.score) (ordering_then (nat_cmp a.group.0 b.group.0) (nat_cmp a.pool.0 b.pool.0))

-- key a is at most key b: it is ranked at least as high
abbrev pub key_le : Key → Key → Bool
key_le a b = is_le (key_cmp a b)

-- the place is one of the group's list
pub record IsOffer (m : Market) (g k : ℕ) : Type 0 where
  pub group : g < length m.groups
  pub place : k < length (choices_of m g)

-- the sum of the amounts of the lines whose group and place pass a test
abbrev pub units_of : (ℕ → ℕ → Bool) → List MapLine → ℕ
units_of test lines = sum_by (λ l. if test l.group.0 l.place then l.amount else 0) lines

-- node n is on the path of that pool
abbrev pub is_under : Market → ℕ → ℕ → Bool
is_under m n pool = list_any (λ x. x == n) (path m pool)

-- the offer stands under node n: its pool's path holds n
abbrev pub counts_at : Market → ℕ → ℕ → ℕ → Bool
counts_at m n g k = is_under m n (pool_of m g k)

-- the key of a line's offer
abbrev pub line_key : Market → MapLine → Key
line_key m l = key_of m l.group.0 l.place

-- the load of a node: the units of the lines under it
abbrev pub load : Market → List MapLine → ℕ → ℕ
load m lines n = units_of (counts_at m n) lines

-- the units of a group at places 0 to k
abbrev pub placed_through : List MapLine → ℕ → ℕ → ℕ
placed_through lines g k = units_of (λ h j. (h == g) && nat_le j k) lines

-- the units of a group at place k
abbrev pub amount_at : List MapLine → ℕ → ℕ → ℕ
amount_at lines g k = units_of (λ h j. (h == g) && (j == k)) lines

-- the units of a group over its whole list
abbrev pub placed : List MapLine → ℕ → ℕ
placed lines g = units_of (λ h _. h == g) lines

-- feasible: no group has more than its demand, no node more than its capacity, and no offer more than its limit
pub record IsFeasible (m : Market) (lines : List MapLine) : Type 0 where
  pub demands : (g : ℕ) → g < length m.groups → placed lines g ≤ demand_of m g
  pub capacities : (n : ℕ) → n < length m.nodes → load m lines n ≤ capacity_of m n
  pub limits : (g k : ℕ) → IsOffer m g k → amount_at lines g k ≤ limit_of m g k

-- wanted: some of the group's demand is placed worse than at this place, or not at all
abbrev pub is_wanted : Market → List MapLine → ℕ → ℕ → Bool
is_wanted m lines g k = nat_lt (placed_through lines g k) (demand_of m g)

-- every line under the node has a key of at most this one
abbrev pub none_worse : Market → List MapLine → ℕ → Key → Bool
none_worse m lines n key = list_all (λ l. if counts_at m n l.group.0 l.place then key_le (line_key m l) key else true) lines

-- the node is full, and holds only offers that are ranked at least as high as that key
abbrev pub is_full_of_better : Market → List MapLine → ℕ → Key → Bool
is_full_of_better m lines n key = (load m lines n == capacity_of m n) && none_worse m lines n key

-- the refusing node nearest to the pool: the first of the offer's path that is full and holds only offers ranked at least as high
abbrev pub refusing_node : Market → List MapLine → ℕ → ℕ → Option ℕ
refusing_node m lines g k = find (λ n. is_full_of_better m lines n (key_of m g k)) (path m (pool_of m g k))

-- the limit refuses the offer, which holds as many units
abbrev pub is_at_limit : Market → List MapLine → ℕ → ℕ → Bool
is_at_limit m lines g k = amount_at lines g k == limit_of m g k

-- what refuses an offer: its limit, or else the refusing node nearest to the pool
abbrev pub refuser_of : Market → List MapLine → ℕ → ℕ → Option By
refuser_of m lines g k = if is_at_limit m lines g k then Some Limit else option_map (λ n. Node (record { 0 = n })) (refusing_node m lines g k)

-- if the offer is wanted, its limit or some node refuses it
abbrev pub IsRefusedIfWanted : Market → List MapLine → ℕ → ℕ → Type 0
IsRefusedIfWanted m lines g k = IsTrue (is_wanted m lines g k) → IsSome (refuser_of m lines g k)

-- stable: each wanted offer is refused by its limit or by some node
abbrev pub IsStable : Market → List MapLine → Type 0
IsStable m lines = (g k : ℕ) → IsOffer m g k → IsRefusedIfWanted m lines g k

-- the offers of one group, from place k on
abbrev pub offers_from : Market → ℕ → ℕ → List Offer
offers_from m g k = map (λ k. record { group = record { 0 = g }; place = k }) (range_with_len k (length (choices_of m g) - k))

-- all offers, by group and place
abbrev pub offers_of : Market → List Offer
offers_of m = flat_map (λ g. offers_from m g 0) (range_with_len 0 (length m.groups))

-- the name of an offer, if it is wanted: its limit where that refuses, and otherwise the refusing node nearest to the pool
abbrev pub name_of : Market → List MapLine → Offer → Option NameLine
name_of m lines o =
    if is_wanted m lines o.group.0 o.place then option_map (λ by. record { group = o.group; place = o.place; by = by }) (refuser_of m lines o.group.0 o.place) else None

-- the names of a map: one for each wanted offer, by group and place
abbrev pub names_of : Market → List MapLine → List NameLine
names_of m lines = filter_map (name_of m lines) (offers_of m)

-- the line of that number
abbrev pub line_at : List MapLine → ℕ → MapLine
line_at lines i = slice_index_or lines i (record { group = record { 0 = 0 }; place = 0; amount = 0 })

-- a line is before another: by group, and then by place
abbrev pub is_before : MapLine → MapLine → Bool
is_before a b = nat_lt a.group.0 b.group.0 || ((a.group.0 == b.group.0) && nat_lt a.place b.place)

-- the line of that number is at an offer, has at least one unit, and stands above the one before it
abbrev pub is_line : Market → List MapLine → ℕ → Bool
is_line m lines i =
    let l = line_at lines i in
    nat_lt l.group.0 (length m.groups) && nat_lt l.place (length (choices_of m l.group.0)) && nat_lt 0 l.amount && ((i == 0) || is_before (line_at lines (i - 1)) l)

-- lines in the form of a map
abbrev pub AreLines : Market → List MapLine → Type 0
AreLines m lines = (i : ℕ) → i < length lines → IsTrue (is_line m lines i)

-- the name of that number
abbrev pub name_at : List NameLine → ℕ → NameLine
name_at names i = slice_index_or names i (record { group = record { 0 = 0 }; place = 0; by = Limit })

-- a name is before another: by group, and then by place
abbrev pub is_name_before : NameLine → NameLine → Bool
is_name_before a b = nat_lt a.group.0 b.group.0 || ((a.group.0 == b.group.0) && nat_lt a.place b.place)

-- what a name says is there: the limit, or a node of the instance
abbrev pub is_by : Market → By → Bool
is_by m Limit = true
is_by m (Node n) = nat_lt n.0 (length m.nodes)

-- the name of that number is at an offer, has a limit or a node that is there, and stands above the one before it
abbrev pub is_name : Market → List NameLine → ℕ → Bool
is_name m names i =
    let l = name_at names i in
    nat_lt l.group.0 (length m.groups) && nat_lt l.place (length (choices_of m l.group.0)) && is_by m l.by && ((i == 0) || is_name_before (name_at names (i - 1)) l)

-- names in the form of a map
abbrev pub AreNames : Market → List NameLine → Type 0
AreNames m names = (i : ℕ) → i < length names → IsTrue (is_name m names i)

-- the form of a map: lines of at least one unit and names, each strictly increasing by group and place, all ids and places in range
pub record IsMapForm (m : Market) (lines : List MapLine) (names : List NameLine) : Type 0 where
  pub of_lines : AreLines m lines
  pub of_names : AreNames m names

-- a good map: in the form of a map, feasible and stable, with exactly its own names, which are then in the form too
pub record IsGood (m : Market) (lines : List MapLine) (names : List NameLine) : Type 0 where
  pub form : AreLines m lines
  pub feasible : IsFeasible m lines
  pub stable : IsStable m lines
  pub named : names ≡ names_of m lines
