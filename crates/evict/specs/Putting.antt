-- Inside this crate alone: a put in its middle, at one node of its path.
use Rattle.std.specs.Prelude.{◌≡◌, ℕ, ◌+◌, ◌^◌, ◌≤◌, ◌<◌, Bool, true, false, not, ◌&&◌, ◌==◌, if◌then◌else◌, length, List, [], Option, None, Some, All, slice_index}
use Rattle.capacity_tree.specs.Loads.{AreTreesOf, Loads}
use Rattle.map_model.specs.declared.instance.Key.{Key}
use Rattle.map_model.specs.declared.instance.NodeId.{NodeId}
use Rattle.map_model.specs.declared.lines.MapLine.{MapLine}
use Rattle.map_model.specs.Market.{Market, IsMarket, IsSameShape, capacity_of, key_of}
use Rattle.map_model.specs.Allocation.{AreLines, IsOffer, amount_at, counts_at, is_under, key_le, load, placed, units_of}
use Rattle.map_model.specs.Holding.{IsSaturated, under_within}
use Rattle.offer_pool.specs.Holdings.{Holdings}
use Rattle.evict.specs.declared.freed.Eviction.{Eviction}
use Rattle.evict.specs.Evictions.{IsEviction, freed_units}

-- n is strictly above the node c
abbrev pub is_later : Market → ℕ → ℕ → Bool
is_later m c n = is_under m n c && not (n == c)

-- In the middle of a put of some units at (g, k), at the node c of its path, with r units still to be given up: below c all is within capacity, and what was saturated at the start is so at a node above it or there.
pub record IsPutting (m : Market) (start lines : List MapLine) (g k c r : ℕ) : Type 0 where
  pub path : counts_at m c g k ≡ true
  pub held : r ≤ units_of (λ h j. (h == g) && (j == k)) lines
  pub fits : (n : ℕ) → n < length m.nodes → is_under m n c ≡ false → units_of (counts_at m n) lines ≤ capacity_of m n
  pub over : (n : ℕ) → n < length m.nodes → is_under m n c ≡ true → units_of (counts_at m n) lines ≤ capacity_of m n + r
  pub kept : (n : ℕ) → n < length m.nodes → (key : Key) → IsSaturated m start n key
      → (o : ℕ) × (is_under m o n ≡ true) × IsSaturated m lines o key × (is_later m c o ≡ true → key_le (key_of m g k) key ≡ true → capacity_of m o + r ≤ units_of (under_within m o key) lines)

-- the trees are the instance's, and the loads are those of what is held
pub record AgreesWith (m : Market) (lines : List MapLine) (tree : Loads) : Type 0 where
  pub trees : AreTreesOf m tree.trees
  pub size : length tree.units ≡ length m.nodes
  pub loads : (n : ℕ) → n < length m.nodes → slice_index tree.units n ≡ load m lines n

-- what was held before a put, and how many units were put
pub record Origin : Type 0 where
  pub lines : List MapLine
  pub units : ℕ

-- what was held and put is what is held and what was given up
pub record IsAccounted (m : Market) (origin : Origin) (g k : ℕ) (held : Holdings) (tree : Loads) (freed : List Eviction) : Type 0 where
  pub shape : IsSameShape held.market m
  pub form : AreLines m held.lines
  pub agrees : AgreesWith m held.lines tree
  pub accounts : (test : ℕ → ℕ → Bool) → units_of test held.lines + freed_units test freed ≡ units_of test origin.lines + (if test g k then origin.units else 0)
  pub evictions : All (λ e. IsEviction m e) freed

-- an offer that gave up units is refused by a node of its path up to c, which is full of units ranked at least as high
abbrev pub IsTurnedAway : Market → List MapLine → ℕ → Eviction → Type 0
IsTurnedAway m lines c e = (o : ℕ) × (counts_at m o e.offer.group.0 e.offer.place ≡ true) × (is_under m c o ≡ true) × IsSaturated m lines o (key_of m e.offer.group.0 e.offer.place)

-- in the middle of a put, at the node c of the path
pub record IsRelieving (m : Market) (origin : Origin) (g k c r : ℕ) (held : Holdings) (tree : Loads) (freed : List Eviction) : Type 0 where
  pub market : IsMarket m
  pub offer : IsOffer m g k
  pub there : c < length m.nodes
  pub accounted : IsAccounted m origin g k held tree freed
  pub putting : IsPutting m origin.lines held.lines g k c r
  pub turned : All (λ e. IsTurnedAway m held.lines c e) freed

-- what is left of a put when it is done: all is within capacity, and what was saturated is so at a node above it or there
pub record IsSettled (m : Market) (start lines : List MapLine) : Type 0 where
  pub fits : (n : ℕ) → n < length m.nodes → load m lines n ≤ capacity_of m n
  pub kept : (n : ℕ) → n < length m.nodes → (key : Key) → IsSaturated m start n key → (o : ℕ) × (is_under m o n ≡ true) × IsSaturated m lines o key

-- the end of a put, but for pointers and free units
pub record IsRelieved (m : Market) (origin : Origin) (g k : ℕ) (held : Holdings) (tree : Loads) (freed : List Eviction) : Type 0 where
  pub accounted : IsAccounted m origin g k held tree freed
  pub settled : IsSettled m origin.lines held.lines
  pub turned : All (λ e. (o : ℕ) × (counts_at m o e.offer.group.0 e.offer.place ≡ true) × IsSaturated m held.lines o (key_of m e.offer.group.0 e.offer.place)) freed

-- on the way up: at a node of the path, or past the root
abbrev pub IsClimbing : Market → Origin → ℕ → ℕ → Option NodeId → ℕ → Holdings → Loads → List Eviction → Type 0
IsClimbing m origin g k None r held tree freed = IsRelieved m origin g k held tree freed
IsClimbing m origin g k (Some c) r held tree freed = IsRelieving m origin g k c.0 r held tree freed

-- what a put needs of what is held and of the loads, at its start
pub record IsPlacing (m : Market) (origin : Origin) (g k units : ℕ) (held : Holdings) (tree : Loads) (freed : List Eviction) : Type 0 where
  pub market : IsMarket m
  pub offer : IsOffer m g k
  pub start : origin ≡ record { lines = held.lines; units = units }
  pub shape : IsSameShape held.market m
  pub form : AreLines m held.lines
  pub agrees : AgreesWith m held.lines tree
  pub room : amount_at held.lines g k + units < 2 ^ 32
  pub fits : (n : ℕ) → n < length m.nodes → load m held.lines n ≤ capacity_of m n
  pub nothing : freed ≡ []

-- A state that is whole: the loads are those of what is held, and what a group holds and has free is its total.
pub record IsSound (held : Holdings) (tree : Loads) (free totals : List ℕ) : Type 0 where
  pub market : IsMarket held.market
  pub agrees : AgreesWith held.market held.lines tree
  pub groups : length held.market.groups ≡ length free
  pub count : length totals ≡ length free
  pub sums : (g : ℕ) → g < length free → placed held.lines g + slice_index free g ≡ slice_index totals g
  pub small : (g : ℕ) → g < length free → slice_index totals g < 2 ^ 32
