-- Inside this crate alone: tables of the best offer that waits at each node, and of who is next in line there, with their keys.
use Rattle.std.specs.Prelude.{◌≡◌, ◌⊎◌, ℕ, ◌<◌, true, List, length, Option, None, IfSome, MatchOption, slice_index, slice_index_or}
use Rattle.map_model.specs.declared.lines.MapLine.{MapLine}
use Rattle.map_model.specs.Market.{Market, key_of, limit_of, pool_of}
use Rattle.map_model.specs.Allocation.{IsOffer, key_le}
use Rattle.evict.specs.Standing.{IsPastWanted, Standing}
use Rattle.best_laws.specs.Ahead.{IsRightMap}
use Rattle.map_laws.specs.Circles.{IsInLine, IsNextInLine, MakesRoom}
use Rattle.map_laws.specs.Nearest.{IsFirstFull}
use Rattle.best_check.specs.declared.ranked.Ranked.{Ranked}

-- each pointer is the number of its group's wanted places
abbrev pub ArePastWanted : Market → Standing → Type 0
ArePastWanted m state = (g : ℕ) → g < length m.groups → IsPastWanted m state.lines g (slice_index state.pointers g)

-- an offer comes before (g, k), by group and place
abbrev pub IsBefore : ℕ → ℕ → ℕ → ℕ → Type 0
IsBefore g k h j = (h < g) ⊎ ((h ≡ g) × (j < k))

-- the offer waits at the node for a unit more
pub record IsWaitingAt (m : Market) (lines : List MapLine) (n g k : ℕ) : Type 0 where
  pub in_line : IsInLine m (limit_of m) lines g k
  pub near : IsFirstFull m lines (pool_of m g k) n

-- it waits there, with its key, and is ranked at least as high as all before (g, k) that do
pub record IsBestBefore (m : Market) (lines : List MapLine) (g k n : ℕ) (best : Ranked) : Type 0 where
  pub waiting : IsWaitingAt m lines n best.offer.group.0 best.offer.place
  pub key : best.key ≡ key_of m best.offer.group.0 best.offer.place
  pub least : (h j : ℕ) → IsBefore g k h j → IsWaitingAt m lines n h j → key_le best.key (key_of m h j) ≡ true

-- what a table says of a node: the best of the offers before (g, k) that wait there, or that none does
abbrev pub IsEntry : Market → List MapLine → ℕ → ℕ → ℕ → Option Ranked → Type 0
IsEntry m lines g k n entry = MatchOption entry ((h j : ℕ) → IsBefore g k h j → IsWaitingAt m lines n h j → ⊥) (λ o. IsBestBefore m lines g k n o)

-- a table with the best of the offers before (g, k) that wait at each node
pub record IsTable (m : Market) (lines : List MapLine) (g k : ℕ) (table : List (Option Ranked)) : Type 0 where
  pub size : length table ≡ length m.nodes
  pub entries : (n : ℕ) → n < length m.nodes → IsEntry m lines g k n (slice_index_or table n None)

-- a table of all offers that wait, for a right map
pub record IsWhole (m : Market) (lines : List MapLine) (table : List (Option Ranked)) : Type 0 where
  pub right : IsRightMap m lines
  pub best : IsTable m lines (length m.groups) 0 table

-- an offer of the instance with its key
pub record IsRanked (m : Market) (o : Ranked) : Type 0 where
  pub offer : IsOffer m o.offer.group.0 o.offer.place
  pub key : o.key ≡ key_of m o.offer.group.0 o.offer.place

-- each entry is one
abbrev pub AreRanked : Market → List (Option Ranked) → Type 0
AreRanked m entries = (n : ℕ) → n < length entries → IfSome (slice_index_or entries n None) (λ o. IsRanked m o)

-- who is next in line where a unit leaves a node: the offer, or none if that makes room for nobody in line
abbrev pub IsNextAt : Market → List MapLine → ℕ → Option Ranked → Type 0
IsNextAt m lines n next = MatchOption next ((h j : ℕ) → IsInLine m (limit_of m) lines h j → MakesRoom m lines n h j → ⊥) (λ o. IsNextInLine m (limit_of m) lines n o.offer.group.0 o.offer.place)

-- the same at each of the first nodes
abbrev pub AreNextAt : Market → List MapLine → List (Option Ranked) → Type 0
AreNextAt m lines nexts = (n : ℕ) → n < length nexts → IsNextAt m lines n (slice_index_or nexts n None)
