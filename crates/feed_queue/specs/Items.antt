-- Items of several feeders.
use Rattle.std.specs.Prelude.{◌≡◌, ℕ, ◌+◌, ◌==◌, ◌<◌, ◌≤◌, ◌^◌, Bool, true, false, List, [], ◌∷◌, map, count_by, All}
use Rattle.std.specs.List.{filter}
use Rattle.map_model.specs.declared.change.Change.{Change}
use Rattle.map_model.specs.declared.change.Change.TheVariants.{Demand, Capacity}
use Rattle.demand_feed.specs.declared.sent.Item.{Item}
use Rattle.demand_feed.specs.declared.sent.What.{What}
use Rattle.demand_feed.specs.declared.sent.What.TheVariants as what

-- an item of a feeder
abbrev pub item : ℕ → ℕ → What → Item
item feeder number w = record { feeder = feeder; number = number; what = w }

-- what a feeder sent, as its items from number n on
abbrev pub numbered : ℕ → ℕ → List What → List Item
numbered feeder n [] = []
numbered feeder n (w ∷ ws) = item feeder n w ∷ numbered feeder (n + 1) ws

-- those of one feeder
abbrev pub only : ℕ → List Item → List Item
only feeder items = filter (λ x. x.feeder == feeder) items

-- what those of one feeder are
abbrev pub sent_by : ℕ → List Item → List What
sent_by feeder items = map (λ x. x.what) (only feeder items)

-- a batch
abbrev pub is_batch : What → Bool
is_batch (what.Commit changes) = true
is_batch _ = false

-- how many of these are batches
abbrev pub batches : List What → ℕ
batches ws = count_by is_batch ws

-- a change of one of so many groups, or of one of so many nodes
abbrev pub IsAmong : ℕ → ℕ → Change → Type 0
IsAmong groups nodes (Demand group demand) = group.0 < groups
IsAmong groups nodes (Capacity node capacity) = node.0 < nodes

-- each change of a batch is such
abbrev pub Fits : ℕ → ℕ → What → Type 0
Fits groups nodes (what.Commit changes) = All (IsAmong groups nodes) changes
Fits groups nodes _ = Unit {0}

-- what a feeder may have sent: batches for so many groups and nodes, fewer than 2^61
pub record MaySend (groups nodes : ℕ) (ws : List What) : Type 0 where
  pub fits : All (Fits groups nodes) ws
  pub few : batches ws < 2 ^ 61

-- What was taken from so many feeders, at most four: of each a beginning of what it may have sent, numbered from 0 on, and nothing of any other.
pub record AreTaken (groups nodes feeders : ℕ) (taken : List Item) : Type 0 where
  pub four : feeders ≤ 4
  pub numbers : (k : ℕ) → only k taken ≡ numbered k 0 (sent_by k taken)
  pub may : (k : ℕ) → MaySend groups nodes (sent_by k taken)
  pub none : (k : ℕ) → feeders ≤ k → sent_by k taken ≡ []

-- what items are
abbrev pub whats_of : List Item → List What
whats_of items = map (λ x. x.what) items
