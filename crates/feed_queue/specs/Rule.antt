-- The rule of the queue: what it holds, and what each pass knows.
use Rattle.std.specs.Prelude.{◌≡◌, ℕ, ◌+◌, ◌<◌, ◌≤◌, Bool, true, false, List, [], ◌∷◌, ◌++◌}
use mathlib.Core.Option.{some}
use lib.ListN.{get_elem?}
use Rattle.demand_feed.specs.declared.sent.Item.{Item}
use Rattle.demand_feed.specs.declared.sent.What.{What}
use Rattle.feed_queue.specs.declared.hand.Hand.{Hand}
use Rattle.feed_queue.specs.Items.{AreTaken, MaySend, numbered, only, sent_by}

abbrev pub hand : Bool → ℕ → List Item → Bool → ℕ → List What → Hand
hand takes feeders got feeds feeder sent = record { takes = takes; feeders = feeders; got = got; feeds = feeds; feeder = feeder; sent = sent }

-- the first pass takes, and there is no feeder yet
abbrev pub first : Hand
first = hand true 0 [] false 0 []

-- a pass that may do nothing
abbrev pub spent : Hand
spent = hand false 0 [] false 0 []

-- there is one feeder more
abbrev pub with_feeder : Hand → Hand
with_feeder v = hand v.takes (v.feeders + 1) v.got false 0 []

-- that feeder, which has sent nothing
abbrev pub new_feeder : Hand → Hand
new_feeder v = hand false 0 [] true v.feeders []

-- who takes has a feeder's pass too
abbrev pub came_back : Hand → Hand → Hand
came_back v w = hand v.takes v.feeders v.got w.feeds w.feeder w.sent

-- one item more was sent
abbrev pub with_sent : Hand → What → Hand
with_sent v w = hand v.takes v.feeders v.got v.feeds v.feeder (v.sent ++ w ∷ [])

-- one item more was taken
abbrev pub with_got : Hand → Item → Hand
with_got v x = hand v.takes v.feeders (v.got ++ x ∷ []) v.feeds v.feeder v.sent

-- what a pop tells
abbrev pub Took : ℕ → ℕ → Hand → Item → Hand → Type 0
Took groups nodes v x w = (w ≡ with_got v x) × AreTaken groups nodes v.feeders (v.got ++ x ∷ [])

-- what was taken of a feeder, and then what the queue has of it, is what it sent
abbrev pub Accounts : Hand → List Item → Type 0
Accounts v items = v.sent ≡ sent_by v.feeder v.got ++ sent_by v.feeder items

-- one pass at most feeds for each feeder, and it knows what was sent
abbrev pub Feeds : ℕ → (ℕ → ℕ) → (ℕ → List What) → ℕ → Hand → Type 0
Feeds feeders seat sent pass v = v.feeds ≡ true → (pass ≡ seat v.feeder) × (v.feeder < feeders) × (v.sent ≡ sent v.feeder)

-- one pass at most takes, and it knows what was taken, and how many feeders there are
abbrev pub TakesAll : ℕ → ℕ → List Item → ℕ → Hand → Type 0
TakesAll feeders reader got pass v = v.takes ≡ true → (pass ≡ reader) × (v.feeders ≡ feeders) × (v.got ≡ got)

-- There are at most four feeders. Of each, what was taken and what is in the queue are its items from 0 on, once each and in order; and it may have sent them.
pub record Delivers (groups nodes : ℕ) (items : List Item) (views : List Hand) : Type 0 where
  pub feeders : ℕ
  pub reader : ℕ
  pub seat : ℕ → ℕ
  pub sent : ℕ → List What
  pub got : List Item
  pub few : feeders ≤ 4
  pub none : (k : ℕ) → feeders ≤ k → sent k ≡ []
  pub may : (k : ℕ) → MaySend groups nodes (sent k)
  pub each : (k : ℕ) → only k (got ++ items) ≡ numbered k 0 (sent k)
  pub hands : (pass : ℕ) (v : Hand) → get_elem? views pass ≡ some v → Feeds feeders seat sent pass v × TakesAll feeders reader got pass v
