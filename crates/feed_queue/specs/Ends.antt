-- What contracts see of both ends of a queue.
use Rattle.std.specs.Prelude.{ℕ, List, [], ◌∷◌, ◌++◌}
use Rattle.atomic_table.specs.Seated.{TableId}
use Rattle.demand_feed.specs.declared.sent.Item.{Item}
use Rattle.demand_feed.specs.declared.sent.What.{What}

-- a feeder: its queue, its number, and what it has sent
pub record FeederState : Type 0 where
  pub queue : TableId
  pub feeder : ℕ
  pub sent : List What

-- a feeder that has sent nothing
abbrev pub fresh_feeder : TableId → ℕ → FeederState
fresh_feeder queue feeder = record { queue = queue; feeder = feeder; sent = [] }

-- one item more was sent
abbrev pub with_item : FeederState → What → FeederState
with_item f w = record f { sent = f.sent ++ w ∷ [] }

-- who takes: the queue, how many feeders there are, and what was taken
pub record TakerState : Type 0 where
  pub queue : TableId
  pub feeders : ℕ
  pub taken : List Item
