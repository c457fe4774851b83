-- Inside this crate alone: what a task of a feed's lines does to who sends it.
use Rattle.std.specs.Prelude.{◌≡◌, ℕ, ◌-◌, ◌≤◌, ◌^◌, ◌==◌, ◌&&◌, if◌then◌else◌, [], length, Option, None, Some}
use Rattle.map_model.specs.Market.{Market}
use Rattle.demand_feed.specs.Sent.{Becomes}
use Rattle.demand_feed.specs.Task.{Task}
use Rattle.demand_feed.specs.declared.sent.What.{What}
use Rattle.feed_queue.specs.Ends.{with_item}
use Rattle.feed_queue.specs.declared.sender.Sender.{Sender}

-- what comes of a line, if anything, is sent as this
abbrev pub BecomesOf : Option Task → What → Type 0
BecomesOf None w = ⊥
BecomesOf (Some task) w = Becomes task w

-- the same feeder is lent, and there is room for its end
abbrev pub Keeps : {R N : Type 0} → Sender R N → Sender R N → Type 0
Keeps a b = (b.feeder.ghost_name ≡ a.feeder.ghost_name) × (b.feeder.now.queue ≡ a.feeder.now.queue) × (b.feeder.now.feeder ≡ a.feeder.now.feeder)
    × (length a.feeder.now.sent ≤ 2 ^ 64 - 2 → length b.feeder.now.sent ≤ 2 ^ 64 - 2)

-- it is sent
abbrev pub SenderDoes : {R N : Type 0} → Task → Sender R N → Sender R N → Type 0
SenderDoes task a b = Keeps a b × ((w : What) × Becomes task w × (b.feeder.now ≡ with_item a.feeder.now w))

-- none is broken off
abbrev pub SenderCuts : {R N : Type 0} → Task → Sender R N → Sender R N → Type 0
SenderCuts task a b = ⊥

-- the instance, if it has so many groups and nodes; else none that takes a change
abbrev pub market_if : ℕ → ℕ → Market → Market
market_if groups nodes m = if (length m.groups == groups) && (length m.nodes == nodes) then m else record { groups = []; nodes = [] }
