-- Inside this crate alone: queues of seats, one for each node, beside the table of amounts.
use Rattle.std.specs.Prelude.{◌≡◌, ℕ, ◌*◌, ◌/◌, ◌%◌, ◌<◌, true, List, [], length, Contains, IfSome, slice_get, slice_index, slice_index_or}
use Rattle.map_model.specs.Market.{Market, IsMarket}
use Rattle.map_model.specs.Allocation.{IsOffer, counts_at}
use Rattle.offer_pool.specs.declared.queue.Seat.{Seat}
use Rattle.offer_pool.specs.Seats.{IsSeatUnder, seat_at}
use Rattle.offer_pool.specs.Table.{amount_in}

-- the queue of a node
abbrev pub queue_at : List (List Seat) → ℕ → List Seat
queue_at queues n = slice_index_or queues n []

-- the first seat of a queue, if any, is that of an offer that holds something
abbrev pub IsLive : List ℕ → List Seat → Type 0
IsLive amounts queue = IfSome (slice_get queue 0) (λ s. 0 < amount_in amounts s.group.0 s.place)

-- only offers hold something
pub record AreAmounts (m : Market) (amounts : List ℕ) : Type 0 where
  pub size : length amounts ≡ length m.groups * 16
  pub offers : (i : ℕ) → 0 < slice_index amounts i → IsOffer m (i / 16) (i % 16)

-- each offer that holds something has its seat in the queue of each node above it, a queue has seats of offers under its node alone, and its first seat is live
pub record AreFiled (m : Market) (amounts : List ℕ) (queues : List (List Seat)) : Type 0 where
  pub nodes : length queues ≡ length m.nodes
  pub filed : (g k n : ℕ) → IsOffer m g k → 0 < amount_in amounts g k → counts_at m n g k ≡ true → Contains (queue_at queues n) (seat_at m g k)
  pub seats : (n : ℕ) (s : Seat) → Contains (queue_at queues n) s → IsSeatUnder m n s
  pub live : (n : ℕ) → IsLive amounts (queue_at queues n)

-- a table and its queues
pub record IsHeld (m : Market) (amounts : List ℕ) (queues : List (List Seat)) : Type 0 where
  pub market : IsMarket m
  pub table : AreAmounts m amounts
  pub filing : AreFiled m amounts queues
