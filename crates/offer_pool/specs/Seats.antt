-- Inside this crate alone: the seats of the heaps, one for an offer at a node, and their order.
use Rattle.std.specs.Prelude.{◌≡◌, ◌⊎◌, ℕ, Bool, true, List, Some, slice_get}
use Rattle.std.specs.declared.cmp.Ordering.{Ordering}
use Rattle.std.specs.Ordering.{nat_cmp, ordering_then, is_le}
use Rattle.map_model.specs.Market.{Market, choice_at}
use Rattle.map_model.specs.Allocation.{IsOffer, counts_at}
use Rattle.offer_pool.specs.declared.queue.Seat.{Seat}

-- seats by score, group, pool and place: the order of keys, as a group has a pool at one place alone
abbrev pub seat_cmp : Seat → Seat → Ordering
seat_cmp a b = ordering_then (nat_cmp a.score b.score) (ordering_then (nat_cmp a.group.0 b.group.0) (ordering_then (nat_cmp a.pool.0 b.pool.0) (nat_cmp a.place b.place)))

-- one seat is not behind another
abbrev pub seat_le : Seat → Seat → Bool
seat_le a b = is_le (seat_cmp a b)

-- the first seat is the one that came, or the one that was first
abbrev pub KeepsFirst : Seat → List Seat → List Seat → Type 0
KeepsFirst seat old new = (slice_get new 0 ≡ Some seat) ⊎ (slice_get new 0 ≡ slice_get old 0)

-- the seat of an offer
abbrev pub seat_at : Market → ℕ → ℕ → Seat
seat_at m g k = record { score = (choice_at m g k).score; group = record { 0 = g }; pool = (choice_at m g k).pool; place = k }

-- a seat of an offer that stands under a node
pub record IsSeatUnder (m : Market) (n : ℕ) (s : Seat) : Type 0 where
  pub offer : IsOffer m s.group.0 s.place
  pub seat : s ≡ seat_at m s.group.0 s.place
  pub under : counts_at m n s.group.0 s.place ≡ true
