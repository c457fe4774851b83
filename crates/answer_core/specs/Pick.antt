-- Which place of a group's list a draw falls on.
use Rattle.std.specs.Prelude.{ℕ, ◌-◌, ◌*◌, ◌/◌, ◌^◌, ◌<◌, ◌≤◌, Bool, ◌&&◌, nat_le, nat_lt, length, Option, find}
use Rattle.std.specs.List.{range_with_len}
use Rattle.map_model.specs.Market.{choices_of}
use Rattle.map_model.specs.Allocation.{IsOffer, amount_at, placed_through, placed}
use Rattle.published_map.specs.Version.{Version}

-- the slot of a draw among so many units: draws are the numbers below 2^64
abbrev pub slot_of : ℕ → ℕ → ℕ
slot_of draw units = draw * units / 2 ^ 64

-- the slot is that of a unit at place k, where a group's units are laid end to end from 0, those of the first place first
abbrev pub falls_on : Version → ℕ → ℕ → ℕ → Bool
falls_on v g slot k = nat_le (placed_through v.lines g k - amount_at v.lines g k) slot && nat_lt slot (placed_through v.lines g k)

-- the place of the group's list on which the draw falls
unfoldable pub pick_of : Version → ℕ → ℕ → Option ℕ
pick_of v g draw = find (falls_on v g (slot_of draw (placed v.lines g))) (range_with_len 0 (length (choices_of v.market g)))

-- the draw falls on that place: its slot is not before the place's units, and not after them
pub record IsPicked (v : Version) (g draw k : ℕ) : Type 0 where
  pub offer : IsOffer v.market g k
  pub from : placed_through v.lines g k - amount_at v.lines g k ≤ slot_of draw (placed v.lines g)
  pub to : slot_of draw (placed v.lines g) < placed_through v.lines g k
