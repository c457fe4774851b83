-- What a lane knew at each datagram that it took, by what it was told of and used before.
use Rattle.std.specs.Prelude.{◌≡◌, ℕ, ◌≤◌, ◌==◌, List, [], ◌∷◌, ◌++◌, Contains, length, map, Some, if◌then◌else◌, slice_get}
use Rattle.std.specs.List.{flat_map}
use Rattle.outside.specs.Port.{Packet}
use Rattle.answer_core.specs.declared.way.Way.{Way}
use Rattle.lane_model.specs.Lanes.{Entry}
use Rattle.lane_model.specs.Machine.{Event, LaneState, commit, tell, take}

-- the datagram that a lane takes in an event, or none
abbrev pub packets_of : {V : Type 0} → ℕ → Event V → List Packet
packets_of lane (commit v) = []
packets_of lane (tell other n) = []
packets_of lane (take other d s way) = if other == lane then d ∷ [] else []

-- what is known is no less than what was known at first, than each serial of which the lane was told in these events, and than each that it used in them
pub record IsMindful {V : Type 0} (lane first : ℕ) (events : List (Event V)) (known : ℕ) : Type 0 where
  pub first_known : first ≤ known
  pub heard : (n : ℕ) → Contains events (tell lane n) → n ≤ known
  pub used : (d : Packet) (s : ℕ) (way : Way) → Contains events (take lane d s way) → s ≤ known

-- What events make of a lane. It gains an entry for each datagram that it takes, in their order; what it knew at the entry of a take minds all events before that take, and what it knows at the end minds all events.
pub record IsMinded {V : Type 0} (lane : ℕ) (events : List (Event V)) (l l' : LaneState) : Type 0 where
  pub new : List Entry
  pub taken : l'.taken ≡ l.taken ++ new
  pub packets : map (λ e. e.packet) new ≡ flat_map (packets_of lane) events
  pub entries : (before behind : List (Event V)) (d : Packet) (s : ℕ) (way : Way) → events ≡ before ++ take lane d s way ∷ behind
      → (e : Entry) × (slice_get new (length (flat_map (packets_of lane) before)) ≡ Some e) × (e.way ≡ way) × IsMindful lane l.seen before e.known
  pub after : IsMindful lane l.seen events l'.seen
