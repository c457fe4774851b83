-- Inside this crate alone: what commits and takes come to.
use Rattle.std.specs.Prelude.{◌≡◌, ◌⊎◌, ℕ, ◌<◌, ◌≤◌, true, List, length, None, Some, slice_get, slice_set}
use Rattle.map_model.specs.declared.change.Change.{Change}
use Rattle.map_model.specs.declared.lines.MapLines.{MapLines}
use Rattle.outside.specs.Port.{Packet}
use Rattle.published_map.specs.Version.{Version}
use Rattle.answer_core.specs.declared.way.Way.{Way}
use Rattle.lane_model.specs.Replies.{reply_of}
use Rattle.lane_model.specs.Lanes.{draw}
use Rattle.lane_model.specs.Machine.{LaneState, Machine, passed, replied}
use Rattle.serve_core.specs.declared.event.StepFault.{StepFault}
use Rattle.serve_core.specs.declared.event.StepFault.TheVariants.{NotGood, NoMemory}
use Rattle.serve_core.specs.Events.{IsNotGood, lane_at}

-- the datagram has no reply, or that of the version is tried
abbrev pub IsTakenBy : Version → ℕ → Packet → ℕ → Way → LaneState → LaneState → Type 0
IsTakenBy v w d s way old new =
    ((reply_of v d.from.addr d.octets (draw w old.count) way ≡ None) × (new ≡ passed d s way old))
    ⊎ ((text : List ℕ) × (reply_of v d.from.addr d.octets (draw w old.count) way ≡ Some text) × (new ≡ replied d (record { octets = text; to = d.from; serial = s; went = true }) way old))

-- a lane of a world takes a datagram, and answers it from the version of that serial
abbrev pub IsTaking : ℕ → Packet → ℕ → Way → Machine Version → Machine Version → Type 0
IsTaking lane d s way m m' =
    (v : Version) × (row : LaneState) × (lane < length m.lanes) × (s < length m.history) × (slice_get m.history s ≡ Some v) × ((lane_at m lane).seen ≤ s)
    × IsTakenBy v lane d s way (lane_at m lane) row × (m' ≡ record m { lanes = slice_set m.lanes lane row })

-- why a commit is refused
abbrev pub IsCommitFault : List Version → List Change → MapLines → StepFault → Type 0
IsCommitFault h batch map (NotGood verdict) = IsNotGood h batch map verdict
IsCommitFault h batch map NoMemory = Unit {0}
IsCommitFault h batch map _ = ⊥
