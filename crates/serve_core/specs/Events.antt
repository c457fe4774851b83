-- What events come to: steps of the machine, up to the first event that it does not take.
use Rattle.std.specs.Prelude.{◌≡◌, ◌≢◌, ◌⊎◌, ℕ, ◌+◌, ◌-◌, ◌<◌, ◌≤◌, Option, None, Some, List, [], ◌∷◌, length, slice_get, slice_index_or}
use Rattle.map_model.specs.declared.change.Change.{Change}
use Rattle.map_model.specs.declared.lines.MapLines.{MapLines}
use Rattle.map_model.specs.Market.{Market}
use Rattle.map_model.specs.Batch.{IsApplied, IsBatch}
use Rattle.stable_check.specs.Judgement.{Judges}
use Rattle.stable_check.specs.declared.verdict.Verdict.{Verdict}
use Rattle.stable_check.specs.declared.verdict.Verdict.TheVariants.{Good}
use Rattle.published_map.specs.Version.{Version}
use Rattle.lane_model.specs.Histories.{Follows, IsLedTo}
use Rattle.lane_model.specs.Machine.{IsStep, LaneState, Machine, fresh}
use Rattle.lane_model.specs.Machine as machine
use Rattle.lane_model.specs.Replies.{replies}
use Rattle.serve_core.specs.declared.event.Event.{Event}
use Rattle.serve_core.specs.declared.event.Event.TheVariants.{Commit, Tell, Take}
use Rattle.serve_core.specs.declared.event.StepFault.{StepFault}
use Rattle.serve_core.specs.declared.event.StepFault.TheVariants.{NoLane, NotGood, Ahead, Behind, NoMemory}

-- the newest version of a history
abbrev pub newest_of : List Version → Option Version
newest_of h = slice_get h (length h - 1)

-- the version that a commit adds: that of the map, for the newest numbers as the batch changes them
abbrev pub IsCommitOf : List Version → List Change → MapLines → Version → Type 0
IsCommitOf h batch map v = (old : Version) × (newest_of h ≡ Some old) × IsLedTo old batch v × (v.lines ≡ map.lines.items) × (v.names ≡ map.names.items)

-- an event, as one of the machine
abbrev pub IsEventOf : List Version → Event → machine.Event Version → Type 0
IsEventOf h (Commit batch map) x = (v : Version) × (x ≡ machine.commit v) × IsCommitOf h batch map v
IsEventOf h (Tell lane serial) x = x ≡ machine.tell lane serial
IsEventOf h (Take lane octets from serial way) x = x ≡ machine.take lane (record { octets = octets; from = from }) serial way

-- the machine takes an event
abbrev pub Takes : Event → Machine Version → Machine Version → Type 0
Takes e m m' = (x : machine.Event Version) × IsEventOf m.history e x × IsStep replies Follows x m m'

-- a lane of the machine
abbrev pub lane_at : Machine Version → ℕ → LaneState
lane_at m lane = slice_index_or m.lanes lane fresh

-- the map of a commit is not good for the numbers that it was to be published for: that is the verdict
abbrev pub IsNotGood : List Version → List Change → MapLines → Verdict → Type 0
IsNotGood h batch map verdict = (old : Version) × (changed : Market) × (newest_of h ≡ Some old) × IsApplied old.market batch changed × Judges changed map.lines.items map.names.items verdict × (verdict ≢ Good)

-- The event is refused by that fault, with its numbers: the first that it has. Only what needs memory may want it.
abbrev pub IsRefused : Event → Machine Version → StepFault → Type 0
IsRefused (Commit batch map) m (NotGood verdict) = IsNotGood m.history batch map verdict
IsRefused (Commit batch map) m NoMemory = Unit {0}
IsRefused (Commit batch map) m _ = ⊥
IsRefused (Tell lane serial) m NoLane = length m.lanes ≤ lane
IsRefused (Tell lane serial) m (Ahead s newest) = (lane < length m.lanes) × (s ≡ serial) × (newest + 1 ≡ length m.history) × (newest < serial)
IsRefused (Tell lane serial) m _ = ⊥
IsRefused (Take lane octets from serial way) m NoLane = length m.lanes ≤ lane
IsRefused (Take lane octets from serial way) m (Ahead s newest) = (lane < length m.lanes) × (s ≡ serial) × (newest + 1 ≡ length m.history) × (newest < serial)
IsRefused (Take lane octets from serial way) m (Behind s seen) = (lane < length m.lanes) × (serial < length m.history) × (s ≡ serial) × (seen ≡ (lane_at m lane).seen) × (serial < seen)
IsRefused (Take lane octets from serial way) m NoMemory = Unit {0}
IsRefused (Take lane octets from serial way) m _ = ⊥

-- the names of a batch are those of an instance
abbrev pub IsEventFor : Market → Event → Type 0
IsEventFor m (Commit batch map) = IsBatch m batch
IsEventFor m (Tell lane serial) = Unit {0}
IsEventFor m (Take lane octets from serial way) = Unit {0}

-- events are taken in order up to the first that is refused, with its fault
abbrev pub RunsTo : List Event → Machine Version → Machine Version → Option StepFault → Type 0
RunsTo [] m m' fault = (fault ≡ None) × (m' ≡ m)
RunsTo (e ∷ events) m m' fault = ((mid : Machine Version) × Takes e m mid × RunsTo events mid m' fault) ⊎ ((f : StepFault) × (fault ≡ Some f) × (m' ≡ m) × IsRefused e m f)
