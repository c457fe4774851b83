-- What is told at one moment by all that a drive is lent, and what that is for a worker.
use Rattle.std.specs.Prelude.{◌≡◌, ℕ, List, Option, Some, map}
use Rattle.outside.specs.Notes.{NotesTold}
use Rattle.outside.specs.Sink.{Written}
use Rattle.outside.specs.Source.{Fed}
use Rattle.outside.specs.declared.pace.PaceCall.{PaceCall}
use Rattle.published_map.specs.Version.{Version}
use Rattle.map_cell.specs.Ends.{ViewerState}
use Rattle.lane_model.specs.Calls.{Eyes, Moment}
use Rattle.tcp_lane.specs.Calls.{StreamMoment}
use Rattle.tcp_lane.specs.Turns.{no_talk}
use Rattle.drive.specs.Done.{LaneTold, ServerTold, StreamLaneTold}
use Rattle.drive.specs.Driven.{LentTold}
use Rattle.drive.specs.declared.lent.Lent.{Lent}
use Rattle.outside.specs.Faults.{DeviceState}

-- a worker's viewer, with what its lane tells of its door
abbrev pub eyes_at : {T : Type 0} → ViewerState → ServerTold T → Eyes Version
eyes_at viewer lane = record {
  seen = viewer.seen;
  heard = viewer.heard;
  looks = lane.looks;
  greatest = lane.greatest;
  faults = lane.door_faults;
}

-- a lane and its worker's viewer, with what its notes tell and the number of the next datagram
abbrev pub moment_at : LaneTold → ViewerState → NotesTold → ℕ → Moment Version
moment_at lane viewer notes count = record {
  port = lane.port;
  gate = lane.gate;
  notes = Some notes;
  eyes = eyes_at viewer lane;
  count = count;
  port_faults = lane.port_faults;
  gate_faults = lane.gate_faults;
}

-- the same of a lane for conversations, none of which has begun
abbrev pub stream_moment_at : StreamLaneTold → ViewerState → NotesTold → ℕ → StreamMoment Version
stream_moment_at lane viewer notes count = record {
  streams = lane.port;
  gate = lane.gate;
  notes = Some notes;
  eyes = eyes_at viewer lane;
  count = count;
  stream_faults = lane.port_faults;
  gate_faults = lane.gate_faults;
  talk = no_talk;
}

-- the same things are lent, for as many turns
abbrev pub IsSameLent : {S N K P G D M : Type 0} → Lent S N K P G D M → Lent S N K P G D M → Type 0
IsSameLent a b = (b.feed.ghost_name ≡ a.feed.ghost_name) × (b.more.ghost_name ≡ a.more.ghost_name) × (b.out.ghost_name ≡ a.out.ghost_name) × (b.maps.ghost_name ≡ a.maps.ghost_name) × (b.lanes.ghost_name ≡ a.lanes.ghost_name) × (b.pace.ghost_name ≡ a.pace.ghost_name)

-- nothing that is lent was touched
abbrev pub AreUntouched : {S N K P G D M : Type 0} → Lent S N K P G D M → Lent S N K P G D M → Type 0
AreUntouched a b = (b.feed.now ≡ a.feed.now) × (b.more.now ≡ a.more.now) × (b.out.now ≡ a.out.now) × (b.maps.now ≡ a.maps.now) × (b.lanes.now ≡ a.lanes.now) × (b.pace.now ≡ a.pace.now)

-- all that is lent, by what a feed, a further one, an output and a pace tell
abbrev pub lent_of : {S N K P G D M : Type 0}
    → (S → DeviceState Fed) → (N → DeviceState Fed) → (K → DeviceState Written) → (M → DeviceState (List PaceCall))
    → Lent S N K P G D M → StreamLaneTold → LentTold
lent_of fed named written paced l stream = record {
  feed = fed l.feed.now;
  more = map named l.more.now;
  out = written l.out.now;
  maps = written l.maps.now;
  pace = paced l.pace.now;
  lanes = l.lanes.now;
  stream = stream;
}
