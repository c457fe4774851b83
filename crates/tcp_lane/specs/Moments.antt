-- A stream lane at one moment, by what its parts tell.
use Rattle.std.specs.Prelude.{ℕ, Option}
use Rattle.outside.specs.Gate.{GateTold}
use Rattle.outside.specs.Notes.{NotesTold}
use Rattle.outside.specs.Streams.{StreamsTold}
use Rattle.published_map.specs.Version.{Version}
use Rattle.lane_model.specs.Calls.{Eyes}
use Rattle.outside.specs.Faults.{DeviceState}
use Rattle.tcp_lane.specs.declared.talk.LaneTalk.{LaneTalk}
use Rattle.tcp_lane.specs.Calls.{StreamMoment}
use Rattle.tcp_lane.specs.Turns.{TalkState}

-- the conversation of a lane
abbrev pub talk_state_of : LaneTalk → TalkState
talk_state_of talk = record { is_open = talk.is_open; peer = talk.peer; held = talk.held.items; quiets = talk.quiets }

-- streams, a gate and notes, by what each tells, with a viewer and its door, the number of the next message and a conversation
abbrev pub stream_moment_of : {Q G N : Type 0}
    → (Q → DeviceState StreamsTold) → (G → DeviceState GateTold) → (N → Option NotesTold)
    → Q → G → N → Eyes Version → ℕ → TalkState → StreamMoment Version
stream_moment_of told gate_told notes_told streams gate notes eyes count talk = record {
  streams = (told streams).past;
  gate = (gate_told gate).past;
  notes = notes_told notes;
  eyes = eyes;
  count = count;
  stream_faults = (told streams).faults;
  gate_faults = (gate_told gate).faults;
  talk = talk;
}
