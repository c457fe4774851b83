-- A lane at one moment, by what its parts tell.
use Rattle.std.specs.Prelude.{ℕ, Option}
use Rattle.map_cell.specs.Doors.{DoorState}
use Rattle.map_cell.specs.Ends.{ViewerState}
use Rattle.outside.specs.Faults.{DeviceState}
use Rattle.outside.specs.Gate.{GateTold}
use Rattle.outside.specs.Notes.{NotesTold}
use Rattle.outside.specs.Port.{PortTold}
use Rattle.published_map.specs.Version.{Version}
use Rattle.lane_model.specs.Calls.{Eyes, Moment}

-- a viewer and its door, by what a door tells
abbrev pub eyes_of : {D : Type 0} → (D → DoorState) → ViewerState → D → Eyes Version
eyes_of told viewer door = record {
  seen = viewer.seen;
  heard = viewer.heard;
  looks = (told door).looks;
  greatest = (told door).greatest;
  faults = (told door).faults;
}

-- a port, a gate and notes, by what each tells, with a viewer and its door and the number of the next datagram
abbrev pub moment_of : {P G N : Type 0}
    → (P → DeviceState PortTold) → (G → DeviceState GateTold) → (N → Option NotesTold)
    → P → G → N → Eyes Version → ℕ → Moment Version
moment_of told gate_told notes_told port gate notes eyes count = record {
  port = (told port).past;
  gate = (gate_told gate).past;
  notes = notes_told notes;
  eyes = eyes;
  count = count;
  port_faults = (told port).faults;
  gate_faults = (gate_told gate).faults;
}
