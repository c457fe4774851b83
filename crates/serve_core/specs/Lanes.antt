-- Inside this crate alone: a datagram as it came, and the rows of a lane, as what it took and tried.
use Rattle.std.specs.Prelude.{true}
use Rattle.outside.specs.Port.{Packet, Try}
use Rattle.lane_model.specs.Lanes.{Entry}
use Rattle.serve_core.specs.declared.lane.Datagram.{Datagram}
use Rattle.serve_core.specs.declared.lane.TakenRow.{TakenRow}
use Rattle.serve_core.specs.declared.lane.TryRow.{TryRow}

abbrev pub packet_of : Datagram → Packet
packet_of d = record { octets = d.octets; from = d.from }

abbrev pub entry_of_row : TakenRow → Entry
entry_of_row t = record { packet = record { octets = t.octets; from = t.from }; known = t.known; way = t.way }

abbrev pub try_of_row : TryRow → Try
try_of_row t = record { octets = t.octets.items; to = t.to; serial = t.serial; went = true }
