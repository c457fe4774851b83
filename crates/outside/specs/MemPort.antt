-- What a port in memory holds.
use Rattle.std.specs.Prelude.{◌≡◌, ℕ, ◌+◌, ◌≤◌, ◌⊎◌, Bool, true, false, length, Contains}
use Rattle.outside.specs.Calls.{Counted}
use Rattle.outside.specs.Port.{Packet, Taken, Try, PortTold}
use Rattle.outside.specs.declared.mem_port.MemPacket.{MemPacket}
use Rattle.outside.specs.declared.mem_port.MemTaken.{MemTaken}
use Rattle.outside.specs.declared.mem_port.MemTry.{MemTry}
use Rattle.outside.specs.declared.port.Arrival.{Arrival}
use Rattle.outside.specs.declared.port.Arrival.TheVariants.{Failed}
use Rattle.outside.specs.declared.port.Opening.{Opening}
use Rattle.outside.specs.declared.port.Opening.TheVariants as opening

-- a datagram, as it is held
abbrev pub packet_of : MemPacket → Packet
packet_of packet = record { octets = packet.octets.items; from = packet.from }

-- a datagram that was taken, as it was noted
abbrev pub taken_of : MemTaken → Taken
taken_of taken = record { packet = packet_of taken.packet; known = taken.known; place = taken.place }

-- a reply that was tried, as it was noted
abbrev pub try_of : MemTry → Try
try_of reply = record { octets = reply.octets.items; to = reply.to; serial = reply.serial; went = reply.went }

-- how many answers of recv came before a reply that was tried
abbrev pub place_of : MemTry → ℕ
place_of reply = reply.place

-- a port in memory: what it tells, and its calls of each kind
pub record PortInMemory : Type 0 where
  pub told : PortTold
  pub opens : Counted
  pub recvs : Counted
  pub sends : Counted

-- how many calls failed
abbrev pub port_faults : PortInMemory → ℕ
port_faults port = port.opens.faults + port.recvs.faults + port.sends.faults

-- the next opening fails: it is to fail, or there was one
abbrev pub OpenFails : PortInMemory → Type 0
OpenFails port = Contains port.opens.fails port.opens.made ⊎ (1 ≤ length port.told.opens)

-- the next recv fails: it is to fail, and the port has not said that it ended
abbrev pub RecvFails : PortInMemory → Type 0
RecvFails port = (port.told.is_ended ≡ false) × Contains port.recvs.fails port.recvs.made

-- the next send fails: it is to fail
abbrev pub SendFails : PortInMemory → Type 0
SendFails port = Contains port.sends.fails port.sends.made

-- the opening failed
abbrev pub is_shut : Opening → Bool
is_shut opening.Ready = false
is_shut opening.Failed = true

-- the recv failed
abbrev pub is_failed : Arrival → Bool
is_failed Failed = true
is_failed _ = false
