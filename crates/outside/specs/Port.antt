-- What a port tells, and what its calls do.
use Rattle.std.specs.Prelude.{◌≡◌, ℕ, ◌<◌, ◌≤◌, Bool, true, false, List, [], ◌∷◌, ◌++◌, length, take, drop, max, Option, Some, IfSome, IsSomeAnd, option_map, slice_get}
use Rattle.addr_text.specs.declared.address.Listen.{Listen}
use Rattle.addr_text.specs.declared.address.Peer.{Peer}
use Rattle.outside.specs.Faults.{raised}
use Rattle.outside.specs.Limits.{largest_datagram}
use Rattle.outside.specs.declared.port.Arrival.{Arrival}
use Rattle.outside.specs.declared.port.Arrival.TheVariants.{Arrived, Idle, Oversize, End, Failed}
use Rattle.outside.specs.declared.port.Opening.{Opening}
use Rattle.outside.specs.declared.port.Opening.TheVariants as opening
use Rattle.outside.specs.declared.port.Sending.{Sending}
use Rattle.outside.specs.declared.port.Sending.TheVariants as sending

-- a datagram: its octets, and who sent it
pub record Packet : Type 0 where
  pub octets : List ℕ
  pub from : Peer

-- a datagram that was taken, with the serial that its taker knew, and how many answers of recv came before it
pub record Taken : Type 0 where
  pub packet : Packet
  pub known : ℕ
  pub place : ℕ

-- a reply that was tried, with the serial of its map, and whether it went
pub record Try : Type 0 where
  pub octets : List ℕ
  pub to : Peer
  pub serial : ℕ
  pub went : Bool

-- What a port tells: where it was opened; the datagrams that wait, where it tells that too; those that were taken, and the replies that were tried; beside each of these, in `places`, how many answers of recv came before it; how many answers recv gave, how many of them were Failed, whether one was End, and the greatest serial that recv was handed.
pub record PortTold : Type 0 where
  pub opens : List Listen
  pub waiting : Option (List Packet)
  pub taken : List Taken
  pub tries : List Try
  pub places : List ℕ
  pub recvs : ℕ
  pub failed : ℕ
  pub is_ended : Bool
  pub greatest : ℕ

-- What one opening does to a port: it is noted. One that failed may not be.
abbrev pub IsOpen : Listen → Opening → PortTold → PortTold → Type 0
IsOpen listen opening.Ready before after = after ≡ record before { opens = before.opens ++ listen ∷ [] }
IsOpen listen opening.Failed before after = (k : ℕ) × (after ≡ record before { opens = before.opens ++ take k (listen ∷ []) })

-- the datagram of that many octets at the front of a buffer
abbrev pub packet_in : List ℕ → ℕ → Peer → Packet
packet_in buffer len from = record { octets = take len buffer; from = from }

-- a port after one answer more of recv, which was handed this serial
abbrev pub answered : ℕ → PortTold → PortTold
answered known port = record port { recvs = raised port.recvs 1; greatest = max port.greatest known }

-- a port after the first datagram was taken
abbrev pub taking : Packet → ℕ → PortTold → PortTold
taking packet known port = record (answered known port) { waiting = option_map (drop 1) port.waiting; taken = port.taken ++ (record { packet = packet; known = known; place = port.recvs }) ∷ [] }

-- What each answer of recv leaves of a port: a datagram that fits and one that is too long go from the queue, and nothing else does.
abbrev pub received : ℕ → List ℕ → Arrival → PortTold → PortTold
received known buffer (Arrived len from) port = taking (packet_in buffer len from) known port
received known buffer Idle port = answered known port
received known buffer Oversize port = record (answered known port) { waiting = option_map (drop 1) port.waiting }
received known buffer End port = record (answered known port) { is_ended = true }
received known buffer Failed port = record (answered known port) { failed = raised port.failed 1 }

-- An answer is due: the first datagram that waits was taken, or is too long; and after End there is only End.
abbrev pub IsDue : List ℕ → Arrival → PortTold → Type 0
IsDue buffer (Arrived len from) port = (port.is_ended ≡ false) × IfSome port.waiting (λ packets. slice_get packets 0 ≡ Some (packet_in buffer len from))
IsDue buffer Idle port = port.is_ended ≡ false
IsDue buffer Oversize port = (port.is_ended ≡ false) × IfSome port.waiting (λ packets. IsSomeAnd (slice_get packets 0) (λ packet. largest_datagram < length packet.octets))
IsDue buffer End port = Unit {0}
IsDue buffer Failed port = port.is_ended ≡ false

-- what one recv does to a port
pub record IsRecv (known : ℕ) (buffer : List ℕ) (result : Arrival) (before after : PortTold) : Type 0 where
  -- never were more replies tried than datagrams taken
  pub tried : length before.tries ≤ length before.taken
  pub due : IsDue buffer result before
  pub port : after ≡ received known buffer result before

-- a datagram that arrives has no more octets than are answered
abbrev pub IsShort : Arrival → Type 0
IsShort (Arrived len from) = len ≤ largest_datagram
IsShort Idle = Unit {0}
IsShort Oversize = Unit {0}
IsShort End = Unit {0}
IsShort Failed = Unit {0}

-- fewer replies were tried than datagrams taken
pub record HasDue (port : PortTold) : Type 0 where
  pub due : length port.tries < length port.taken

-- the reply went
abbrev pub is_sent : Sending → Bool
is_sent sending.Sent = true
is_sent sending.Failed = false

-- a port after a reply was tried, behind as many answers of recv as there were
abbrev pub trying : Try → PortTold → PortTold
trying reply port = record port { tries = port.tries ++ reply ∷ []; places = port.places ++ port.recvs ∷ [] }

-- what one send does to a port: the reply was tried, whether or not it went
abbrev pub IsSend : List ℕ → Peer → ℕ → Sending → PortTold → PortTold → Type 0
IsSend octets to serial result before after = after ≡ trying (record { octets = octets; to = to; serial = serial; went = is_sent result }) before
