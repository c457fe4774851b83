-- Inside this crate alone: datagrams, as what a lane takes.
use Rattle.std.specs.Prelude.{◌≡◌, ℕ, Bool, true, List, []}
use Rattle.addr_text.specs.declared.address.Peer.{Peer}
use Rattle.answer_core.specs.declared.way.Way.TheVariants.{Datagram}
use Rattle.outside.specs.Faults.{BothTell, DeviceState}
use Rattle.outside.specs.Port.{PortTold, trying}
use Rattle.lane_model.specs.Turns.{Turn, ended, is_refused, port_after}
use Rattle.name_workers.specs.Loop.{Taking}

-- the try of a reply to that peer
abbrev pub puts_to : Peer → ℕ → List ℕ → Bool → PortTold → PortTold → Type 0
puts_to to serial reply went b c = c ≡ trying (record { octets = reply; to = to; serial = serial; went = went }) b

-- each take is one turn, in any room
abbrev pub datagrams : {S P : Type 0} → (P → DeviceState PortTold) → Taking Turn S P
datagrams told = record {
  way = Datagram;
  faults = λ p. (told p).faults;
  is_fresh = λ r. Unit {0};
  is_ready = λ r. Unit {0};
  lead = λ t. t;
  more = λ t. [];
  does = λ t r r' p p'. BothTell (told p).past (told p').past (λ b c. c ≡ port_after t.known t.came b);
  is_end = λ t. t.came ≡ ended;
  is_blind = λ t. is_refused t.came ≡ true;
}
