-- Real things, as what they were asked and answered.
use Rattle.std.specs.Prelude.{◌≡◌, ◌≤◌, ◌+◌, ℕ, Bool, None, List, false, length, if◌then◌else◌}
use Rattle.std.specs.List.{sum_by}
use Rattle.outside.specs.Port.{PortTold}
use Rattle.outside.specs.Shelf.{Load}
use Rattle.outside.specs.Streams.{StreamsTold}

-- files, as the loads so far and the count of those that failed
pub record ShelfNoted : Type 0 where
  pub loads : List Load
  pub faults : ℕ

-- a port, with the count of its calls that failed
pub record PortNoted : Type 0 where
  pub told : PortTold
  pub faults : ℕ

-- a port that tells not what waits, and has not ended; never were more replies tried than datagrams taken
abbrev pub IsGoing : PortTold → Type 0
IsGoing port = (port.waiting ≡ None) × (port.is_ended ≡ false) × (length port.tries ≤ length port.taken)

-- no more answers were given than the system was asked for a datagram, but for those that failed
abbrev pub IsAsked : ℕ → PortTold → Type 0
IsAsked asked port = port.recvs ≤ asked + port.failed

-- each reply that went was handed to the system
abbrev pub IsHanded : ℕ → PortTold → Type 0
IsHanded handed port = sum_by (λ t. if t.went then 1 else 0) port.tries ≤ handed

-- streams, with the count of their calls that failed, whether no connection can be had any more, and how many waits there were
pub record StreamsNoted : Type 0 where
  pub told : StreamsTold
  pub faults : ℕ
  pub is_deaf : Bool
  pub waits : ℕ
