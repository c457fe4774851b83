-- What a clock shows, and that the system was asked.
use Rattle.std.specs.Duration.{as_nanos}
use Rattle.std.specs.declared.time.Duration.{Duration}
use Rattle.std.specs.Prelude.{◌≡◌, ◌≢◌, ◌+◌, ◌-◌, ◌/◌, ◌^◌, ℕ, Bool, true, List, min, Option, None, Some, Result, Ok, Err}
use Rattle.std.specs.declared.io.Error.{Error}
use Rattle.edges.specs.Places.{HasPlace}
use Rattle.edges.specs.declared.ears.Ears.{Ears}
use Rattle.edges.specs.declared.ears.Queue.TheVariants as queue
use Rattle.edges.specs.declared.seat.Seat.{Seat}
use Rattle.edges.specs.declared.watch.Watch.{Watch}

-- what a clock answered is the time from then on, in microseconds, as far as there are numbers for them; where it can't be read the time stands still
abbrev pub IsShown : Result Duration Error → ℕ → ℕ → Type 0
IsShown (Ok time) before after = after ≡ min (as_nanos time / 1_000) (2 ^ 64 - 1)
IsShown (Err error) before after = after ≡ before

-- a clock was read once
abbrev pub IsReadOnce : Watch → Watch → Type 0
IsReadOnce before after = after.reads.told ≡ before.reads.told + 1

-- one wait was made
abbrev pub HasWaited : Ears → Ears → Type 0
HasWaited before after = after.waits.told ≡ before.waits.told + 1

-- no connection can be had any more: there is no listener, or it or a wait for it is broken
abbrev pub deaf_of : Option Ears → Bool
deaf_of None = true
deaf_of (Some ears) = ears.is_broken

-- how many waits there were
abbrev pub waits_of : Option Ears → ℕ
waits_of None = 0
waits_of (Some ears) = ears.waits.told

-- a connection may wait at a listener, and can have a place
abbrev pub MayCome : ℕ → Ears → List Seat → Type 0
MayCome now ears seats = (ears.queue ≢ queue.Empty) × HasPlace now seats
