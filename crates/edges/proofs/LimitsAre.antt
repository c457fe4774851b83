-- For how long a connection may be idle, and is at least that gives way, in microseconds.
use Rattle.std.proofs.Common.{◌≡◌, refl}
use Rattle.edges.specs.declared.places.TheConstants.{LEAST_IDLE}
use Rattle.edges.specs.declared.seat.TheConstants.{LONGEST_IDLE}

pub idle_is : LONGEST_IDLE ≡ 10000000
idle_is = refl

pub least_is : LEAST_IDLE ≡ 100000
least_is = refl
