use Rattle.std.proofs.Common.{length, ◌-◌, ◌≡◌, drop}
use Rattle.dns_wire.specs.Wire.{name_len}
use Rattle.dns_wire.proofs.Names.{later}
use Rattle.dns_wire.proofs.name.name_length.Given as goal

abbrev pub invariant-loop-at : goal.invariant-loop-at
invariant-loop-at l = later l.at (name_len l.pointers 0 (drop l.at l.octets)) ≡ name_len l.pointers 0 l.octets

abbrev pub decreases-loop-at : goal.decreases-loop-at
decreases-loop-at l = length l.octets - l.at
