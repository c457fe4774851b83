-- The limits of what lanes take and send are those of the messages.
use Rattle.std.proofs.Common.{◌≡◌, refl}
use Rattle.dns_wire.specs.declared.numbers.TheConstants as wire
use Rattle.outside.specs.declared.limits.TheConstants.{LARGEST_DATAGRAM, LARGEST_REPLY}

pub datagram_is : LARGEST_DATAGRAM ≡ wire.LARGEST_DATAGRAM
datagram_is = refl

pub reply_is : LARGEST_REPLY ≡ wire.LARGEST_REPLY
reply_is = refl
