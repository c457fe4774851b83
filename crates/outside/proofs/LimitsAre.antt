-- The constants of the code are the numbers of the definitions.
use Rattle.std.proofs.Common.{◌≡◌, refl}
use Rattle.outside.specs.Limits.{largest_datagram, largest_reply, most_notes}
use Rattle.outside.specs.declared.limits.TheConstants.{LARGEST_DATAGRAM, LARGEST_REPLY, MOST_NOTES}

pub datagram_is : LARGEST_DATAGRAM ≡ largest_datagram
datagram_is = refl

pub reply_is : LARGEST_REPLY ≡ largest_reply
reply_is = refl

pub notes_are : MOST_NOTES ≡ most_notes
notes_are = refl
