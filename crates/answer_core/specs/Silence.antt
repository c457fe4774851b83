-- What has no reply, by its octets alone.
use Rattle.std.specs.Prelude.{ℕ, Bool, List}
use Rattle.dns_wire.specs.Message as message

-- fewer than 12 octets, more than 4,096, or a response
abbrev pub is_silent : List ℕ → Bool
is_silent octets = message.is_silent octets
