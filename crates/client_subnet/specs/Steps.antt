-- Inside this crate alone: the first client subnet, found by one option after the other.
use Rattle.std.specs.Prelude.{ℕ, List, if◌then◌else◌, Option, None, Some}
use Rattle.client_subnet.specs.Options.{is_subnet}
use Rattle.dns_wire.specs.Edns.{EdnsOption}

-- the octets of the first client subnet so far, and one more option
abbrev pub kept : Option (List ℕ) → EdnsOption → Option (List ℕ)
kept None o = if is_subnet o then Some o.octets else None
kept (Some first) _ = Some first
