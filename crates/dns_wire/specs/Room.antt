-- Room in the buffer of a reply.
use Rattle.std.specs.Prelude.{◌≡◌, ℕ, ◌+◌, ◌≤◌}
use Rattle.std.proofs.Common.{refl}
use Rattle.dns_wire.specs.declared.numbers.TheConstants.{LARGEST_REPLY}

-- how many octets a reply may have
abbrev pub reply_size : ℕ
reply_size = 1300

-- where so many octets are written, there is room for so many more
abbrev pub HasRoom : ℕ → ℕ → Type 0
HasRoom written more = written + more ≤ reply_size

pub reply_size_is : LARGEST_REPLY ≡ reply_size
reply_size_is = refl
