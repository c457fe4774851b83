-- Limits of what goes through a port, and of notes. Each constant of the code is the number that stands here.
use Rattle.std.specs.Prelude.{ℕ}

-- the most octets of a datagram that is answered
abbrev pub largest_datagram : ℕ
largest_datagram = 4096

-- the most octets of a reply that is sent
abbrev pub largest_reply : ℕ
largest_reply = 1300

-- the most notes that one run tells of
abbrev pub most_notes : ℕ
most_notes = 65536
