-- What the system's answers about a socket come to.
use Rattle.std.specs.Prelude.{◌≡◌, ◌≢◌, ℕ, ℤ, unsigned_abs, Bool, MatchBool, false, List, [], ◌∷◌, Option, None, Some, Result, Ok, Err, if◌then◌else◌, nat_le, ◌==◌}
use Rattle.std.specs.List.{list_any}
use Rattle.std.specs.IoError.{error_kind, raw_os_error}
use Rattle.std.specs.declared.io.ErrorKind.TheVariants as kind
use Rattle.std.specs.declared.io.Error.{Error}
use Rattle.std.specs.declared.net.socket_addr.SocketAddr.{SocketAddr}
use Rattle.outside.specs.Limits.{largest_datagram}
use Rattle.outside.specs.declared.port.Arrival.{Arrival}
use Rattle.outside.specs.declared.port.Arrival.TheVariants as arrival
use Rattle.outside.specs.declared.port.Sending.{Sending}
use Rattle.outside.specs.declared.port.Sending.TheVariants as sending
use Rattle.edges.specs.declared.ears.Next.{Next}
use Rattle.edges.specs.declared.ears.Next.TheVariants as next
use Rattle.edges.specs.declared.judged.Knock.{Knock}
use Rattle.edges.specs.declared.judged.Knock.TheVariants as knock
use Rattle.edges.specs.Peers.{peer_of}

-- The numbers of Linux that say of a socket that it is none, or can't be used any more: EBADF, EPIPE, ENOTSOCK, EOPNOTSUPP, ENOTCONN, ESHUTDOWN. Every other one concerns a datagram.
abbrev pub broken_numbers : List ℕ
broken_numbers = 9 ∷ 32 ∷ 88 ∷ 95 ∷ 107 ∷ 108 ∷ []

-- the number of an error is one of these
abbrev pub is_broken_number : Option ℤ → Bool
is_broken_number None = false
is_broken_number (Some code) = list_any (λ number. number == unsigned_abs code) broken_numbers

-- an error says that a socket is broken
unfoldable pub is_broken : Error → Bool
is_broken error = is_broken_number (raw_os_error error)

-- what came of a wait for a datagram, by how many octets were seen and who sent them, or by the error
abbrev pub arrival_of : Result (ℕ × SocketAddr) Error → Arrival
arrival_of (Ok seen) = if nat_le seen.0 largest_datagram then arrival.Arrived seen.0 (peer_of seen.1) else arrival.Oversize
arrival_of (Err error) = if is_broken error then arrival.Failed else arrival.Idle

-- What came of a reply. One that the system refuses counts as lost, as one that is lost on its way.
abbrev pub sending_of : Result ℕ Error → Sending
sending_of (Ok count) = sending.Sent
sending_of (Err error) = if is_broken error then sending.Failed else sending.Sent

-- The numbers of Linux that say of a listener that it is none, or can't be used any more: EBADF, EINVAL, ENOTSOCK.
abbrev pub deaf_numbers : List ℕ
deaf_numbers = 9 ∷ 22 ∷ 88 ∷ []

-- The numbers of Linux that concern one connection, which was gone before it was taken: EPERM, EINTR, ENONET, EPROTO, ENOPROTOOPT, EOPNOTSUPP, ENETDOWN, ENETUNREACH, ECONNABORTED, EHOSTDOWN, EHOSTUNREACH.
abbrev pub gone_numbers : List ℕ
gone_numbers = 1 ∷ 4 ∷ 64 ∷ 71 ∷ 92 ∷ 95 ∷ 100 ∷ 101 ∷ 103 ∷ 112 ∷ 113 ∷ []

-- The numbers of Linux that say that there is no descriptor to be had: ENFILE, EMFILE.
abbrev pub full_numbers : List ℕ
full_numbers = 23 ∷ 24 ∷ []

-- the number is one of these
abbrev pub is_one_of : List ℕ → Option ℤ → Bool
is_one_of numbers None = false
is_one_of numbers (Some code) = list_any (λ number. number == unsigned_abs code) numbers

-- the number of an error is one of these
unfoldable pub has_number : List ℕ → Error → Bool
has_number numbers error = is_one_of numbers (raw_os_error error)

-- what an error of a listener that takes connections comes to
abbrev pub knock_of : Error → Knock
knock_of error = if has_number deaf_numbers error then knock.Deaf else (if has_number gone_numbers error then knock.Gone else (if has_number full_numbers error then knock.Full else knock.Quiet))

-- How a listener goes on behind it, where a place and a descriptor could be had for the next connection or not. A connection that was gone is passed over.
abbrev pub next_of : Knock → Bool → Next
next_of knock.Deaf has_room = next.Broken
next_of knock.Gone has_room = next.Again
next_of knock.Full has_room = if has_room then next.Again else next.Wait
next_of knock.Quiet has_room = next.Wait

-- A wait is broken, or not. One that a signal breaks off is not.
abbrev pub IsWaitBroken : Result (Unit {0}) Error → Bool → Type 0
IsWaitBroken (Ok done) is_broken = is_broken ≡ false
IsWaitBroken (Err error) is_broken = MatchBool is_broken (error_kind error ≢ kind.Interrupted) (error_kind error ≡ kind.Interrupted)
