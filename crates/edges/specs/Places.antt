-- Which connection has a place, gives way, or is handed over next.
use Rattle.std.specs.IoError.{error_kind}
use Rattle.std.specs.declared.io.Error.{Error}
use Rattle.std.specs.declared.io.ErrorKind.TheVariants as kind
use Rattle.std.specs.Prelude.{◌≡◌, ◌≢◌, ◌⊎◌, ℕ, ◌≤◌, ◌<◌, ◌+◌, ◌-◌, ◌/◌, ◌^◌, ◌==◌, ◌&&◌, ◌||◌, Bool, true, false, not, nat_le, nat_lt, List, [], All, count_by, position, Option, None, Some, Result, Ok, Err, length, option_map, is_some, MatchBool, MatchOption, if◌then◌else◌, slice_get}
use Rattle.addr_text.specs.declared.address.Addr.{Addr}
use Rattle.addr_text.specs.declared.address.Addr.TheVariants.{V4, V6}
use Rattle.addr_text.specs.declared.address.Peer.{Peer}
use Rattle.edges.specs.declared.places.Found.{Found}
use Rattle.edges.specs.declared.places.Wanted.{Wanted}
use Rattle.edges.specs.declared.places.Wanted.TheVariants.{Oldest, OldestOf, FirstInTurn}
use Rattle.edges.specs.declared.line.Line.{Line}
use Rattle.edges.specs.declared.places.TheConstants.{LEAST_IDLE}
use Rattle.edges.specs.declared.room.Room.{Room}
use Rattle.edges.specs.declared.seat.Seat.{Seat}
use Rattle.edges.specs.declared.seat.Stirring.{Stirring}
use Rattle.mio.specs.declared.net.stream.TcpStream.{TcpStream}
use Rattle.past_log.specs.Line.{LineTold, new_line}

-- Two addresses count as one where they are equal, or, in IPv6, are of one network of 2^64 addresses, but for the first network.
abbrev pub is_same : Addr → Addr → Bool
is_same (V4 a) (V4 b) = a == b
is_same (V6 a) (V6 b) = (a == b) || (not (a / 2 ^ 64 == 0) && (a / 2 ^ 64 == b / 2 ^ 64))
is_same (V4 a) (V6 b) = false
is_same (V6 a) (V4 b) = false

-- a place has a connection of an address
abbrev pub is_of : Addr → Seat → Bool
is_of addr seat = is_some seat.line && is_same seat.peer.addr addr

-- when an idle connection came or last took octets, or the number of one that waits; none where it is not looked for
abbrev pub key_of : Wanted → Seat → Option ℕ
key_of Oldest seat = if is_some seat.line && (seat.turn == 0) then Some seat.since else None
key_of (OldestOf addr) seat = if is_of addr seat && (seat.turn == 0) then Some seat.since else None
key_of FirstInTurn seat = if nat_lt 0 seat.turn then Some seat.turn else None

-- the place has the least number of all that are looked for
abbrev pub IsLeast : Wanted → List Seat → ℕ → Type 0
IsLeast wanted seats i = (seat : Seat) × (key : ℕ) × (slice_get seats i ≡ Some seat) × (key_of wanted seat ≡ Some key) × All (λ s. (k : ℕ) → key_of wanted s ≡ Some k → key ≤ k) seats

-- so far
abbrev pub IsLeastSoFar : Wanted → List Seat → Option Found → Type 0
IsLeastSoFar wanted seats None = All (λ s. key_of wanted s ≡ None) seats
IsLeastSoFar wanted seats (Some least) = (seat : Seat) × (slice_get seats least.place ≡ Some seat) × (key_of wanted seat ≡ Some least.key) × All (λ s. (k : ℕ) → key_of wanted s ≡ Some k → least.key ≤ k) seats

-- the place of the one that is looked for, and None only where there is none
abbrev pub IsFound : Wanted → List Seat → Option ℕ → Type 0
IsFound wanted seats None = All (λ s. key_of wanted s ≡ None) seats
IsFound wanted seats (Some i) = IsLeast wanted seats i

-- a place has no connection
abbrev pub is_free : Seat → Bool
is_free seat = not (is_some seat.line)

-- The place for a connection of an address that comes: where there are as many of its address as there may be, that of the oldest of these; else the first that is free, and where none is, that of the oldest of all.
abbrev pub IsPlaceFor : List Seat → Addr → ℕ → Option ℕ → Type 0
IsPlaceFor seats addr most found = MatchBool (nat_le most (count_by (is_of addr) seats)) (IsFound (OldestOf addr) seats found) (MatchOption (position is_free seats) (IsFound Oldest seats found) (λ i. found ≡ Some i))

-- the connection that is idle for the longest time is so for long enough to give way
abbrev pub GivesWay : ℕ → List Seat → ℕ → Type 0
GivesWay now seats i = IsLeast Oldest seats i × ((seat : Seat) × (slice_get seats i ≡ Some seat) × (LEAST_IDLE ≤ now - seat.since))

-- a connection that comes can have a place: one is free, or a connection gives way
abbrev pub HasPlace : ℕ → List Seat → Type 0
HasPlace now seats = ((i : ℕ) × (position is_free seats ≡ Some i)) ⊎ ((i : ℕ) × GivesWay now seats i)

-- the socket of a line, if there is one
abbrev pub socket_of : Option Line → Option TcpStream
socket_of line = option_map (λ l. l.stream) line

-- what it tells of its calls
abbrev pub told_of : Option Line → LineTold
told_of None = new_line
told_of (Some line) = line.past.told

-- how many reads it had
abbrev pub reads_of : Option Line → ℕ
reads_of line = (told_of line).reads

-- a place has no connection, or one that was read since it came
abbrev pub WasRead : Seat → Type 0
WasRead seat = (is_free seat ≡ true) ⊎ (0 < reads_of seat.line)

-- what the system answered to the calls of a place's socket is noted of the place: the connection is of no use where one failed, and its peer sends no more where a read came to the end
abbrev pub AreCallsNoted : Seat → Type 0
AreCallsNoted seat = ((told_of seat.line).has_failed ≡ true → seat.is_over ≡ true) × ((told_of seat.line).has_ended ≡ true → seat.is_ended ≡ true)

-- a place has no connection, or one that was read since it came, of which all is noted that the system answered
abbrev pub IsFollowed : Seat → Type 0
IsFollowed seat = WasRead seat × AreCallsNoted seat

-- the place whose connection is handed over next, and that connection's peer
abbrev pub IsNextTalk : List Seat → ℕ → Peer → Type 0
IsNextTalk seats i peer = (seat : Seat) × (slice_get seats i ≡ Some seat) × (peer ≡ seat.peer) × IsLeast FirstInTurn seats i

-- nothing is at a place, so nothing waits there
abbrev pub IsVacant : Seat → Type 0
IsVacant seat = (is_free seat ≡ true) × (seat.turn ≡ 0)

-- a place has a connection of a peer, which came at that time, may be read, does not wait, has not come to its end, and had no call
abbrev pub IsTaken : Peer → ℕ → Seat → Type 0
IsTaken peer now seat = (is_free seat ≡ false) × (seat.peer ≡ peer) × (seat.since ≡ now) × (seat.turn ≡ 0) × (seat.is_over ≡ false) × (seat.is_ended ≡ false) × (seat.is_readable ≡ true) × (told_of seat.line ≡ new_line)

-- a place has the socket that it had, if any, which had as many reads at least, with its peer
abbrev pub IsSamePeer : Seat → Seat → Type 0
IsSamePeer seat seat' = (socket_of seat'.line ≡ socket_of seat.line) × (seat'.peer ≡ seat.peer) × (reads_of seat.line ≤ reads_of seat'.line)

-- a connection is of no use where it was of none, its peer sends no more where it sent no more, and all is noted that the system answered where it was
abbrev pub IsSameEnd : Seat → Seat → Type 0
IsSameEnd seat seat' = (seat.is_over ≡ true → seat'.is_over ≡ true) × (seat.is_ended ≡ true → seat'.is_ended ≡ true) × (AreCallsNoted seat → AreCallsNoted seat')

-- a connection is of no use, or its peer sends no more, only where that was so or the system answered so to a call of its socket
abbrev pub IsEndedByCalls : Seat → Seat → Type 0
IsEndedByCalls seat seat' = (seat'.is_over ≡ true → (seat.is_over ≡ true) ⊎ ((told_of seat'.line).has_failed ≡ true)) × (seat'.is_ended ≡ true → (seat.is_ended ≡ true) ⊎ ((told_of seat'.line).has_ended ≡ true)) × ((told_of seat.line).has_failed ≡ true → (told_of seat'.line).has_failed ≡ true) × ((told_of seat.line).has_ended ≡ true → (told_of seat'.line).has_ended ≡ true)

-- the same, with its time, which waits as before, and has come to its end where it had
abbrev pub IsSameSeat : Seat → Seat → Type 0
IsSameSeat seat seat' = IsSamePeer seat seat' × (seat'.turn ≡ seat.turn) × IsSameEnd seat seat' × (seat'.since ≡ seat.since)

-- the same, and it is of no use any more
abbrev pub IsOverNow : Seat → Seat → Type 0
IsOverNow seat seat' = IsSameSeat seat seat' × (seat'.is_over ≡ true)

-- What an error of a call comes to: where it would have to wait no further one may be made, one that a signal broke off changes nothing, and behind any other error the connection is of no use.
abbrev pub IsMet : Error → Bool → Bool → Bool → Bool → Type 0
IsMet error may_go_on is_over may_go_on' is_over' = (error_kind error ≡ kind.WouldBlock → (may_go_on' ≡ false) × (is_over' ≡ is_over)) × (error_kind error ≡ kind.Interrupted → (may_go_on' ≡ may_go_on) × (is_over' ≡ is_over)) × (error_kind error ≢ kind.WouldBlock → error_kind error ≢ kind.Interrupted → is_over' ≡ true)

-- what the system answered to a read is noted: no octets are the end of what the peer sends, and others came behind those that were there
abbrev pub IsReadNoted : Result ℕ Error → Seat → Room → Seat → Room → Type 0
IsReadNoted (Ok count) seat room seat' room' = (seat'.is_over ≡ seat.is_over) × (length room'.coming.items ≡ length room.coming.items + count) × MatchBool (count == 0) (seat'.is_ended ≡ true) (seat'.is_ended ≡ seat.is_ended)
IsReadNoted (Err error) seat room seat' room' = IsMet error seat.is_readable seat.is_over seat'.is_readable seat'.is_over × (seat'.is_ended ≡ seat.is_ended) × (room'.coming.items ≡ room.coming.items)

-- what the system answered to a write is noted: the octets that it took are gone
abbrev pub IsWriteNoted : Result ℕ Error → Seat → Room → Seat → Room → Type 0
IsWriteNoted (Ok count) seat room seat' room' = (seat'.is_over ≡ seat.is_over) × (length room'.going.items + count ≡ length room.going.items)
IsWriteNoted (Err error) seat room seat' room' = IsMet error seat.is_writable seat.is_over seat'.is_writable seat'.is_over × (room'.going.items ≡ room.going.items)

-- one that does not wait
abbrev pub rested : Seat → Seat
rested seat = record seat { turn = 0 }

-- what happened at a connection is noted
abbrev pub IsWoken : Stirring → Seat → Seat → Type 0
IsWoken stirring seat seat' = seat' ≡ record seat { is_readable = seat.is_readable || stirring.is_readable; is_writable = seat.is_writable || stirring.is_writable; is_closing = seat.is_closing || stirring.is_closing }

-- whether something can be read or written of a connection may have changed, and nothing else
abbrev pub MayBeWoken : Seat → Seat → Type 0
MayBeWoken seat seat' = seat' ≡ record seat { is_readable = seat'.is_readable; is_writable = seat'.is_writable; is_closing = seat'.is_closing }

-- A connection is left: it is over; or it does not wait to be handed over, and either its peer sends no more and nothing is to go, or it was idle for so long.
abbrev pub IsToLeave : ℕ → ℕ → Seat → List ℕ → Type 0
IsToLeave longest now seat going = (seat.is_over ≡ true) ⊎ ((seat.turn ≡ 0) × (((seat.is_ended ≡ true) × (going ≡ [])) ⊎ (longest ≤ now - seat.since)))
