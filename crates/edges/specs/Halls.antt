-- Which connection is handed over, what becomes of all of them, and what streams tell of it.
use Rattle.std.specs.Prelude.{◌≡◌, ◌⊎◌, ℕ, ◌<◌, ◌≤◌, Bool, true, false, List, [], ◌∷◌, All, MatchBool, nat_lt, Option, None, Some, length, slice_get, slice_set, take}
use Rattle.outside.specs.Faults.{raised}
use Rattle.outside.specs.Streams.{Piece, Talk}
use Rattle.outside.specs.declared.streams.Accepting.{Accepting}
use Rattle.outside.specs.declared.streams.Accepting.TheVariants as came
use Rattle.outside.specs.declared.streams.Reading.{Reading}
use Rattle.outside.specs.declared.streams.Reading.TheVariants as read
use Rattle.tcp_frames.specs.Split.{AreWhole, IsOverlong}
use Rattle.tcp_frames.specs.declared.batch.Batch.{Batch}
use Rattle.tcp_frames.specs.declared.batch.TheConstants.{MOST_MESSAGES}
use Rattle.addr_text.specs.declared.address.Addr.{Addr}
use Rattle.edges.specs.Places.{IsOverNow, IsNextTalk, IsPlaceFor, IsSameEnd, IsSamePeer, IsToLeave, IsFollowed, IsVacant, MayBeWoken, AreCallsNoted, IsEndedByCalls, is_free, key_of, reads_of}
use Rattle.edges.specs.declared.ears.Taken.{Taken}
use Rattle.edges.specs.declared.ears.Taken.TheVariants as taken
use Rattle.edges.specs.Rooms.{IsChangedAt, IsDue, IsEmpty, IsGoingOn, IsHandingOver, IsNotDue}
use Rattle.edges.specs.declared.places.Wanted.TheVariants.{FirstInTurn}
use Rattle.edges.specs.declared.room.Room.{Room}
use Rattle.edges.specs.declared.seat.Seat.{Seat}
use Rattle.edges.specs.declared.seat.TheConstants.{LONGEST_IDLE}

-- what comes of a wait: the connection that has waited longest is handed over, with its peer; or none waits; or the listener is broken
abbrev pub IsAdvance : Accepting → Option ℕ → List Seat → Type 0
IsAdvance (came.Come peer) current seats = (i : ℕ) × (current ≡ Some i) × IsNextTalk seats i peer
IsAdvance came.Idle current seats = (current ≡ None) × All (λ s. key_of FirstInTurn s ≡ None) seats
IsAdvance came.End current seats = ⊥
IsAdvance came.Failed current seats = current ≡ None

-- of so many octets, the batch stood at the front of what had come to the room that is handed over, and no other room changed
abbrev pub IsTakenFrom : List ℕ → List ℕ → ℕ → Option ℕ → List Room → List Room → Type 0
IsTakenFrom buffer buffer' len current rooms rooms' = (i : ℕ) × (batch : Batch) × (current ≡ Some i) × (batch.len ≡ len) × IsChangedAt (IsHandingOver buffer buffer' batch) i rooms rooms'

-- what is read are octets of the room that is handed over
abbrev pub IsHeard : List ℕ → List ℕ → Reading → Option ℕ → List Room → List Room → Type 0
IsHeard buffer buffer' (read.Got n) current rooms rooms' = IsTakenFrom buffer buffer' n current rooms rooms'
IsHeard buffer buffer' read.Quiet current rooms rooms' = ⊥
IsHeard buffer buffer' read.Closed current rooms rooms' = (rooms' ≡ rooms) ⊎ IsTakenFrom buffer buffer' 0 current rooms rooms'
IsHeard buffer buffer' read.Failed current rooms rooms' = ⊥

-- the connection that is handed over may be one that goes on no more, and is still the same one
abbrev pub IsSameOrEnded : Option ℕ → List Seat → List Seat → Type 0
IsSameOrEnded current seats seats' = (seats' ≡ seats) ⊎ ((i : ℕ) × (current ≡ Some i) × IsChangedAt IsOverNow i seats seats')

-- behind octets that are no whole messages the connection that is handed over goes on no more
abbrev pub EndsBehind : List ℕ → Reading → Option ℕ → List Seat → List Seat → Type 0
EndsBehind buffer' reading current seats seats' = (n i : ℕ) → reading ≡ read.Got n → (AreWhole MOST_MESSAGES (take n buffer') → ⊥) → current ≡ Some i → i < length seats → IsChangedAt IsOverNow i seats seats'

-- behind octets that do not begin with a length that is too great all connections are as they were
abbrev pub GoesOnBehind : List ℕ → Reading → List Seat → List Seat → Type 0
GoesOnBehind buffer' reading seats seats' = (n : ℕ) → reading ≡ read.Got n → (IsOverlong (take n buffer') → ⊥) → seats' ≡ seats

-- octets that are handed over at once: eight whole messages at most, or a length that is too great for one
abbrev pub AreOfOneTalk : List ℕ → Type 0
AreOfOneTalk octets = AreWhole MOST_MESSAGES octets ⊎ IsOverlong octets

-- a conversation has one piece at most, and none before it was read
abbrev pub AreHeardOnce : Bool → List Piece → Type 0
AreHeardOnce false pieces = pieces ≡ []
AreHeardOnce true pieces = (pieces ≡ []) ⊎ ((p : Piece) × (pieces ≡ p ∷ []) × AreOfOneTalk p.octets)

-- the conversation that streams tell of is with the peer of the connection that is handed over, and was handed over once at most
abbrev pub IsTold : Option ℕ → Bool → List Seat → Option Talk → Type 0
IsTold None is_read seats talk = Unit {0}
IsTold (Some i) is_read seats talk = (seat : Seat) × (t : Talk) × (slice_get seats i ≡ Some seat) × (talk ≡ Some t) × (t.peer ≡ seat.peer) × AreHeardOnce is_read t.pieces

-- a number is one of those that were given out in a call: greater than the last one ahead of it, until numbers run out, and not greater than the last one behind it
abbrev pub IsGivenOut : ℕ → ℕ → ℕ → Type 0
IsGivenOut last last' turn = (raised last 1 ≤ turn) × (turn ≤ last')

-- which number a connection has among those that wait to be handed over: one that waits keeps it, and another one is given one exactly where it is due
abbrev pub IsTurned : ℕ → ℕ → ℕ → Seat → Room → Type 0
IsTurned last last' turn seat' room' = MatchBool (nat_lt 0 turn) (seat'.turn ≡ turn) (MatchBool (nat_lt 0 seat'.turn) (IsDue room' × IsGivenOut last last' seat'.turn) (IsNotDue room'))

-- a connection is idle from that time on where it took octets of what was to go, and else since when it was
abbrev pub IsSince : ℕ → Seat → Room → Seat → Room → Type 0
IsSince now seat room seat' room' = MatchBool (nat_lt (length room'.going.items) (length room.going.items)) (seat'.since ≡ now) (seat'.since ≡ seat.since)

-- a connection goes on: it has the same socket, what comes is put behind what came, replies go in their order, it waits where it is due, it is not idle where it takes octets, and it is of no use, or its peer sends no more, where that was so
abbrev pub GoesOn : ℕ → ℕ → ℕ → Seat → Room → Seat → Room → Type 0
GoesOn now last last' seat room seat' room' = IsSameEnd seat seat' × IsSamePeer seat seat' × IsGoingOn room room' × IsTurned last last' seat.turn seat' room' × IsSince now seat room seat' room'

-- a connection is to be left at that time
abbrev pub IsToLeaveAt : ℕ → Seat → Room → Type 0
IsToLeaveAt now seat room = IsToLeave LONGEST_IDLE now seat room.going.items

-- a place stays as it is
abbrev pub Stays : Seat → Room → Seat → Room → Type 0
Stays seat room seat' room' = (seat' ≡ seat) × (room' ≡ room)

-- What becomes of a place where all go on: one without a connection stays as it is. Else the connection is left, with all of its octets, or goes on and is not to be left.
abbrev pub IsSettled : ℕ → ℕ → ℕ → Seat → Room → Seat → Room → Type 0
IsSettled now last last' seat room seat' room' = MatchBool (is_free seat) (Stays seat room seat' room') ((IsVacant seat' × IsEmpty room') ⊎ (GoesOn now last last' seat room seat' room' × (IsToLeaveAt now seat' room' → ⊥)))

-- A connection that is left went on, and was to be left then: it was of no use, or its peer sent no more, only where that was so before or the system answered so.
abbrev pub IsLeft : ℕ → ℕ → ℕ → Seat → Room → Seat → Type 0
IsLeft now last last' seat room seat' = (room' : Room) × GoesOn now last last' seat room seat' room' × IsEndedByCalls seat seat' × IsToLeaveAt now seat' room'

-- nothing waits at a place to be handed over
abbrev pub IsIdle : Seat → Type 0
IsIdle seat = (is_free seat ≡ true) ⊎ (seat.turn ≡ 0)

-- a connection came at that time: it was read, all is noted that the system answered, nothing of it is to go, it waits where it is due, and it is not to be left
abbrev pub HasCome : ℕ → ℕ → ℕ → Seat → Room → Type 0
HasCome now last last' seat room = (is_free seat ≡ false) × (seat.since ≡ now) × (0 < reads_of seat.line) × AreCallsNoted seat × (room.going.items ≡ []) × IsTurned last last' 0 seat room × (IsToLeaveAt now seat room → ⊥)

-- it came, or it came and was left at once
abbrev pub IsEntered : ℕ → ℕ → ℕ → Seat → Room → Type 0
IsEntered now last last' seat room = (IsVacant seat × IsEmpty room) ⊎ HasCome now last last' seat room

-- One that came and was left at once was read, and was to be left then.
abbrev pub IsLeftAtOnce : ℕ → Seat → Seat → Type 0
IsLeftAtOnce now seat seat' = (room' : Room) × IsSamePeer seat seat' × (0 < reads_of seat'.line) × IsEndedByCalls seat seat' × IsToLeaveAt now seat' room'

-- What becomes of a place where connections are taken in: it stays as it is; or nothing waited there, and it has no connection and no octets, or one that came at that time.
abbrev pub IsLetIn : ℕ → ℕ → ℕ → Seat → Room → Seat → Room → Type 0
IsLetIn now last last' seat room seat' room' = Stays seat room seat' room' ⊎ (IsIdle seat × IsEntered now last last' seat' room')

-- What becomes of a place where all that are there go on: whether something can be read or written may have changed, and then all go on.
abbrev pub IsGoneOn : ℕ → ℕ → ℕ → Seat → Room → Seat → Room → Type 0
IsGoneOn now last last' seat room seat' room' = (woken : Seat) × MayBeWoken seat woken × IsSettled now last last' woken room seat' room'

-- so many places, of which none has a connection
abbrev pub AreFree : ℕ → List Seat → Type 0
AreFree places seats = (length seats ≡ places) × All IsVacant seats

-- so many rooms, none of which has octets
abbrev pub AreEmpty : ℕ → List Room → Type 0
AreEmpty places rooms = (length rooms ≡ places) × All IsEmpty rooms

-- there are as many rooms as places, no place has a greater number than the last that was given out, and each connection was read since it came, with all noted that the system answered
abbrev pub AreNumberedUpTo : ℕ → List Seat → List Room → Type 0
AreNumberedUpTo last seats rooms = (length rooms ≡ length seats) × All (λ s. (s.turn ≤ last) × IsFollowed s) seats

-- one place with its room became another so, and no other one changed
pub record IsPlaceChangedAt (R : Seat → Room → Seat → Room → Type 0) (i : ℕ) (seats : List Seat) (rooms : List Room) (seats' : List Seat) (rooms' : List Room) : Type 0 where
  pub seat : Seat
  pub room : Room
  pub seat' : Seat
  pub room' : Room
  pub seat_was : slice_get seats i ≡ Some seat
  pub room_was : slice_get rooms i ≡ Some room
  pub seat_is : seats' ≡ slice_set seats i seat'
  pub room_is : rooms' ≡ slice_set rooms i room'
  pub changed : R seat room seat' room'

-- each place that has a room became another so by its number, with its room, and there are as many places and rooms as before
pub record AreAllChanged (R : ℕ → Seat → Room → Seat → Room → Type 0) (seats : List Seat) (rooms : List Room) (seats' : List Seat) (rooms' : List Room) : Type 0 where
  pub seats_stay : length seats' ≡ length seats
  pub rooms_stay : length rooms' ≡ length rooms
  pub each : (i : ℕ) (seat : Seat) (room : Room) → slice_get seats i ≡ Some seat → slice_get rooms i ≡ Some room →
      (seat' : Seat) × (room' : Room) × (slice_get seats' i ≡ Some seat') × (slice_get rooms' i ≡ Some room') × R i seat room seat' room'

-- What becomes of all places where all that are there go on so, and then connections come.
pub record AreBothChanged (R : Seat → Room → Seat → Room → Type 0) (now between last' : ℕ) (seats : List Seat) (rooms : List Room) (seats' : List Seat) (rooms' : List Room) : Type 0 where
  pub seats_then : List Seat
  pub rooms_then : List Room
  pub went : AreAllChanged (λ _. R) seats rooms seats_then rooms_then
  pub came : AreAllChanged (λ _. IsLetIn now between last') seats_then rooms_then seats' rooms'

-- all that are there go on, and then connections come
abbrev pub AreRounded : ℕ → ℕ → ℕ → List Seat → List Room → List Seat → List Room → Type 0
AreRounded now last last' seats rooms seats' rooms' = (between : ℕ) × (last ≤ between) × (between ≤ last') × AreBothChanged (IsSettled now last between) now between last' seats rooms seats' rooms'

-- What becomes of all places between two conversations: whether something can be read or written may have changed, all that are there go on, and then connections come.
abbrev pub IsRound : ℕ → ℕ → ℕ → List Seat → List Room → List Seat → List Room → Type 0
IsRound now last last' seats rooms seats' rooms' = (between : ℕ) × (last ≤ between) × (between ≤ last') × AreBothChanged (IsGoneOn now last between) now between last' seats rooms seats' rooms'

-- What became of a connection that was taken: it came to the place for it, or nothing changed.
abbrev pub IsTakenIn : Addr → ℕ → ℕ → Taken → ℕ → ℕ → List Seat → List Room → List Seat → List Room → Type 0
IsTakenIn addr most now (taken.At i) last last' seats rooms seats' rooms' = IsPlaceFor seats addr most (Some i) × ((i < length seats → i < length rooms → IsPlaceChangedAt (λ _ _. IsEntered now last last') i seats rooms seats' rooms') × ((length seats ≤ i) ⊎ (length rooms ≤ i) → (seats' ≡ seats) × (rooms' ≡ rooms)))
IsTakenIn addr most now taken.Turned last last' seats rooms seats' rooms' = IsPlaceFor seats addr most None × (seats' ≡ seats) × (rooms' ≡ rooms)
IsTakenIn addr most now taken.Refused last last' seats rooms seats' rooms' = (seats' ≡ seats) × (rooms' ≡ rooms)
