-- What streams in memory hold.
use Rattle.std.specs.Prelude.{◌≡◌, ℕ, ◌+◌, ◌-◌, ◌<◌, ◌≤◌, ◌⊎◌, Bool, true, false, List, [], ◌∷◌, ◌++◌, length, take, drop, Option, None, Some, IsSomeAnd, Contains, slice_get}
use Rattle.addr_text.specs.declared.address.Peer.{Peer}
use Rattle.outside.specs.Calls.{Counted}
use Rattle.outside.specs.Faults.{raised}
use Rattle.outside.specs.Streams.{Piece, StreamsTold, Talk, changed}
use Rattle.outside.specs.declared.mem_talk.MemPiece.{MemPiece}
use Rattle.outside.specs.declared.streams.Accepting.{Accepting}
use Rattle.outside.specs.declared.streams.Accepting.TheVariants as came
use Rattle.outside.specs.declared.streams.Reading.{Reading}
use Rattle.outside.specs.declared.streams.Reading.TheVariants as read
use Rattle.outside.specs.declared.streams.Writing.{Writing}
use Rattle.outside.specs.declared.streams.Writing.TheVariants as put

-- a piece, as it was noted
abbrev pub piece_of : MemPiece → Piece
piece_of piece = record { octets = piece.octets.items; known = piece.known; place = piece.place }

-- a conversation in memory: what was read and written, the pieces that are to come, and for how many written octets there is room
pub record TalkInMemory : Type 0 where
  pub talk : Talk
  pub coming : List (List ℕ)
  pub room : ℕ

-- a conversation of which nothing was read or written
abbrev pub fresh : Peer → Talk
fresh peer = record { peer = peer; pieces = []; quiets = 0; written = [] }

-- streams in memory: what they tell, the conversations that are to come, the one that is open, and the calls of each kind, accept and read being one
pub record StreamsInMemory : Type 0 where
  pub told : StreamsTold
  pub waiting : List TalkInMemory
  pub current : Option TalkInMemory
  pub opens : Counted
  pub answers : Counted
  pub writes : Counted

-- how many calls failed
abbrev pub streams_faults : StreamsInMemory → ℕ
streams_faults s = s.opens.faults + s.answers.faults + s.writes.faults

abbrev pub talk_of : Option TalkInMemory → Option Talk
talk_of None = None
talk_of (Some t) = Some t.talk

-- how many conversations are open
abbrev pub open_count : {T : Type 0} → Option T → ℕ
open_count None = 0
open_count (Some t) = 1

-- the pieces that are to come of the conversation that is open
abbrev pub coming_of : Option TalkInMemory → List (List ℕ)
coming_of None = []
coming_of (Some t) = t.coming

-- how many octets more the conversation that is open has room for
abbrev pub room_of : Option TalkInMemory → ℕ
room_of None = 0
room_of (Some t) = t.room - length t.talk.written

-- the conversation that is open has room for so many octets more
abbrev pub HasRoom : ℕ → Option TalkInMemory → Type 0
HasRoom size None = ⊥
HasRoom size (Some t) = size ≤ t.room - length t.talk.written

-- the next opening fails: it is to fail, or there was one
abbrev pub OpenFails : StreamsInMemory → Type 0
OpenFails s = Contains s.opens.fails s.opens.made ⊎ (1 ≤ length s.told.opens)

-- the next accept fails: it is to fail, and none has answered End
abbrev pub AcceptFails : StreamsInMemory → Type 0
AcceptFails s = (s.told.is_ended ≡ false) × Contains s.answers.fails s.answers.made

-- the next piece has more octets than so many
abbrev pub IsTooLong : ℕ → List (List ℕ) → Type 0
IsTooLong size coming = IsSomeAnd (slice_get coming 0) (λ piece. size < length piece)

-- the next read into a buffer of that size fails: it is to fail, or the next piece is longer
abbrev pub ReadFails : ℕ → StreamsInMemory → Type 0
ReadFails size s = Contains s.answers.fails s.answers.made ⊎ IsTooLong size (coming_of s.current)

-- the next write of so many octets fails: it is to fail, or there is no room for all of them
abbrev pub WriteFails : ℕ → StreamsInMemory → Type 0
WriteFails size s = Contains s.writes.fails s.writes.made ⊎ (¬ HasRoom size s.current)

-- the conversation that comes is the first one that waits, of which nothing was read or written yet
abbrev pub IsNextTalk : Accepting → StreamsInMemory → StreamsInMemory → Type 0
IsNextTalk (came.Come peer) before after = (t : TalkInMemory) × (before.waiting ≡ t ∷ after.waiting) × (t.talk.peer ≡ peer) × (after.current ≡ Some (record t { talk = fresh peer }))
IsNextTalk _ before after = (after.waiting ≡ before.waiting) × (after.current ≡ before.current)

-- a read gives the next piece, an empty one being a read that is quiet, and is closed where none is left
abbrev pub IsNextPiece : Reading → List ℕ → List (List ℕ) → List (List ℕ) → Type 0
IsNextPiece (read.Got n) buffer before after = (slice_get before 0 ≡ Some (take n buffer)) × (after ≡ drop 1 before)
IsNextPiece read.Quiet buffer before after = (slice_get before 0 ≡ Some []) × (after ≡ drop 1 before)
IsNextPiece read.Closed buffer before after = (before ≡ []) × (after ≡ before)
IsNextPiece read.Failed buffer before after = after ≡ before

-- what a conversation said
abbrev pub IsSaid : ℕ → ℕ → List ℕ → Reading → Talk → Talk → Type 0
IsSaid known place buffer (read.Got n) before after = after ≡ record before { pieces = before.pieces ++ (record { octets = take n buffer; known = known; place = place }) ∷ [] }
IsSaid known place buffer read.Quiet before after = after ≡ record before { quiets = raised before.quiets 1 }
IsSaid known place buffer read.Closed before after = after ≡ before
IsSaid known place buffer read.Failed before after = after ≡ before

-- what the conversation that is open said
abbrev pub HasHeard : ℕ → ℕ → List ℕ → Reading → Option Talk → Option Talk → Type 0
HasHeard known place buffer (read.Got n) before after = after ≡ changed (λ t. record t { pieces = t.pieces ++ (record { octets = take n buffer; known = known; place = place }) ∷ [] }) before
HasHeard known place buffer read.Quiet before after = after ≡ changed (λ t. record t { quiets = raised t.quiets 1 }) before
HasHeard known place buffer read.Closed before after = after ≡ before
HasHeard known place buffer read.Failed before after = after ≡ before

-- the accept failed
abbrev pub is_refused : Accepting → Bool
is_refused came.Failed = true
is_refused _ = false

-- the read failed
abbrev pub is_broken : Reading → Bool
is_broken read.Failed = true
is_broken _ = false

-- the write failed
abbrev pub is_cut : Writing → Bool
is_cut put.Done = false
is_cut put.Failed = true
