-- Stream runs: what is written to conversations, by what was read of them, however it was cut (RFC 1035 section 4.2.2).
use Rattle.std.specs.Prelude.{◌≡◌, ℕ, ◌⊎◌, Bool, true, false, List, [], ◌∷◌, ◌++◌, All, MatchBool, count_by, take, map}
use Rattle.std.specs.List.{flat_map}
use Rattle.addr_text.specs.declared.address.Peer.{Peer}
use Rattle.outside.specs.Port.{Try}
use Rattle.outside.specs.Streams.{Piece, Talk}
use Rattle.tcp_frames.specs.Split.{IsSplit, framed}
use Rattle.lane_model.specs.Lanes.{Answers, Entry, IsLaneRun}

-- a piece that was read, the messages that it completed and that count, and the replies to them that were tried
pub record Round : Type 0 where
  pub piece : Piece
  pub entries : List Entry
  pub tries : List Try

-- the octets of a round's messages
abbrev pub messages_of : Round → List (List ℕ)
messages_of r = map (λ e. e.packet.octets) r.entries

-- What the worker knew at each message of a piece: what was known when the piece was read, and behind a reply that reply's serial. Each message that isn't silent has one reply.
abbrev pub AreKnownFrom : (List ℕ → Bool) → ℕ → List Entry → List Try → Type 0
AreKnownFrom silent known [] [] = Unit {0}
AreKnownFrom silent known [] (s ∷ tries) = ⊥
AreKnownFrom silent known (e ∷ entries) [] = (e.known ≡ known) × (silent e.packet.octets ≡ true) × AreKnownFrom silent known entries []
AreKnownFrom silent known (e ∷ entries) (s ∷ tries) = (e.known ≡ known) × MatchBool (silent e.packet.octets) (AreKnownFrom silent known entries (s ∷ tries)) (AreKnownFrom silent s.serial entries tries)

-- A round behind earlier octets and messages: all octets up to its piece split into all messages up to its own, and some that don't count. Its messages come from the peer.
pub record IsRound (silent : List ℕ → Bool) (peer : Peer) (octets : List ℕ) (messages more : List (List ℕ)) (r : Round) : Type 0 where
  pub split : IsSplit (octets ++ r.piece.octets) ((messages ++ messages_of r) ++ more)
  pub from : All (λ e. e.packet.from ≡ peer) r.entries
  pub known : AreKnownFrom silent r.piece.known r.entries r.tries

-- rounds behind earlier octets and messages, of which all messages count
abbrev pub AreRounds : (List ℕ → Bool) → Peer → List ℕ → List (List ℕ) → List Round → Type 0
AreRounds silent peer octets messages [] = Unit {0}
AreRounds silent peer octets messages (r ∷ rounds) = IsRound silent peer octets messages [] r × AreRounds silent peer (octets ++ r.piece.octets) (messages ++ messages_of r) rounds

-- a conversation of which all messages count: each reply that is due was written whole
pub record IsWhole (silent : List ℕ → Bool) (t : Talk) (taken : List Entry) (tries : List Try) : Type 0 where
  pub rounds : List Round
  pub pieces : t.pieces ≡ map (λ r. r.piece) rounds
  pub taken_are : taken ≡ flat_map (λ r. r.entries) rounds
  pub tries_are : tries ≡ flat_map (λ r. r.tries) rounds
  pub rounds_are : AreRounds silent t.peer [] [] rounds
  pub written : t.written ≡ flat_map (λ s. framed s.octets) tries
  pub went : All (λ s. s.went ≡ true) tries

-- the write of the reply to the last of these messages failed, which was the last one: its first octets were written
pub record HasFailed (silent : List ℕ → Bool) (entries : List Entry) (tries : List Try) (written : List ℕ) : Type 0 where
  pub earlier : List Entry
  pub due : Entry
  pub entries_are : entries ≡ earlier ++ due ∷ []
  pub spoken : silent due.packet.octets ≡ false
  pub before : List Try
  pub reply : Try
  pub octets : ℕ
  pub tries_are : tries ≡ before ++ reply ∷ []
  pub went : All (λ s. s.went ≡ true) before
  pub failed : reply.went ≡ false
  pub written_is : written ≡ flat_map (λ s. framed s.octets) before ++ take octets (framed reply.octets)

-- no map could be looked at for the message that was due: it has a reply, and neither it nor what follows was answered
pub record HasMissed (silent : List ℕ → Bool) (more : List (List ℕ)) (tries : List Try) (written : List ℕ) : Type 0 where
  pub due : List ℕ
  pub behind : List (List ℕ)
  pub more_are : more ≡ due ∷ behind
  pub spoken : silent due ≡ false
  pub went : All (λ s. s.went ≡ true) tries
  pub written_is : written ≡ flat_map (λ s. framed s.octets) tries

-- why a conversation's last piece may have messages that don't count, by whether it is blind: no map could be looked at, or a write failed
abbrev pub IsWhy : Bool → (List ℕ → Bool) → List Entry → List (List ℕ) → List Try → List ℕ → Type 0
IsWhy true silent entries more tries written = HasMissed silent more tries written
IsWhy false silent entries more tries written = HasFailed silent entries tries written

-- a conversation whose last piece has messages that don't count, if there are more of them
pub record IsTakenInPart (blind : Bool) (silent : List ℕ → Bool) (t : Talk) (taken : List Entry) (tries : List Try) : Type 0 where
  pub rounds : List Round
  pub last : Round
  pub more : List (List ℕ)
  pub pieces : t.pieces ≡ map (λ r. r.piece) rounds ++ last.piece ∷ []
  pub taken_are : taken ≡ flat_map (λ r. r.entries) rounds ++ last.entries
  pub tries_are : tries ≡ flat_map (λ r. r.tries) rounds ++ last.tries
  pub rounds_are : AreRounds silent t.peer [] [] rounds
  pub last_is : IsRound silent t.peer (flat_map (λ r. r.piece.octets) rounds) (flat_map messages_of rounds) more last
  pub why : IsWhy blind silent last.entries more tries t.written

-- what was read of a conversation, taken from it and written to it: one that is not blind misses no reply but behind a write that failed
abbrev pub IsTalk : Bool → (List ℕ → Bool) → Talk → List Entry → List Try → Type 0
IsTalk true silent t taken tries = IsTakenInPart true silent t taken tries
IsTalk false silent t taken tries = IsWhole silent t taken tries ⊎ IsTakenInPart false silent t taken tries

-- a conversation, whether it is blind, its messages that count, and the replies that were tried
pub record Conversation : Type 0 where
  pub talk : Talk
  pub blind : Bool
  pub taken : List Entry
  pub tries : List Try

-- A stream run of worker w over a history, from its message n on, where it knows `floor` before and that many of its looks are refused: the messages of all conversations, one after another, are a lane run; each conversation's replies were written to it; and as many conversations are blind as looks are refused, so each whole message of the others is taken, and has its reply unless it is silent, but behind a write that failed.
pub record IsStreamRun {V : Type 0} (a : Answers V) (h : List V) (w n floor refusals : ℕ) (talks : List Talk) (taken : List Entry) (tries : List Try) : Type 0 where
  pub conversations : List Conversation
  pub talks_are : talks ≡ map (λ c. c.talk) conversations
  pub taken_are : taken ≡ flat_map (λ c. c.taken) conversations
  pub tries_are : tries ≡ flat_map (λ c. c.tries) conversations
  pub each : All (λ c. IsTalk c.blind a.silent c.talk c.taken c.tries) conversations
  pub blinds : count_by (λ c. c.blind) conversations ≡ refusals
  pub run : IsLaneRun a h w n floor taken tries
