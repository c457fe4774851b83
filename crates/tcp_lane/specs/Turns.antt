-- The turns of a stream lane.
use Rattle.std.specs.Prelude.{◌≡◌, ℕ, ◌+◌, ◌≤◌, ◌==◌, Bool, true, false, List, [], ◌∷◌, ◌++◌, All, length, map, take, fold}
use Rattle.std.specs.List.{flat_map}
use Rattle.addr_text.specs.declared.address.Addr.TheVariants.{V4}
use Rattle.addr_text.specs.declared.address.Peer.{Peer}
use Rattle.outside.specs.Limits.{largest_datagram}
use Rattle.outside.specs.Streams.{StreamsTold, answered, answered_into, closing, coming, failing, hearing, resting, writing}
use Rattle.lane_model.specs.Turns.{Fate, Turn, took, silent, refused, tried}
use Rattle.lane_model.specs.Turns as lane
use Rattle.name_workers.specs.Messages.{known_after}
use Rattle.tcp_frames.specs.Split.{HasNoMessage, IsOverlong, framed}

-- what accept or read answered
pub data StreamCame : Type 0 where
  idle : StreamCame
  ended : StreamCame
  missed : StreamCame
  come : Peer → StreamCame
  got : List ℕ → StreamCame
  quiet : StreamCame
  shut : StreamCame
  broke : StreamCame

-- a message, what its worker knew, and what became of it
pub record Said : Type 0 where
  pub octets : List ℕ
  pub known : ℕ
  pub fate : Fate

-- One turn: what the gate was shown when it answered Go; the serials of the notes that were given before the None; what accept or read was handed, and what it answered; the messages that were taken from a piece, and from whom; how many octets of a reply whose write failed were written; and whether the conversation was closed.
pub record StreamTurn : Type 0 where
  pub shown : ℕ
  pub notes : List ℕ
  pub known : ℕ
  pub came : StreamCame
  pub peer : Peer
  pub said : List Said
  pub cut : ℕ
  pub closes : Bool

-- what an answer is to a lane
abbrev pub lane_came : StreamCame → lane.Came
lane_came idle = lane.idle
lane_came ended = lane.ended
lane_came missed = lane.failed
lane_came (come peer) = lane.idle
lane_came (got octets) = lane.idle
lane_came quiet = lane.idle
lane_came shut = lane.idle
lane_came broke = lane.failed

-- an answer of accept or read, as a turn of a lane in which no message is taken
abbrev pub lead_of : StreamTurn → Turn
lead_of t = record { shown = t.shown; notes = t.notes; known = t.known; came = lane_came t.came }

-- a message, as a turn of a lane without gate and notes
abbrev pub turn_of : Peer → Said → Turn
turn_of peer s = record { shown = s.known; notes = []; known = s.known; came = took (record { octets = s.octets; from = peer }) s.fate }

-- a turn as turns of a lane
abbrev pub turns_of : StreamTurn → List Turn
turns_of t = lead_of t ∷ map (turn_of t.peer) t.said

-- all turns as turns of a lane
abbrev pub lane_of : List StreamTurn → List Turn
lane_of log = flat_map turns_of log

-- what is written for a message
abbrev pub put_for : ℕ → StreamsTold → Fate → StreamsTold
put_for cut b silent = b
put_for cut b refused = b
put_for cut b (tried serial octets true) = writing serial (framed octets) b
put_for cut b (tried serial octets false) = failing (writing serial (take cut (framed octets)) b)

-- streams after a message
abbrev pub saying : ℕ → StreamsTold → Said → StreamsTold
saying cut b s = put_for cut b s.fate

-- how many octets a read is handed
abbrev pub piece_room : ℕ
piece_room = 4098

-- streams after an answer of accept or read
abbrev pub stream_after : ℕ → StreamCame → StreamsTold → StreamsTold
stream_after known idle b = answered known b
stream_after known ended b = record (answered known b) { is_ended = true }
stream_after known missed b = failing (answered known b)
stream_after known (come peer) b = coming peer (answered known b)
stream_after known (got octets) b = hearing (record { octets = octets; known = known; place = b.answers }) (answered_into known piece_room b)
stream_after known quiet b = resting (answered_into known piece_room b)
stream_after known shut b = answered_into known piece_room b
stream_after known broke b = failing (answered_into known piece_room b)

abbrev pub closing_if : Bool → StreamsTold → StreamsTold
closing_if true b = closing b
closing_if false b = b

-- streams after a turn
abbrev pub stream_turn : StreamsTold → StreamTurn → StreamsTold
stream_turn b t = closing_if t.closes (fold (saying t.cut) (stream_after t.known t.came b) t.said)

-- the conversation of a lane: whether one is open, with whom, the octets of its unfinished message, and how many reads in a row were quiet
pub record TalkState : Type 0 where
  pub is_open : Bool
  pub peer : Peer
  pub held : List ℕ
  pub quiets : ℕ

-- none is open, and none was
abbrev pub no_talk : TalkState
no_talk = record { is_open = false; peer = record { addr = V4 0; port = 0 }; held = []; quiets = 0 }

-- the message has no reply, or its reply was written
abbrev pub is_well : Fate → Bool
is_well silent = true
is_well refused = false
is_well (tried serial octets went) = went

abbrev pub AreWell : List Said → Type 0
AreWell said = All (λ s. is_well s.fate ≡ true) said

-- what a piece with its messages came to: the conversation goes on; its next length is too great; the write of a reply failed; the look for one was refused
pub data PieceEnd : Type 0 where
  on : PieceEnd
  long : PieceEnd
  lost : PieceEnd
  blind : PieceEnd

-- what a lane knows behind some messages
abbrev pub known_behind : ℕ → List Said → ℕ
known_behind known [] = known
known_behind known (s ∷ said) = known_behind (known_after known s.fate) said

-- what a lane knew at each of some messages: what it knew before the first one, and behind each what that leaves
abbrev pub AreKnown : ℕ → List Said → Type 0
AreKnown known [] = Unit {0}
AreKnown known (s ∷ said) = (s.known ≡ known) × AreKnown (known_after known s.fate) said

-- the last message came to that
abbrev pub IsBroken : (Fate → Type 0) → List Said → Type 0
IsBroken P said = (before : List Said) × (s : Said) × (said ≡ before ++ s ∷ []) × AreWell before × P s.fate

-- why no more messages were taken of a piece, of which so much is left
abbrev pub IsOver : PieceEnd → List Said → List ℕ → Type 0
IsOver on said rest = AreWell said × HasNoMessage rest × (IsOverlong rest → ⊥)
IsOver long said rest = AreWell said × HasNoMessage rest × IsOverlong rest
IsOver lost said rest = IsBroken (λ f. (serial : ℕ) × (octets : List ℕ) × (f ≡ tried serial octets false)) said
IsOver blind said rest = IsBroken (λ f. f ≡ refused) said

-- whether the conversation is closed then
abbrev pub is_closed_by : PieceEnd → Bool
is_closed_by on = false
is_closed_by long = true
is_closed_by lost = true
is_closed_by blind = true

-- the conversation goes on so, or was closed
abbrev pub IsLeft : Bool → TalkState → TalkState → Type 0
IsLeft true next after = after.is_open ≡ false
IsLeft false next after = after ≡ next

-- a piece was read, and all its whole messages were taken
pub record IsPiece (octets : List ℕ) (s : TalkState) (t : StreamTurn) (s' : TalkState) : Type 0 where
  pub from : t.peer ≡ s.peer
  pub rest : List ℕ
  pub ending : PieceEnd
  pub parts : s.held ++ octets ≡ flat_map (λ x. framed x.octets) t.said ++ rest
  pub short : All (λ x. length x.octets ≤ largest_datagram) t.said
  pub over : IsOver ending t.said rest
  pub closes : t.closes ≡ is_closed_by ending
  pub known : AreKnown t.known t.said
  pub left : IsLeft t.closes (record s { held = rest; quiets = 0 }) s'

-- how many reads in a row may be quiet
abbrev pub most_quiets : ℕ
most_quiets = 200

-- what a turn does to the conversation of a lane, by what was answered
abbrev pub IsRuled : StreamCame → TalkState → StreamTurn → TalkState → Type 0
IsRuled idle s t s' = (s.is_open ≡ false) × (t.said ≡ []) × (t.closes ≡ false) × (s' ≡ s)
IsRuled ended s t s' = (s.is_open ≡ false) × (t.said ≡ []) × (t.closes ≡ false) × (s' ≡ s)
IsRuled missed s t s' = (s.is_open ≡ false) × (t.said ≡ []) × (t.closes ≡ false) × (s' ≡ s)
IsRuled (come peer) s t s' = (s.is_open ≡ false) × (t.said ≡ []) × (t.closes ≡ false) × (s' ≡ record { is_open = true; peer = peer; held = []; quiets = 0 })
IsRuled (got octets) s t s' = (s.is_open ≡ true) × IsPiece octets s t s'
IsRuled quiet s t s' = (s.is_open ≡ true) × (t.said ≡ []) × (t.closes ≡ (s.quiets + 1 == most_quiets)) × IsLeft t.closes (record s { quiets = s.quiets + 1 }) s'
IsRuled shut s t s' = (s.is_open ≡ true) × (t.said ≡ []) × (t.closes ≡ true) × (s'.is_open ≡ false)
IsRuled broke s t s' = (s.is_open ≡ true) × (t.said ≡ []) × (t.closes ≡ true) × (s'.is_open ≡ false)
