-- Inside this crate alone: the steps of a stream lane's turn.
use Rattle.std.specs.Prelude.{◌≡◌, ℕ, ◌+◌, ◌<◌, ◌≤◌, ◌⊎◌, Bool, true, false, List, [], ◌∷◌, ◌++◌, All, length, map, take, fold}
use Rattle.std.specs.List.{flat_map}
use Rattle.addr_text.specs.declared.address.Peer.{Peer}
use Rattle.outside.specs.Faults.{BothTell, DeviceState, raised}
use Rattle.outside.specs.Limits.{largest_datagram}
use Rattle.outside.specs.Streams.{StreamsTold, failing, writing}
use Rattle.tcp_frames.specs.Split.{IsUnfinished, framed}
use Rattle.published_map.specs.Version.{Version}
use Rattle.answer_core.specs.declared.way.Way.TheVariants.{Stream}
use Rattle.lane_model.specs.Turns.{fails_of, is_calm, refused, tried}
use Rattle.lane_model.specs.Calls.{Eyes, AreTurns, Moment}
use Rattle.name_workers.specs.Loop.{Taking}
use Rattle.name_workers.specs.declared.ending.Step.{Step}
use Rattle.name_workers.specs.declared.ending.Step.TheVariants as step
use Rattle.name_workers.specs.declared.fared.Fared.{Fared}
use Rattle.name_workers.specs.declared.fared.Fared.TheVariants as fared
use Rattle.tcp_lane.specs.Replies.{stream_replies}
use Rattle.tcp_lane.specs.Turns.{AreKnown, AreWell, StreamCame, IsBroken, IsPiece, IsRuled, Said, StreamTurn, TalkState, lane_came, closing_if, ended, got, stream_after, known_behind, lead_of, no_talk, saying, stream_turn, turn_of}
use Rattle.tcp_lane.specs.Calls.{inner}

-- what the try of a reply does to streams: where it did not go, its first octets were written
abbrev pub writes : ℕ → List ℕ → Bool → StreamsTold → StreamsTold → Type 0
writes serial reply true b c = c ≡ writing serial (framed reply) b
writes serial reply false b c = (k : ℕ) × (c ≡ failing (writing serial (take k (framed reply)) b))

-- the lane goes on with the conversation
abbrev pub is_on : Fared → Bool
is_on fared.Silent = true
is_on fared.Sent = true
is_on fared.Failed = false
is_on fared.Refused = false

-- These messages were taken, one after another.
pub record AreSaid (w n n' : ℕ) (peer : Peer) (said : List Said) (cut : ℕ) (e f : Eyes Version) (p q : DeviceState StreamsTold) : Type 0 where
  pub session : AreTurns stream_replies w (map (turn_of peer) said) (inner e n p.faults) (inner f n' q.faults)
  pub told : BothTell p.past q.past (λ b c. c ≡ fold (saying cut) b said)
  pub known : (k : ℕ) → k + 1 ≡ length e.heard → AreKnown k said × (known_behind k said + 1 ≡ length f.heard)

-- why no more messages were taken
abbrev pub IsAnsweredBy : Fared → List Said → List ℕ → Type 0
IsAnsweredBy fared.Silent said rest = AreWell said × IsUnfinished rest
IsAnsweredBy fared.Sent said rest = ⊥
IsAnsweredBy fared.Failed said rest = IsBroken (λ f. (serial : ℕ) × (octets : List ℕ) × (f ≡ tried serial octets false)) said
IsAnsweredBy fared.Refused said rest = IsBroken (λ f. f ≡ refused) said

-- all whole messages at the front of octets were taken
pub record IsAnswered (w n n' : ℕ) (peer : Peer) (octets rest : List ℕ) (result : Fared) (e f : Eyes Version) (p q : DeviceState StreamsTold) : Type 0 where
  pub first : ℕ
  pub first_is : first + 1 ≡ length e.heard
  pub said : List Said
  pub cut : ℕ
  pub are_said : AreSaid w n n' peer said cut e f p q
  pub parts : octets ≡ flat_map (λ x. framed x.octets) said ++ rest
  pub short : All (λ x. length x.octets ≤ largest_datagram) said
  pub by : IsAnsweredBy result said rest

-- so far
pub record AreSoFar (w n n' : ℕ) (peer : Peer) (octets rest : List ℕ) (e f : Eyes Version) (p q : DeviceState StreamsTold) : Type 0 where
  pub said : List Said
  pub are_said : (cut : ℕ) → AreSaid w n n' peer said cut e f p q
  pub parts : octets ≡ flat_map (λ x. framed x.octets) said ++ rest
  pub short : All (λ x. length x.octets ≤ largest_datagram) said
  pub well : AreWell said

-- a turn without messages, but for its gate and notes
abbrev pub plain : ℕ → StreamCame → Peer → Bool → StreamTurn
plain known came peer closes = record { shown = 0; notes = []; known = known; came = came; peer = peer; said = []; cut = 0; closes = closes }

-- how a lane goes on behind an answer of accept or read, and the messages that were taken then
abbrev pub IsStepOf : Step → StreamCame → List Said → Type 0
IsStepOf step.Stopped came said = ⊥
IsStepOf step.On came said = AreWell said × (is_calm (lane_came came) ≡ true) × (fails_of (lane_came came) ≡ 0)
IsStepOf step.PortEnd came said = came ≡ ended
IsStepOf step.PortFailed came said = ((AreWell said × (fails_of (lane_came came) ≡ 1)) ⊎ (IsBroken (λ f. (serial : ℕ) × (octets : List ℕ) × (f ≡ tried serial octets false)) said × (fails_of (lane_came came) ≡ 0))) × (is_calm (lane_came came) ≡ true)
IsStepOf step.Refused came said = IsBroken (λ f. f ≡ refused) said × (is_calm (lane_came came) ≡ true) × (fails_of (lane_came came) ≡ 0)

-- what an answer of accept or read without a piece does
pub record IsPlain (known : ℕ) (l l' : TalkState) (s : Step) (p q : DeviceState StreamsTold) : Type 0 where
  pub came : StreamCame
  pub closes : Bool
  pub told : BothTell p.past q.past (λ b c. c ≡ closing_if closes (stream_after known came b))
  pub faults : raised p.faults (fails_of (lane_came came)) ≤ q.faults
  pub stays : fails_of (lane_came came) ≡ 0 → q.faults ≡ p.faults
  pub ruled : IsRuled came l (plain known came l.peer closes) l'
  pub step : IsStepOf s came []

-- what the messages of a piece do, behind its read
pub record IsPieceTaken (w n n' : ℕ) (octets : List ℕ) (l l' : TalkState) (s : Step) (e f : Eyes Version) (p q : DeviceState StreamsTold) : Type 0 where
  pub t : StreamTurn
  pub came : t.came ≡ got octets
  pub known_is : t.known + 1 ≡ length e.heard
  pub session : AreTurns stream_replies w (map (turn_of t.peer) t.said) (inner e n p.faults) (inner f n' q.faults)
  pub told : BothTell p.past q.past (λ b c. c ≡ closing_if t.closes (fold (saying t.cut) b t.said))
  pub piece : IsPiece octets l t l'
  pub step : IsStepOf s t.came t.said

-- what an answer of accept or read and the messages behind it do
pub record IsTaken (w n n' : ℕ) (l l' : TalkState) (s : Step) (e f : Eyes Version) (p q : DeviceState StreamsTold) : Type 0 where
  pub t : StreamTurn
  pub known_is : t.known + 1 ≡ length e.heard
  pub middle : ℕ
  pub faults : raised p.faults (fails_of (lane_came t.came)) ≤ middle
  pub stays : fails_of (lane_came t.came) ≡ 0 → middle ≡ p.faults
  pub session : AreTurns stream_replies w (map (turn_of t.peer) t.said) (inner e n middle) (inner f n' q.faults)
  pub told : BothTell p.past q.past (λ b c. c ≡ stream_turn b t)
  pub ruled : IsRuled t.came l t l'
  pub step : IsStepOf s t.came t.said

-- the rules and the messages of some turns, one after the other
abbrev pub AreHeld : ℕ → List StreamTurn → TalkState → TalkState → Type 0
AreHeld w [] l l' = l' ≡ l
AreHeld w (t ∷ log) l l' = (mid : TalkState) × IsRuled t.came l t mid × ((m : Moment Version) × (m' : Moment Version) × AreTurns stream_replies w (map (turn_of t.peer) t.said) m m') × AreHeld w log mid l'

-- conversations, as what a lane takes: each take is a turn that may have messages, in a room that holds the conversation
abbrev pub conversations : {S Q : Type 0} → (S → TalkState) → (Q → DeviceState StreamsTold) → Taking StreamTurn S Q
conversations state told = record {
  way = Stream;
  faults = λ q. (told q).faults;
  is_fresh = λ r. state r ≡ no_talk;
  is_ready = λ r. (state r).quiets < 200;
  lead = λ t. lead_of t;
  more = λ t. map (turn_of t.peer) t.said;
  does = λ t r r' q q'. BothTell (told q).past (told q').past (λ b c. c ≡ stream_turn b t) × IsRuled t.came (state r) t (state r');
  is_end = λ t. t.came ≡ ended;
  is_blind = λ t. IsBroken (λ f. f ≡ refused) t.said;
}
