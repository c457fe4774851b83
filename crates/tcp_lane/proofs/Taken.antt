-- What an answer of accept or read, and the messages behind it, do.
use Rattle.std.proofs.Common.{◌≡◌, ℕ, ◌+◌, ◌==◌, Bool, true, false, List, [], ◌++◌, length, map, fold, take, Option, refl, sym, ap, subst, ◌∙◌, arith, inl, inr}
use Rattle.addr_text.specs.declared.address.Peer.{Peer}
use Rattle.outside.specs.Faults.{BothTell, DeviceState, Rose}
use Rattle.outside.specs.Streams.{IsAccept, IsRead, StreamsTold, closing}
use Rattle.outside.specs.declared.streams.Accepting.TheVariants as came
use Rattle.outside.specs.declared.streams.Reading.TheVariants as read
use Rattle.published_map.specs.Version.{Version}
use Rattle.lane_model.specs.Calls.{Eyes, AreTurns}
use Rattle.tcp_lane.specs.Replies.{stream_replies}
use Rattle.lane_model.proofs.Runs.{tells_on}
use Rattle.name_workers.specs.Messages.{step_of_fared}
use Rattle.name_workers.specs.declared.fared.Fared.{Fared}
use Rattle.name_workers.specs.declared.fared.Fared.TheVariants as fared
use Rattle.name_workers.proofs.Called.{tells_as, tells_same}
use Rattle.name_workers.specs.declared.ending.Step.{Step}
use Rattle.name_workers.specs.declared.ending.Step.TheVariants as step
use Rattle.tcp_frames.specs.Split.{IsOverlong}
use Rattle.tcp_lane.specs.Turns.{AreKnown, AreWell, StreamCame, IsLeft, IsOver, PieceEnd, Said, TalkState, closing_if, is_closed_by, stream_after, saying, turn_of, idle, missed, come, got, quiet, shut, broke, on, long, lost, blind}
use Rattle.tcp_lane.specs.Calls.{inner}
use Rattle.tcp_lane.specs.Steps.{IsAnswered, IsPieceTaken, IsPlain, IsStepOf, IsTaken, is_on, plain}

none_well : AreWell []
none_well k d lt = absurd (omega (arith, lt))

pub accept_come : (known : ℕ) (peer : Peer) (held : List ℕ) (l : TalkState) (p q : DeviceState StreamsTold) → BothTell p.past q.past (IsAccept known (came.Come peer)) → q.faults ≡ p.faults → l.is_open ≡ false → held ≡ [] → IsPlain known l (record { is_open = true; peer = peer; held = held; quiets = 0 }) step.On p q
accept_come known peer held l p q told same closed is = record {
  came = come peer;
  closes = false;
  told = tells_as (IsAccept known (came.Come peer)) (λ b c. c ≡ stream_after known (come peer) b) p.past q.past (λ b c r. r.1) told;
  faults = omega (arith, same);
  stays = λ none. same;
  ruled = (closed, refl, refl, ap (λ h. record { is_open = true; peer = peer; held = h; quiets = 0 }) is);
  step = (none_well, refl, refl);
}

pub accept_idle : (known : ℕ) (l : TalkState) (p q : DeviceState StreamsTold) → BothTell p.past q.past (IsAccept known came.Idle) → q.faults ≡ p.faults → l.is_open ≡ false → IsPlain known l l step.On p q
accept_idle known l p q told same closed = record {
  came = idle;
  closes = false;
  told = tells_as (IsAccept known came.Idle) (λ b c. c ≡ stream_after known idle b) p.past q.past (λ b c r. r.1) told;
  faults = omega (arith, same);
  stays = λ none. same;
  ruled = (closed, refl, refl, refl);
  step = (none_well, refl, refl);
}

pub accept_failed : (known : ℕ) (l : TalkState) (p q : DeviceState StreamsTold) → BothTell p.past q.past (IsAccept known came.Failed) → Rose p.faults q.faults → l.is_open ≡ false → IsPlain known l l step.PortFailed p q
accept_failed known l p q told rose closed = record {
  came = missed;
  closes = false;
  told = tells_as (IsAccept known came.Failed) (λ b c. c ≡ stream_after known missed b) p.past q.past (λ b c r. r.1) told;
  faults = rose;
  stays = λ none. absurd (omega (arith, none));
  ruled = (closed, refl, refl, refl);
  step = (inl (none_well, refl), refl);
}

closed_by : (c : Bool) (x y z : Option StreamsTold) (f : StreamsTold → StreamsTold) → BothTell x y (λ b d. d ≡ f b) → BothTell y z (λ b d. d ≡ closing_if c b) → BothTell x z (λ b d. d ≡ closing_if c (f b))
closed_by c x y z f p q = tells_on x y z (λ b d. d ≡ f b) (λ b d. d ≡ closing_if c b) (λ b d. d ≡ closing_if c (f b)) (λ b d k u v. v ∙ ap (λ m. closing_if c m) u) p q

-- the messages of a piece were taken, and what it came to
piece_by : (ending : PieceEnd) (w n n' : ℕ) (octets whole rest : List ℕ) (r : Fared) (s : Step) (l l' : TalkState) (e f : Eyes Version) (p q v : DeviceState StreamsTold) → whole ≡ l.held ++ octets → (a : IsAnswered w n n' l.peer whole rest r e f p q)
    → IsOver ending a.said rest → BothTell q.past v.past (λ b c. c ≡ closing_if (is_closed_by ending) b) → v.faults ≡ q.faults → IsLeft (is_closed_by ending) (record l { held = rest; quiets = 0 }) l'
    → IsStepOf s (got octets) a.said → IsPieceTaken w n n' octets l l' s e f p v
piece_by ending w n n' octets whole rest r s l l' e f p q v at a over told same left st = record {
  t = record { shown = 0; notes = []; known = a.first; came = got octets; peer = l.peer; said = a.said; cut = a.cut; closes = is_closed_by ending };
  came = refl;
  known_is = a.first_is;
  session = subst (λ (k : ℕ). AreTurns stream_replies w (map (turn_of l.peer) a.said) (inner e n p.faults) (inner f n' k)) (sym same) a.are_said.session;
  told = closed_by (is_closed_by ending) p.past q.past v.past (λ b. fold (saying a.cut) b a.said) a.are_said.told told;
  piece = record { from = refl; rest = rest; ending = ending; known = (a.are_said.known a.first a.first_is).0; parts = sym at ∙ a.parts; short = a.short; over = over; closes = refl; left = left };
  step = st;
}

-- a message ended the conversation
pub piece_over : (w n n' : ℕ) (octets whole rest : List ℕ) (r : Fared) (s : Step) (l l' : TalkState) (e f : Eyes Version) (p q v : DeviceState StreamsTold) → whole ≡ l.held ++ octets → IsAnswered w n n' l.peer whole rest r e f p q → is_on r ≡ false → BothTell q.past v.past (λ b c. c ≡ closing b) → v.faults ≡ q.faults → l'.is_open ≡ false → s ≡ step_of_fared r
    → IsPieceTaken w n n' octets l l' s e f p v
piece_over w n n' octets whole rest fared.Silent s l l' e f p q v at a off told same closed st = absurd (cc off)
piece_over w n n' octets whole rest fared.Sent s l l' e f p q v at a off told same closed st = absurd (cc off)
piece_over w n n' octets whole rest fared.Failed s l l' e f p q v at a off told same closed st =
    subst (λ (k : Step). IsPieceTaken w n n' octets l l' k e f p v) (sym st) (piece_by lost w n n' octets whole rest fared.Failed step.PortFailed l l' e f p q v at a a.by told same closed (inr (a.by, refl), refl))
piece_over w n n' octets whole rest fared.Refused s l l' e f p q v at a off told same closed st =
    subst (λ (k : Step). IsPieceTaken w n n' octets l l' k e f p v) (sym st) (piece_by blind w n n' octets whole rest fared.Refused step.Refused l l' e f p q v at a a.by told same closed (a.by, refl, refl))

-- a length that is too great did
pub piece_long : (w n n' : ℕ) (octets whole rest : List ℕ) (r : Fared) (l l' : TalkState) (e f : Eyes Version) (p q v : DeviceState StreamsTold) → whole ≡ l.held ++ octets → IsAnswered w n n' l.peer whole rest r e f p q → is_on r ≡ true → IsOverlong rest → BothTell q.past v.past (λ b c. c ≡ closing b) → v.faults ≡ q.faults → l'.is_open ≡ false
    → IsPieceTaken w n n' octets l l' step.On e f p v
piece_long w n n' octets whole rest fared.Silent l l' e f p q v at a going is told same closed = piece_by long w n n' octets whole rest fared.Silent step.On l l' e f p q v at a (a.by.0, a.by.1.0, is) told same closed (a.by.0, refl, refl)
piece_long w n n' octets whole rest fared.Sent l l' e f p q v at a going is told same closed = absurd a.by
piece_long w n n' octets whole rest fared.Failed l l' e f p q v at a going is told same closed = absurd (cc going)
piece_long w n n' octets whole rest fared.Refused l l' e f p q v at a going is told same closed = absurd (cc going)

-- the conversation goes on
pub piece_on : (w n n' : ℕ) (octets whole rest held : List ℕ) (r : Fared) (l : TalkState) (e f : Eyes Version) (p q : DeviceState StreamsTold) → whole ≡ l.held ++ octets → IsAnswered w n n' l.peer whole rest r e f p q → is_on r ≡ true → (IsOverlong rest → ⊥) → held ≡ rest
    → IsPieceTaken w n n' octets l (record l { held = held; quiets = 0 }) step.On e f p q
piece_on w n n' octets whole rest held fared.Silent l e f p q at a going not_long is =
    piece_by on w n n' octets whole rest fared.Silent step.On l (record l { held = held; quiets = 0 }) e f p q q at a (a.by.0, a.by.1.0, not_long) (tells_same q.past) refl (ap (λ h. record l { held = h; quiets = 0 }) is) (a.by.0, refl, refl)
piece_on w n n' octets whole rest held fared.Sent l e f p q at a going not_long is = absurd a.by
piece_on w n n' octets whole rest held fared.Failed l e f p q at a going not_long is = absurd (cc going)
piece_on w n n' octets whole rest held fared.Refused l e f p q at a going not_long is = absurd (cc going)

-- an answer without a piece is a turn without messages
pub plain_taken : (w n known : ℕ) (l l' : TalkState) (s : Step) (e : Eyes Version) (p q : DeviceState StreamsTold) → IsPlain known l l' s p q → known + 1 ≡ length e.heard → IsTaken w n n l l' s e e p q
plain_taken w n known l l' s e p q x is = record {
  t = plain known x.came l.peer x.closes;
  known_is = is;
  middle = q.faults;
  faults = x.faults;
  stays = x.stays;
  session = refl;
  told = x.told;
  ruled = x.ruled;
  step = x.step;
}

known_as : (a b : ℕ) (said : List Said) → a ≡ b → AreKnown a said → AreKnown b said
known_as a b said is x = subst (λ (k : ℕ). AreKnown k said) is x

-- a piece was read
pub read_got : (w n n' known len size : ℕ) (buffer : List ℕ) (l l' : TalkState) (s : Step) (e f : Eyes Version) (p q v : DeviceState StreamsTold) → known + 1 ≡ length e.heard → size ≡ 4098 → l.is_open ≡ true → BothTell p.past q.past (IsRead known size buffer (read.Got len)) → q.faults ≡ p.faults
    → IsPieceTaken w n n' (take len buffer) l l' s e f q v → IsTaken w n n' l l' s e f p v
read_got w n n' known len size buffer l l' s e f p q v is room opened told same h =
    let at : BothTell p.past q.past (λ b c. c ≡ stream_after known (got (take len buffer)) b) = subst (λ (k : ℕ). BothTell p.past q.past (IsRead known k buffer (read.Got len))) room told in
    record {
      t = record h.t { known = known; came = got (take len buffer) };
      known_is = is;
      middle = q.faults;
      faults = omega (arith, same);
      stays = λ none. same;
      session = h.session;
      told = tells_on p.past q.past v.past (λ b c. c ≡ stream_after known (got (take len buffer)) b) (λ b c. c ≡ closing_if h.t.closes (fold (saying h.t.cut) b h.t.said)) (λ b c. c ≡ closing_if h.t.closes (fold (saying h.t.cut) (stream_after known (got (take len buffer)) b) h.t.said))
          (λ b c d x y. y ∙ ap (λ k. closing_if h.t.closes (fold (saying h.t.cut) k h.t.said)) x) at h.told;
      ruled = (opened, record { from = h.piece.from; rest = h.piece.rest; ending = h.piece.ending; parts = h.piece.parts; short = h.piece.short; over = h.piece.over; closes = h.piece.closes; known = known_as h.t.known known h.t.said (omega (arith, h.known_is, is)) h.piece.known; left = h.piece.left });
      step = subst (λ (c : StreamCame). IsStepOf s c h.t.said) h.came h.step;
    }

-- a read was quiet
pub read_quiet : (w n known size : ℕ) (buffer : List ℕ) (l l' : TalkState) (e : Eyes Version) (p q v : DeviceState StreamsTold) → known + 1 ≡ length e.heard → size ≡ 4098 → l.is_open ≡ true → BothTell p.past q.past (IsRead known size buffer read.Quiet) → q.faults ≡ p.faults
    → BothTell q.past v.past (λ b c. c ≡ closing_if (l.quiets + 1 == 200) b) → v.faults ≡ q.faults → IsLeft (l.quiets + 1 == 200) (record l { quiets = l.quiets + 1 }) l' → IsTaken w n n l l' step.On e e p v
read_quiet w n known size buffer l l' e p q v is room opened told same shutting later left =
    let at : BothTell p.past q.past (λ b c. c ≡ stream_after known quiet b) = subst (λ (k : ℕ). BothTell p.past q.past (IsRead known k buffer read.Quiet)) room told in
    plain_taken w n known l l' step.On e p v (record {
      came = quiet;
      closes = l.quiets + 1 == 200;
      told = closed_by (l.quiets + 1 == 200) p.past q.past v.past (λ b. stream_after known quiet b) at shutting;
      faults = omega (arith, same, later);
      stays = λ none. later ∙ same;
      ruled = (opened, refl, refl, left);
      step = (none_well, refl, refl);
    }) is

-- the peer is done
pub read_closed : (w n known size : ℕ) (buffer : List ℕ) (l l' : TalkState) (e : Eyes Version) (p q v : DeviceState StreamsTold) → known + 1 ≡ length e.heard → size ≡ 4098 → l.is_open ≡ true → BothTell p.past q.past (IsRead known size buffer read.Closed) → q.faults ≡ p.faults
    → BothTell q.past v.past (λ b c. c ≡ closing b) → v.faults ≡ q.faults → l'.is_open ≡ false → IsTaken w n n l l' step.On e e p v
read_closed w n known size buffer l l' e p q v is room opened told same shutting later left =
    let at : BothTell p.past q.past (λ b c. c ≡ stream_after known shut b) = subst (λ (k : ℕ). BothTell p.past q.past (IsRead known k buffer read.Closed)) room told in
    plain_taken w n known l l' step.On e p v (record {
      came = shut;
      closes = true;
      told = closed_by true p.past q.past v.past (λ b. stream_after known shut b) at shutting;
      faults = omega (arith, same, later);
      stays = λ none. later ∙ same;
      ruled = (opened, refl, refl, left);
      step = (none_well, refl, refl);
    }) is

-- a read failed
pub read_failed : (w n known size : ℕ) (buffer : List ℕ) (l l' : TalkState) (e : Eyes Version) (p q v : DeviceState StreamsTold) → known + 1 ≡ length e.heard → size ≡ 4098 → l.is_open ≡ true → BothTell p.past q.past (IsRead known size buffer read.Failed) → Rose p.faults q.faults
    → BothTell q.past v.past (λ b c. c ≡ closing b) → v.faults ≡ q.faults → l'.is_open ≡ false → IsTaken w n n l l' step.PortFailed e e p v
read_failed w n known size buffer l l' e p q v is room opened told rose shutting later left =
    let at : BothTell p.past q.past (λ b c. c ≡ stream_after known broke b) = subst (λ (k : ℕ). BothTell p.past q.past (IsRead known k buffer read.Failed)) room told in
    plain_taken w n known l l' step.PortFailed e p v (record {
      came = broke;
      closes = true;
      told = closed_by true p.past q.past v.past (λ b. stream_after known broke b) at shutting;
      faults = omega (arith, rose, later);
      stays = λ none. absurd (omega (arith, none));
      ruled = (opened, refl, refl, left);
      step = (inl (none_well, refl), refl);
    }) is
