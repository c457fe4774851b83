-- All turns of a lane are a stream run.
use Rattle.std.proofs.Common.{◌≡◌, ℕ, ◌+◌, ◌≤◌, ◌==◌, Bool, true, false, cond, List, [], ◌∷◌, ◌++◌, All, count_by, length, map, fold, Option, None, Some, refl, sym, ap, subst, ◌∙◌, arith, append_assoc, append-nil, inl, inr}
use Rattle.std.specs.Prelude.{sum_by}
use Rattle.std.specs.List.{flat_map}
use Rattle.std.proofs.lemmas.List.{map-append}
use Rattle.std.proofs.lemmas.List.Elements.{All-append, All-cons, All-nil, All-tail}
use Rattle.std.proofs.lemmas.List.Folds.{flat_map-map}
use Rattle.std.proofs.lemmas.List.Sums.{sum_by-append, sum_by-cons, sum_by_push}
use Rattle.std.proofs.lemmas.Grind.{flat_map-append}
use Rattle.addr_text.specs.declared.address.Peer.{Peer}
use Rattle.outside.specs.Faults.{raised}
use Rattle.outside.specs.Limits.{largest_datagram}
use Rattle.outside.specs.Port.{Try}
use Rattle.outside.specs.Streams.{Piece, StreamsTold, Talk, changed, closing, listed}
use Rattle.published_map.specs.Version.{Version}
use Rattle.answer_core.specs.declared.way.Way.TheVariants.{Stream}
use Rattle.lane_model.specs.Lanes.{Answers, Entry, IsLaneRun}
use Rattle.lane_model.specs.Turns.{Fate, IsFate, Turn, entries_of, entries_of_came, entries_of_fate, is_refused_fate, refused, refused_of, silent, took, tries_of, tries_of_came, tries_of_fate, tried}
use Rattle.lane_model.specs.Calls.{AreTurns, Moment}
use Rattle.lane_model.specs.Replies.{is_silent}
use Rattle.tcp_lane.specs.Replies.{stream_replies}
use Rattle.tcp_frames.specs.Split.{framed}
use Rattle.tcp_lane.specs.Stream.{AreKnownFrom, Conversation, IsStreamRun, IsTalk}
use Rattle.name_workers.specs.Messages.{known_after}
use Rattle.tcp_lane.specs.Turns.{AreWell, StreamCame, IsLeft, AreKnown, IsOver, IsRuled, PieceEnd, Said, StreamTurn, TalkState, lane_came, closing_if, stream_after, is_closed_by, is_well, lane_of, lead_of, saying, stream_turn, turn_of, turns_of, idle, ended, missed, come, got, quiet, shut, broke, on, long, lost, blind}
use Rattle.tcp_lane.specs.Calls.{stream_refusals}
use Rattle.tcp_lane.specs.Steps.{AreHeld}
use Rattle.tcp_lane.proofs.Known.{one_at}
use Rattle.tcp_lane.proofs.Talks.{IsNew, IsOpenTalk, blind_of, entries_in, lost_of, open_more, packet_of, put_all, puts, said_kept, tries_in, whole_of}

-- the conversation that is open, or that none is
abbrev pub IsNow : Bool → Option Talk → TalkState → List Entry → List Try → Type 0
IsNow true current l taken tries = (t : Talk) × (current ≡ Some t) × (t.peer ≡ l.peer) × IsOpenTalk t l.held taken tries
IsNow false current l taken tries = (current ≡ None) × (taken ≡ []) × (tries ≡ [])

-- what streams tell, what was taken and tried, and how many looks were refused, by then
pub record IsByThen (b0 b : StreamsTold) (l : TalkState) (taken : List Entry) (tries : List Try) (misses : ℕ) : Type 0 where
  pub conversations : List Conversation
  pub closed : b.closed ≡ b0.closed ++ map (λ c. c.talk) conversations
  pub each : All (λ c. IsTalk c.blind is_silent c.talk c.taken c.tries) conversations
  pub blinds : count_by (λ c. c.blind) conversations ≡ misses
  pub now_taken : List Entry
  pub now_tries : List Try
  pub taken_are : taken ≡ flat_map (λ c. c.taken) conversations ++ now_taken
  pub tries_are : tries ≡ flat_map (λ c. c.tries) conversations ++ now_tries
  pub now : IsNow l.is_open b.current l now_taken now_tries

pub at_first : (b : StreamsTold) (l : TalkState) → l.is_open ≡ false → b.current ≡ None → IsByThen b b l [] [] 0
at_first b l is_shut none = record {
  conversations = [];
  closed = sym (append-nil b.closed);
  each = All-nil (λ (c : Conversation). IsTalk c.blind is_silent c.talk c.taken c.tries);
  blinds = refl;
  now_taken = [];
  now_tries = [];
  taken_are = refl;
  tries_are = refl;
  now = subst (λ (o : Bool). IsNow o b.current l [] []) (sym is_shut) (none, refl, refl);
}

-- the open conversation, taken out
opened : (o : Bool) (current : Option Talk) (l : TalkState) (taken : List Entry) (tries : List Try) → o ≡ true → IsNow o current l taken tries → (t : Talk) × (current ≡ Some t) × (t.peer ≡ l.peer) × IsOpenTalk t l.held taken tries
opened true current l taken tries is n = n
opened false current l taken tries is n = absurd (cc is)

unopened : (o : Bool) (current : Option Talk) (l : TalkState) (taken : List Entry) (tries : List Try) → o ≡ false → IsNow o current l taken tries → (current ≡ None) × (taken ≡ []) × (tries ≡ [])
unopened false current l taken tries is n = n
unopened true current l taken tries is n = absurd (cc is)

-- nothing of a conversation changes
same_then : (b0 b b' : StreamsTold) (l : TalkState) (taken : List Entry) (tries : List Try) (misses : ℕ) → IsByThen b0 b l taken tries misses → b'.closed ≡ b.closed → b'.current ≡ b.current → IsByThen b0 b' l taken tries misses
same_then b0 b b' l taken tries misses i closed current = record {
  conversations = i.conversations;
  closed = closed ∙ i.closed;
  each = i.each;
  blinds = i.blinds;
  now_taken = i.now_taken;
  now_tries = i.now_tries;
  taken_are = i.taken_are;
  tries_are = i.tries_are;
  now = subst (λ (o : Option Talk). IsNow l.is_open o l i.now_taken i.now_tries) (sym current) i.now;
}

-- one begins
come_then : (b0 b b' : StreamsTold) (l l' : TalkState) (taken : List Entry) (tries : List Try) (misses : ℕ) (peer : Peer) → IsByThen b0 b l taken tries misses → l.is_open ≡ false → b'.closed ≡ b.closed → b'.current ≡ Some (record { peer = peer; pieces = []; quiets = 0; written = [] }) → l' ≡ record { is_open = true; peer = peer; held = []; quiets = 0 } → IsByThen b0 b' l' taken tries misses
come_then b0 b b' l l' taken tries misses peer i is_shut closed current is =
    let none = unopened l.is_open b.current l i.now_taken i.now_tries is_shut i.now in
    record {
      conversations = i.conversations;
      closed = closed ∙ i.closed;
      each = i.each;
      blinds = i.blinds;
      now_taken = [];
      now_tries = [];
      taken_are = i.taken_are ∙ ap (λ x. flat_map (λ (c : Conversation). c.taken) i.conversations ++ x) none.1;
      tries_are = i.tries_are ∙ ap (λ x. flat_map (λ (c : Conversation). c.tries) i.conversations ++ x) none.2;
      now = subst (λ (k : TalkState). IsNow k.is_open b'.current k [] []) (sym is) (
        record { peer = peer; pieces = []; quiets = 0; written = [] },
        current,
        refl,
        record {
          rounds = [];
          pieces = refl;
          taken_are = refl;
          tries_are = refl;
          rounds_are = tt;
          octets = refl;
          short = All-nil (λ (m : List ℕ). length m ≤ largest_datagram);
          written = refl;
          went = All-nil (λ (s : Try). s.went ≡ true);
        },
      );
    }

none_missed : (n : ℕ) → n ≡ n + 0
none_missed n = omega arith

-- the open one goes on
open_then : (b0 b b' : StreamsTold) (l l' : TalkState) (taken more : List Entry) (tries further : List Try) (misses : ℕ) (i : IsByThen b0 b l taken tries misses) (t : Talk) → b'.closed ≡ b.closed → b'.current ≡ Some t → l'.is_open ≡ true → t.peer ≡ l'.peer → IsOpenTalk t l'.held (i.now_taken ++ more) (i.now_tries ++ further) → IsByThen b0 b' l' (taken ++ more) (tries ++ further) (misses + 0)
open_then b0 b b' l l' taken more tries further misses i t closed current is peer o = record {
  conversations = i.conversations;
  closed = closed ∙ i.closed;
  each = i.each;
  blinds = i.blinds ∙ none_missed misses;
  now_taken = i.now_taken ++ more;
  now_tries = i.now_tries ++ further;
  taken_are = ap (λ x. x ++ more) i.taken_are ∙ append_assoc (flat_map (λ (c : Conversation). c.taken) i.conversations) i.now_taken more;
  tries_are = ap (λ x. x ++ further) i.tries_are ∙ append_assoc (flat_map (λ (c : Conversation). c.tries) i.conversations) i.now_tries further;
  now = subst (λ (k : Bool). IsNow k b'.current l' (i.now_taken ++ more) (i.now_tries ++ further)) (sym is) (t, current, peer, o);
}

flat_more : {X A : Type 0} (f : X → List A) (xs : List X) (x : X) → flat_map f (xs ++ x ∷ []) ≡ flat_map f xs ++ f x
flat_more f xs x = flat_map-append f xs (x ∷ []) ∙ ap (λ l. flat_map f xs ++ l) (append-nil (f x))

-- the open one is closed
close_then : (b0 b b' : StreamsTold) (l l' : TalkState) (taken more : List Entry) (tries further : List Try) (misses : ℕ) (i : IsByThen b0 b l taken tries misses) (is_blind : Bool) (t : Talk) → b'.closed ≡ b.closed ++ t ∷ [] → b'.current ≡ None → l'.is_open ≡ false → IsTalk is_blind is_silent t (i.now_taken ++ more) (i.now_tries ++ further) → IsByThen b0 b' l' (taken ++ more) (tries ++ further) (misses + cond is_blind 1 0)
close_then b0 b b' l l' taken more tries further misses i is_blind t closed current is talk =
    let c : Conversation = record { talk = t; blind = is_blind; taken = i.now_taken ++ more; tries = i.now_tries ++ further } in
    record {
      conversations = i.conversations ++ c ∷ [];
      closed = closed ∙ (ap (λ x. x ++ t ∷ []) i.closed ∙ (append_assoc b0.closed (map (λ (x : Conversation). x.talk) i.conversations) (t ∷ []) ∙ ap (λ x. b0.closed ++ x) (sym (map-append (λ (x : Conversation). x.talk) i.conversations (c ∷ [])))));
      each = All-append (λ (x : Conversation). IsTalk x.blind is_silent x.talk x.taken x.tries) i.conversations (c ∷ []) i.each (All-cons (λ (x : Conversation). IsTalk x.blind is_silent x.talk x.taken x.tries) c [] talk (All-nil (λ (x : Conversation). IsTalk x.blind is_silent x.talk x.taken x.tries)));
      blinds = sum_by_push (λ (x : Conversation). cond x.blind 1 0) i.conversations c ∙ ap (λ x. x + cond is_blind 1 0) i.blinds;
      now_taken = [];
      now_tries = [];
      taken_are = ap (λ x. x ++ more) i.taken_are ∙ (append_assoc (flat_map (λ (x : Conversation). x.taken) i.conversations) i.now_taken more ∙ (sym (flat_more (λ (x : Conversation). x.taken) i.conversations c) ∙ sym (append-nil (flat_map (λ (x : Conversation). x.taken) (i.conversations ++ c ∷ [])))));
      tries_are = ap (λ x. x ++ further) i.tries_are ∙ (append_assoc (flat_map (λ (x : Conversation). x.tries) i.conversations) i.now_tries further ∙ (sym (flat_more (λ (x : Conversation). x.tries) i.conversations c) ∙ sym (append-nil (flat_map (λ (x : Conversation). x.tries) (i.conversations ++ c ∷ [])))));
      now = subst (λ (k : Bool). IsNow k b'.current l' [] []) (sym is) (current, refl, refl);
    }

-- nothing more was taken
more_none : (b0 b : StreamsTold) (l : TalkState) (taken : List Entry) (tries : List Try) (misses : ℕ) → IsByThen b0 b l (taken ++ []) (tries ++ []) (misses + 0) → IsByThen b0 b l taken tries misses
more_none b0 b l taken tries misses i =
    subst (λ (x : ℕ). IsByThen b0 b l taken tries x) (sym (none_missed misses)) (subst (λ (x : List Entry). IsByThen b0 b l x tries (misses + 0)) (append-nil taken) (subst (λ (x : List Try). IsByThen b0 b l (taken ++ []) x (misses + 0)) (append-nil tries) i))

-- an open conversation, but for how many reads were quiet
quieter : (t : Talk) (n : ℕ) (held : List ℕ) (taken : List Entry) (tries : List Try) → IsOpenTalk t held taken tries → IsOpenTalk (record t { quiets = n }) held taken tries
quieter t n held taken tries o = record { rounds = o.rounds; pieces = o.pieces; taken_are = o.taken_are; tries_are = o.tries_are; rounds_are = o.rounds_are; octets = o.octets; short = o.short; written = o.written; went = o.went }

same_lists : (t : Talk) (held : List ℕ) (taken : List Entry) (tries : List Try) → IsOpenTalk t held taken tries → IsOpenTalk t held (taken ++ []) (tries ++ [])
same_lists t held taken tries o = subst (λ (x : List Entry). IsOpenTalk t held x (tries ++ [])) (sym (append-nil taken)) (subst (λ (x : List Try). IsOpenTalk t held taken x) (sym (append-nil tries)) o)

-- messages of a lane's turns are those that were taken
said_entries : (peer : Peer) (said : List Said) → entries_of Stream (map (turn_of peer) said) ≡ entries_in peer said
said_entries peer [] = refl
said_entries peer (s ∷ said) = ap (λ l. entries_of_fate Stream (record { octets = s.octets; from = peer }) s.known s.fate ++ l) (said_entries peer said)

said_tries : (peer : Peer) (said : List Said) → tries_of (map (turn_of peer) said) ≡ tries_in peer said
said_tries peer [] = refl
said_tries peer (s ∷ said) = ap (λ l. tries_of_fate (record { octets = s.octets; from = peer }) s.fate ++ l) (said_tries peer said)

-- what was known at messages that were taken
known_at : (w known : ℕ) (peer : Peer) (said : List Said) (m m' : Moment Version) → AreTurns stream_replies w (map (turn_of peer) said) m m' → AreKnown known said → AreKnownFrom is_silent known (entries_in peer said) (tries_in peer said)
known_at w known peer [] m m' s a = tt
known_at w known peer (x ∷ said) m m' s a =
    let rest = known_at w (known_after known x.fate) peer said s.0 m' s.2 a.1 in
    let one = one_at s.0.eyes.seen w m.count x.known (packet_of peer x) x.fate (entries_in peer said) (tries_in peer said) s.1.came (subst (λ (k : ℕ). AreKnownFrom is_silent (known_after k x.fate) (entries_in peer said) (tries_in peer said)) (sym a.0) rest) in
    subst (λ (k : ℕ). AreKnownFrom is_silent k (entries_in peer (x ∷ said)) (tries_in peer (x ∷ said))) a.0 one

-- a message for which the look was refused has a reply
spoken_by : (w : ℕ) (peer : Peer) (before : List Said) (x : Said) (m m' : Moment Version) → AreTurns stream_replies w (map (turn_of peer) (before ++ x ∷ [])) m m' → x.fate ≡ refused → is_silent x.octets ≡ false
spoken_by w peer [] x m m' s f = subst (λ (k : Fate). IsFate stream_replies s.0.eyes.seen w m.count x.known (record { octets = x.octets; from = peer }) k) f s.1.came
spoken_by w peer (y ∷ before) x m m' s f = spoken_by w peer before x s.0 m' s.2 f

-- and so has one whose reply was tried
spoken_lost : (w : ℕ) (peer : Peer) (before : List Said) (x : Said) (serial : ℕ) (reply : List ℕ) (m m' : Moment Version) → AreTurns stream_replies w (map (turn_of peer) (before ++ x ∷ [])) m m' → x.fate ≡ tried serial reply false → is_silent x.octets ≡ false
spoken_lost w peer [] x serial reply m m' s f = (subst (λ (k : Fate). IsFate stream_replies s.0.eyes.seen w m.count x.known (record { octets = x.octets; from = peer }) k) f s.1.came).0
spoken_lost w peer (y ∷ before) x serial reply m m' s f = spoken_lost w peer before x serial reply s.0 m' s.2 f

all_map : {A B : Type 0} (f : A → B) (P : B → Type 0) (xs : List A) → All (λ x. P (f x)) xs → All P (map f xs)
all_map f P [] a = All-nil P
all_map f P (x ∷ xs) a = All-cons P (f x) (map f xs) (a 0 x (omega arith)) (all_map f P xs (All-tail (λ y. P (f y)) x xs a))

-- the open conversation with a piece more and what was put for its messages
record IsAfter (b b2 : StreamsTold) (t0 : Talk) (octets : List ℕ) (known place : ℕ) (put : List ℕ) : Type 0 where
  talk : Talk
  current : b2.current ≡ Some talk
  closed : b2.closed ≡ b.closed
  peer : talk.peer ≡ t0.peer
  pieces : talk.pieces ≡ t0.pieces ++ (record { octets = octets; known = known; place = place }) ∷ []
  written : talk.written ≡ t0.written ++ put

after_piece : (cut known : ℕ) (octets : List ℕ) (said : List Said) (b : StreamsTold) (t0 : Talk) → b.current ≡ Some t0 → IsAfter b (fold (saying cut) (stream_after known (got octets) b) said) t0 octets known b.answers (puts cut said)
after_piece cut known octets said b t0 e =
    let p : Piece = record { octets = octets; known = known; place = b.answers } in
    let put = put_all cut said (stream_after known (got octets) b) (record t0 { pieces = t0.pieces ++ p ∷ [] }) (ap (λ o. changed (λ x. record x { pieces = x.pieces ++ p ∷ [] }) o) e) in
    record { talk = put.talk; current = put.current; closed = put.closed; peer = put.peer; pieces = put.pieces; written = put.written }

closing_then : (b0 b b2 : StreamsTold) (l l' : TalkState) (taken more : List Entry) (tries further : List Try) (misses : ℕ) (i : IsByThen b0 b l taken tries misses) (is_blind : Bool) (t : Talk) → b2.current ≡ Some t → b2.closed ≡ b.closed → l'.is_open ≡ false → IsTalk is_blind is_silent t (i.now_taken ++ more) (i.now_tries ++ further) → IsByThen b0 (closing b2) l' (taken ++ more) (tries ++ further) (misses + cond is_blind 1 0)
closing_then b0 b b2 l l' taken more tries further misses i is_blind t current closed is talk =
    close_then b0 b (closing b2) l l' taken more tries further misses i is_blind t (ap (λ x. b2.closed ++ listed x) current ∙ ap (λ x. x ++ t ∷ []) closed) refl is talk

-- the look for a message of a piece was refused
abbrev is_blind_by : PieceEnd → Bool
is_blind_by on = false
is_blind_by long = false
is_blind_by lost = false
is_blind_by blind = true

-- what a piece with its messages came to, by its way
piece_by : (ending : PieceEnd) (b0 b : StreamsTold) (l l' : TalkState) (taken : List Entry) (tries : List Try) (misses : ℕ) (i : IsByThen b0 b l taken tries misses) (t0 : Talk) (b2 : StreamsTold) (octets rest : List ℕ) (said : List Said) (cut known place w : ℕ) (m m' : Moment Version) → IsOpenTalk t0 l.held i.now_taken i.now_tries → t0.peer ≡ l.peer → IsAfter b b2 t0 octets known place (puts cut said)
    → l.held ++ octets ≡ flat_map framed (map (λ x. x.octets) said) ++ rest → All (λ x. length x ≤ largest_datagram) (map (λ x. x.octets) said) → IsOver ending said rest → IsLeft (is_closed_by ending) (record l { held = rest; quiets = 0 }) l' → l.is_open ≡ true → AreTurns stream_replies w (map (turn_of t0.peer) said) m m' → AreKnown known said
    → IsByThen b0 (closing_if (is_closed_by ending) b2) l' (taken ++ entries_in t0.peer said) (tries ++ tries_in t0.peer said) (misses + cond (is_blind_by ending) 1 0)
piece_by on b0 b l l' taken tries misses i t0 b2 octets rest said cut known place w m m' o peer a parts short over left is s kn =
    let n : IsNew t0 a.talk l.held octets rest said known place (puts cut said) = record { peer = a.peer; pieces = a.pieces; written_is = a.written; parts = parts; short = short; knows = known_at w known t0.peer said m m' s kn; kept = said_kept said over.0 } in
    open_then b0 b b2 l l' taken (entries_in t0.peer said) tries (tries_in t0.peer said) misses i a.talk a.closed a.current (ap (λ k. k.is_open) left ∙ is) (a.peer ∙ (peer ∙ sym (ap (λ k. k.peer) left)))
    (subst (λ (h : List ℕ). IsOpenTalk a.talk h (i.now_taken ++ entries_in t0.peer said) (i.now_tries ++ tries_in t0.peer said)) (sym (ap (λ k. k.held) left)) (open_more t0 a.talk l.held octets rest said cut known place i.now_taken i.now_tries o n over.1 over.0))
piece_by long b0 b l l' taken tries misses i t0 b2 octets rest said cut known place w m m' o peer a parts short over left is s kn =
    let n : IsNew t0 a.talk l.held octets rest said known place (puts cut said) = record { peer = a.peer; pieces = a.pieces; written_is = a.written; parts = parts; short = short; knows = known_at w known t0.peer said m m' s kn; kept = said_kept said over.0 } in
    closing_then b0 b b2 l l' taken (entries_in t0.peer said) tries (tries_in t0.peer said) misses i false a.talk a.current a.closed left (inl (whole_of a.talk rest (i.now_taken ++ entries_in t0.peer said) (i.now_tries ++ tries_in t0.peer said) (open_more t0 a.talk l.held octets rest said cut known place i.now_taken i.now_tries o n over.1 over.0)))
piece_by lost b0 b l l' taken tries misses i t0 b2 octets rest said cut known place w m m' o peer a parts short over left is s kn =
    let kept : All (λ (x : Said). is_refused_fate x.fate ≡ false) said = subst (λ (k : List Said). All (λ x. is_refused_fate x.fate ≡ false) k) (sym over.2) (All-append (λ (x : Said). is_refused_fate x.fate ≡ false) over.0 (over.1 ∷ []) (said_kept over.0 over.3) (All-cons (λ (x : Said). is_refused_fate x.fate ≡ false) over.1 [] (ap (λ f. is_refused_fate f) over.4.2) (All-nil (λ (x : Said). is_refused_fate x.fate ≡ false)))) in
    let n : IsNew t0 a.talk l.held octets rest said known place (puts cut said) = record { peer = a.peer; pieces = a.pieces; written_is = a.written; parts = parts; short = short; knows = known_at w known t0.peer said m m' s kn; kept = kept } in
    let lost_spoken = spoken_lost w t0.peer over.0 over.1 over.4.0 over.4.1 m m' (subst (λ (k : List Said). AreTurns stream_replies w (map (turn_of t0.peer) k) m m') over.2 s) over.4.2 in
    closing_then b0 b b2 l l' taken (entries_in t0.peer said) tries (tries_in t0.peer said) misses i false a.talk a.current a.closed left (inr (lost_of t0 a.talk l.held octets rest said over.0 over.1 over.4.0 over.4.1 cut known place i.now_taken i.now_tries o n over.2 over.3 over.4.2 lost_spoken))
piece_by blind b0 b l l' taken tries misses i t0 b2 octets rest said cut known place w m m' o peer a parts short over left is s kn =
    let knows = known_at w known t0.peer said m m' s kn in
    let spoken = spoken_by w t0.peer over.0 over.1 m m' (subst (λ (k : List Said). AreTurns stream_replies w (map (turn_of t0.peer) k) m m') over.2 s) over.4 in
    closing_then b0 b b2 l l' taken (entries_in t0.peer said) tries (tries_in t0.peer said) misses i true a.talk a.current a.closed left (blind_of t0 a.talk l.held octets rest said over.0 over.1 cut known place i.now_taken i.now_tries o a.peer a.pieces a.written parts short knows over.2 over.3 over.4 spoken)

-- how many looks for some messages were refused
abbrev pub misses_in : Peer → List Said → ℕ
misses_in peer said = sum_by (λ (t : Turn). refused_of t.came) (map (turn_of peer) said)

well_missed : (peer : Peer) (octets : List ℕ) (f : Fate) → is_well f ≡ true → refused_of (took (record { octets = octets; from = peer }) f) ≡ 0
well_missed peer octets silent e = refl
well_missed peer octets refused e = absurd (cc e)
well_missed peer octets (tried serial reply went) e = refl

said_missed : (peer : Peer) (said : List Said) → AreWell said → misses_in peer said ≡ 0
said_missed peer [] a = refl
said_missed peer (s ∷ said) a =
    let count = sum_by-cons (λ (t : Turn). refused_of t.came) (turn_of peer s) (map (turn_of peer) said) in
    let one = well_missed peer s.octets s.fate (a 0 s (omega arith)) in
    let rest = said_missed peer said (All-tail (λ (x : Said). is_well x.fate ≡ true) s said a) in
    omega (arith, count, one, rest)

-- all but the last of some messages went well
last_missed : (peer : Peer) (said before : List Said) (s : Said) → said ≡ before ++ s ∷ [] → AreWell before → misses_in peer said ≡ refused_of (turn_of peer s).came
last_missed peer said before s is well =
    let all : misses_in peer said ≡ misses_in peer before + refused_of (turn_of peer s).came =
    ap (misses_in peer) is ∙ (ap (sum_by (λ (t : Turn). refused_of t.came)) (map-append (turn_of peer) before (s ∷ [])) ∙ sum_by_push (λ (t : Turn). refused_of t.came) (map (turn_of peer) before) (turn_of peer s)) in
    omega (arith, all, said_missed peer before well)

over_missed : (ending : PieceEnd) (peer : Peer) (said : List Said) (rest : List ℕ) → IsOver ending said rest → misses_in peer said ≡ cond (is_blind_by ending) 1 0
over_missed on peer said rest over = said_missed peer said over.0
over_missed long peer said rest over = said_missed peer said over.0
over_missed lost peer said rest over = last_missed peer said over.0 over.1 over.2 over.3 ∙ ap (λ f. refused_of (took (record { octets = over.1.octets; from = peer }) f)) over.4.2
over_missed blind peer said rest over = last_missed peer said over.0 over.1 over.2 over.3 ∙ ap (λ f. refused_of (took (record { octets = over.1.octets; from = peer }) f)) over.4

-- a turn without messages
none_then : (h : StreamCame) (b0 b : StreamsTold) (t : StreamTurn) (l' : TalkState) (taken : List Entry) (tries : List Try) (misses : ℕ) (closes : Bool) → t.said ≡ [] → t.closes ≡ closes → IsByThen b0 (closing_if closes (stream_after t.known h b)) l' (taken ++ []) (tries ++ []) (misses + 0) → IsByThen b0 (closing_if t.closes (fold (saying t.cut) (stream_after t.known h b) t.said)) l' (taken ++ entries_in t.peer t.said) (tries ++ tries_in t.peer t.said) (misses + misses_in t.peer t.said)
none_then h b0 b t l' taken tries misses closes none is x =
    subst (λ (said : List Said). IsByThen b0 (closing_if t.closes (fold (saying t.cut) (stream_after t.known h b) said)) l' (taken ++ entries_in t.peer said) (tries ++ tries_in t.peer said) (misses + misses_in t.peer said)) (sym none)
    (subst (λ (c : Bool). IsByThen b0 (closing_if c (stream_after t.known h b)) l' (taken ++ []) (tries ++ []) (misses + 0)) (sym is) x)

more_nothing : (b0 b : StreamsTold) (l : TalkState) (taken : List Entry) (tries : List Try) (misses : ℕ) → IsByThen b0 b l taken tries misses → IsByThen b0 b l (taken ++ []) (tries ++ []) (misses + 0)
more_nothing b0 b l taken tries misses i =
    subst (λ (x : ℕ). IsByThen b0 b l (taken ++ []) (tries ++ []) x) (none_missed misses) (subst (λ (x : List Entry). IsByThen b0 b l x (tries ++ []) misses) (sym (append-nil taken)) (subst (λ (x : List Try). IsByThen b0 b l taken x misses) (sym (append-nil tries)) i))

-- a conversation that is closed without more
shut_then : (b0 b b2 : StreamsTold) (l l' : TalkState) (taken : List Entry) (tries : List Try) (misses : ℕ) → IsByThen b0 b l taken tries misses → l.is_open ≡ true → b2.closed ≡ b.closed → b2.current ≡ b.current → l'.is_open ≡ false → IsByThen b0 (closing b2) l' (taken ++ []) (tries ++ []) (misses + 0)
shut_then b0 b b2 l l' taken tries misses i is closed current left =
    let op = opened l.is_open b.current l i.now_taken i.now_tries is i.now in
    closing_then b0 b b2 l l' taken [] tries [] misses i false op.0 (current ∙ op.1) closed left (inl (whole_of op.0 l.held (i.now_taken ++ []) (i.now_tries ++ []) (same_lists op.0 l.held i.now_taken i.now_tries op.3)))

quiet_then : (c : Bool) (known : ℕ) (b0 b : StreamsTold) (l l' : TalkState) (taken : List Entry) (tries : List Try) (misses : ℕ) → IsByThen b0 b l taken tries misses → l.is_open ≡ true → IsLeft c (record l { quiets = l.quiets + 1 }) l' → IsByThen b0 (closing_if c (stream_after known quiet b)) l' (taken ++ []) (tries ++ []) (misses + 0)
quiet_then true known b0 b l l' taken tries misses i is left =
    let op = opened l.is_open b.current l i.now_taken i.now_tries is i.now in
    let t : Talk = record op.0 { quiets = raised op.0.quiets 1 } in
    closing_then b0 b (stream_after known quiet b) l l' taken [] tries [] misses i false t (ap (λ o. changed (λ x. record x { quiets = raised x.quiets 1 }) o) op.1) refl left (inl (whole_of t l.held (i.now_taken ++ []) (i.now_tries ++ []) (same_lists t l.held i.now_taken i.now_tries (quieter op.0 (raised op.0.quiets 1) l.held i.now_taken i.now_tries op.3))))
quiet_then false known b0 b l l' taken tries misses i is left =
    let op = opened l.is_open b.current l i.now_taken i.now_tries is i.now in
    let t : Talk = record op.0 { quiets = raised op.0.quiets 1 } in
    open_then b0 b (stream_after known quiet b) l l' taken [] tries [] misses i t refl (ap (λ o. changed (λ x. record x { quiets = raised x.quiets 1 }) o) op.1) (ap (λ k. k.is_open) left ∙ is) (op.2 ∙ sym (ap (λ k. k.peer) left))
    (subst (λ (h : List ℕ). IsOpenTalk t h (i.now_taken ++ []) (i.now_tries ++ [])) (sym (ap (λ k. k.held) left)) (same_lists t l.held i.now_taken i.now_tries (quieter op.0 (raised op.0.quiets 1) l.held i.now_taken i.now_tries op.3)))

no_current : (b0 b : StreamsTold) (l : TalkState) (taken : List Entry) (tries : List Try) (misses : ℕ) (i : IsByThen b0 b l taken tries misses) → l.is_open ≡ false → b.current ≡ None
no_current b0 b l taken tries misses i is = (unopened l.is_open b.current l i.now_taken i.now_tries is i.now).0

-- what a turn comes to
ruled_then : (h : StreamCame) (b0 b : StreamsTold) (t : StreamTurn) (l l' : TalkState) (taken : List Entry) (tries : List Try) (misses w : ℕ) (m m' : Moment Version) → IsByThen b0 b l taken tries misses → IsRuled h l t l' → AreTurns stream_replies w (map (turn_of t.peer) t.said) m m'
    → IsByThen b0 (closing_if t.closes (fold (saying t.cut) (stream_after t.known h b) t.said)) l' (taken ++ entries_in t.peer t.said) (tries ++ tries_in t.peer t.said) (misses + misses_in t.peer t.said)
ruled_then idle b0 b t l l' taken tries misses w m m' i r s = none_then idle b0 b t l' taken tries misses false r.1 r.2 (more_nothing b0 (stream_after t.known idle b) l' taken tries misses (same_then b0 b (stream_after t.known idle b) l' taken tries misses (subst (λ (k : TalkState). IsByThen b0 b k taken tries misses) (sym r.3) i) refl refl))
ruled_then ended b0 b t l l' taken tries misses w m m' i r s = none_then ended b0 b t l' taken tries misses false r.1 r.2 (more_nothing b0 (stream_after t.known ended b) l' taken tries misses (same_then b0 b (stream_after t.known ended b) l' taken tries misses (subst (λ (k : TalkState). IsByThen b0 b k taken tries misses) (sym r.3) i) refl refl))
ruled_then missed b0 b t l l' taken tries misses w m m' i r s = none_then missed b0 b t l' taken tries misses false r.1 r.2 (more_nothing b0 (stream_after t.known missed b) l' taken tries misses (same_then b0 b (stream_after t.known missed b) l' taken tries misses (subst (λ (k : TalkState). IsByThen b0 b k taken tries misses) (sym r.3) i) refl refl))
ruled_then (come peer) b0 b t l l' taken tries misses w m m' i r s =
    none_then (come peer) b0 b t l' taken tries misses false r.1 r.2 (more_nothing b0 (stream_after t.known (come peer) b) l' taken tries misses (come_then b0 b (stream_after t.known (come peer) b) l l' taken tries misses peer i r.0 (ap (λ o. b.closed ++ listed o) (no_current b0 b l taken tries misses i r.0) ∙ append-nil b.closed) refl r.3))
ruled_then quiet b0 b t l l' taken tries misses w m m' i r s =
    none_then quiet b0 b t l' taken tries misses (l.quiets + 1 == 200) r.1 r.2 (quiet_then (l.quiets + 1 == 200) t.known b0 b l l' taken tries misses i r.0 (subst (λ (c : Bool). IsLeft c (record l { quiets = l.quiets + 1 }) l') r.2 r.3))
ruled_then shut b0 b t l l' taken tries misses w m m' i r s = none_then shut b0 b t l' taken tries misses true r.1 r.2 (shut_then b0 b (stream_after t.known shut b) l l' taken tries misses i r.0 refl refl r.3)
ruled_then broke b0 b t l l' taken tries misses w m m' i r s = none_then broke b0 b t l' taken tries misses true r.1 r.2 (shut_then b0 b (stream_after t.known broke b) l l' taken tries misses i r.0 refl refl r.3)
ruled_then (got octets) b0 b t l l' taken tries misses w m m' i r s =
    let op = opened l.is_open b.current l i.now_taken i.now_tries r.0 i.now in
    let a = after_piece t.cut t.known octets t.said b op.0 op.1 in
    let same : op.0.peer ≡ t.peer = op.2 ∙ sym r.1.from in
    let parts = r.1.parts ∙ ap (λ x. x ++ r.1.rest) (sym (flat_map-map framed (λ (x : Said). x.octets) t.said)) in
    let short = all_map (λ (x : Said). x.octets) (λ (x : List ℕ). length x ≤ largest_datagram) t.said r.1.short in
    let left = subst (λ (c : Bool). IsLeft c (record l { held = r.1.rest; quiets = 0 }) l') r.1.closes r.1.left in
    let made = piece_by r.1.ending b0 b l l' taken tries misses i op.0 (fold (saying t.cut) (stream_after t.known (got octets) b) t.said) octets r.1.rest t.said t.cut t.known b.answers w m m' op.3 op.2 a parts short r.1.over left r.0 (subst (λ (p : Peer). AreTurns stream_replies w (map (turn_of p) t.said) m m') (sym same) s) r.1.known in
    subst (λ (c : Bool). IsByThen b0 (closing_if c (fold (saying t.cut) (stream_after t.known (got octets) b) t.said)) l' (taken ++ entries_in t.peer t.said) (tries ++ tries_in t.peer t.said) (misses + misses_in t.peer t.said)) (sym r.1.closes)
    (subst (λ (n : ℕ). IsByThen b0 (closing_if (is_closed_by r.1.ending) (fold (saying t.cut) (stream_after t.known (got octets) b) t.said)) l' (taken ++ entries_in t.peer t.said) (tries ++ tries_in t.peer t.said) (misses + n)) (sym (over_missed r.1.ending t.peer t.said r.1.rest r.1.over))
    (subst (λ (p : Peer). IsByThen b0 (closing_if (is_closed_by r.1.ending) (fold (saying t.cut) (stream_after t.known (got octets) b) t.said)) l' (taken ++ entries_in p t.said) (tries ++ tries_in p t.said) (misses + cond (is_blind_by r.1.ending) 1 0)) same made))

lead_entries : (known : ℕ) (h : StreamCame) → entries_of_came Stream known (lane_came h) ≡ []
lead_entries known idle = refl
lead_entries known ended = refl
lead_entries known missed = refl
lead_entries known (come peer) = refl
lead_entries known (got octets) = refl
lead_entries known quiet = refl
lead_entries known shut = refl
lead_entries known broke = refl

lead_tries : (h : StreamCame) → tries_of_came (lane_came h) ≡ []
lead_tries idle = refl
lead_tries ended = refl
lead_tries missed = refl
lead_tries (come peer) = refl
lead_tries (got octets) = refl
lead_tries quiet = refl
lead_tries shut = refl
lead_tries broke = refl

turn_entries : (t : StreamTurn) → entries_of Stream (turns_of t) ≡ entries_in t.peer t.said
turn_entries t = ap (λ x. x ++ entries_of Stream (map (turn_of t.peer) t.said)) (lead_entries t.known t.came) ∙ said_entries t.peer t.said

turn_tries : (t : StreamTurn) → tries_of (turns_of t) ≡ tries_in t.peer t.said
turn_tries t = ap (λ x. x ++ tries_of (map (turn_of t.peer) t.said)) (lead_tries t.came) ∙ said_tries t.peer t.said

lead_missed : (h : StreamCame) → refused_of (lane_came h) ≡ 0
lead_missed idle = refl
lead_missed ended = refl
lead_missed missed = refl
lead_missed (come peer) = refl
lead_missed (got octets) = refl
lead_missed quiet = refl
lead_missed shut = refl
lead_missed broke = refl

-- how many looks some turns of a lane were refused
abbrev pub misses_of : List Turn → ℕ
misses_of log = sum_by (λ (x : Turn). refused_of x.came) log

pub turn_missed : (t : StreamTurn) → misses_of (turns_of t) ≡ misses_in t.peer t.said
turn_missed t = let count = sum_by-cons (λ (x : Turn). refused_of x.came) (lead_of t) (map (turn_of t.peer) t.said) in omega (arith, count, lead_missed t.came)

turn_then : (w : ℕ) (t : StreamTurn) (l l' : TalkState) (m m' : Moment Version) (b0 b : StreamsTold) (taken : List Entry) (tries : List Try) (misses : ℕ) → IsRuled t.came l t l' → AreTurns stream_replies w (map (turn_of t.peer) t.said) m m' → IsByThen b0 b l taken tries misses
    → IsByThen b0 (stream_turn b t) l' (taken ++ entries_of Stream (turns_of t)) (tries ++ tries_of (turns_of t)) (misses + misses_of (turns_of t))
turn_then w t l l' m m' b0 b taken tries misses ruled session i =
    let r = ruled_then t.came b0 b t l l' taken tries misses w m m' i ruled session in
    subst (λ (x : List Entry). IsByThen b0 (stream_turn b t) l' (taken ++ x) (tries ++ tries_of (turns_of t)) (misses + misses_of (turns_of t))) (sym (turn_entries t))
    (subst (λ (x : List Try). IsByThen b0 (stream_turn b t) l' (taken ++ entries_in t.peer t.said) (tries ++ x) (misses + misses_of (turns_of t))) (sym (turn_tries t))
    (subst (λ (x : ℕ). IsByThen b0 (stream_turn b t) l' (taken ++ entries_in t.peer t.said) (tries ++ tries_in t.peer t.said) (misses + x)) (sym (turn_missed t)) r))

turns_then : (w : ℕ) (log : List StreamTurn) (l l' : TalkState) (b0 b : StreamsTold) (taken : List Entry) (tries : List Try) (misses : ℕ) → AreHeld w log l l' → IsByThen b0 b l taken tries misses
    → IsByThen b0 (fold stream_turn b log) l' (taken ++ entries_of Stream (lane_of log)) (tries ++ tries_of (lane_of log)) (misses + stream_refusals log)
turns_then w [] l l' b0 b taken tries misses s i = subst (λ (x : TalkState). IsByThen b0 b x (taken ++ []) (tries ++ []) (misses + 0)) (sym s) (more_nothing b0 b l taken tries misses i)
turns_then w (t ∷ log) l l' b0 b taken tries misses s i =
    let one = turn_then w t l s.0 s.2.0 s.2.1 b0 b taken tries misses s.1 s.2.2 i in
    let rest = turns_then w log s.0 l' b0 (stream_turn b t) (taken ++ entries_of Stream (turns_of t)) (tries ++ tries_of (turns_of t)) (misses + misses_of (turns_of t)) s.3 one in
    let parts : misses_of (lane_of (t ∷ log)) ≡ misses_of (turns_of t) + misses_of (lane_of log) = sum_by-append (λ (x : Turn). refused_of x.came) (turns_of t) (lane_of log) in
    let count : (misses + misses_of (turns_of t)) + stream_refusals log ≡ misses + stream_refusals (t ∷ log) = omega (arith, parts) in
    let entries : (taken ++ entries_of Stream (turns_of t)) ++ entries_of Stream (lane_of log) ≡ taken ++ entries_of Stream (lane_of (t ∷ log)) =
    append_assoc taken (entries_of Stream (turns_of t)) (entries_of Stream (lane_of log)) ∙ ap (λ x. taken ++ x) (sym (flat_map-append (λ (x : Turn). entries_of_came Stream x.known x.came) (turns_of t) (lane_of log))) in
    let mine : (tries ++ tries_of (turns_of t)) ++ tries_of (lane_of log) ≡ tries ++ tries_of (lane_of (t ∷ log)) =
    append_assoc tries (tries_of (turns_of t)) (tries_of (lane_of log)) ∙ ap (λ x. tries ++ x) (sym (flat_map-append (λ (x : Turn). tries_of_came x.came) (turns_of t) (lane_of log))) in
    subst (λ (x : List Entry). IsByThen b0 (fold stream_turn b (t ∷ log)) l' x (tries ++ tries_of (lane_of (t ∷ log))) (misses + stream_refusals (t ∷ log))) entries
    (subst (λ (x : List Try). IsByThen b0 (fold stream_turn b (t ∷ log)) l' ((taken ++ entries_of Stream (turns_of t)) ++ entries_of Stream (lane_of log)) x (misses + stream_refusals (t ∷ log))) mine
    (subst (λ (x : ℕ). IsByThen b0 (fold stream_turn b (t ∷ log)) l' ((taken ++ entries_of Stream (turns_of t)) ++ entries_of Stream (lane_of log)) ((tries ++ tries_of (turns_of t)) ++ tries_of (lane_of log)) x) count rest))

-- all conversations, where none is open
run_shut : {V : Type 0} (a : Answers V) (h : List V) (w n floor misses : ℕ) (b0 b : StreamsTold) (l : TalkState) (taken : List Entry) (tries : List Try) → l.is_open ≡ false → a.silent ≡ is_silent → IsByThen b0 b l taken tries misses → IsLaneRun a h w n floor taken tries
    → (talks : List Talk) × (b.closed ≡ b0.closed ++ talks) × (b.current ≡ None) × IsStreamRun a h w n floor misses talks taken tries
run_shut a h w n floor misses b0 b l taken tries is quiet_is i run =
    let none = unopened l.is_open b.current l i.now_taken i.now_tries is i.now in (
      map (λ (c : Conversation). c.talk) i.conversations,
      i.closed,
      none.0,
      record {
        conversations = i.conversations;
        talks_are = refl;
        taken_are = i.taken_are ∙ (ap (λ x. flat_map (λ (c : Conversation). c.taken) i.conversations ++ x) none.1 ∙ append-nil (flat_map (λ (c : Conversation). c.taken) i.conversations));
        tries_are = i.tries_are ∙ (ap (λ x. flat_map (λ (c : Conversation). c.tries) i.conversations ++ x) none.2 ∙ append-nil (flat_map (λ (c : Conversation). c.tries) i.conversations));
        each = subst (λ (q : List ℕ → Bool). All (λ (c : Conversation). IsTalk c.blind q c.talk c.taken c.tries) i.conversations) (sym quiet_is) i.each;
        blinds = i.blinds;
        run = run;
      },
    )

-- all conversations, where the open one is closed
run_by : {V : Type 0} (o : Bool) (a : Answers V) (h : List V) (w n floor misses : ℕ) (b0 b : StreamsTold) (l : TalkState) (taken : List Entry) (tries : List Try) → o ≡ l.is_open → a.silent ≡ is_silent → IsByThen b0 b l taken tries misses → IsLaneRun a h w n floor taken tries
    → (talks : List Talk) × ((closing_if o b).closed ≡ b0.closed ++ talks) × ((closing_if o b).current ≡ None) × IsStreamRun a h w n floor misses talks taken tries
run_by true a h w n floor misses b0 b l taken tries is quiet_is i run =
    let i' = shut_then b0 b b l (record l { is_open = false }) taken tries misses i (sym is) refl refl refl in
    let x = more_none b0 (closing b) (record l { is_open = false }) taken tries misses i' in
    run_shut a h w n floor misses b0 (closing b) (record l { is_open = false }) taken tries refl quiet_is x run
run_by false a h w n floor misses b0 b l taken tries is quiet_is i run = run_shut a h w n floor misses b0 b l taken tries (sym is) quiet_is i run

all_missed : (n : ℕ) → 0 + n ≡ n
all_missed n = omega arith

pub runs_of : (w n floor : ℕ) (h : List Version) (log : List StreamTurn) (l l' : TalkState) (b : StreamsTold) → AreHeld w log l l' → l.is_open ≡ false → b.current ≡ None → IsLaneRun stream_replies h w n floor (entries_of Stream (lane_of log)) (tries_of (lane_of log))
    → (talks : List Talk) × ((closing_if l'.is_open (fold stream_turn b log)).closed ≡ b.closed ++ talks) × ((closing_if l'.is_open (fold stream_turn b log)).current ≡ None) × IsStreamRun stream_replies h w n floor (stream_refusals log) talks (entries_of Stream (lane_of log)) (tries_of (lane_of log))
runs_of w n floor h log l l' b s is none run =
    let first = at_first b l is none in
    let i = subst (λ (x : ℕ). IsByThen b (fold stream_turn b log) l' (entries_of Stream (lane_of log)) (tries_of (lane_of log)) x) (all_missed (stream_refusals log)) (turns_then w log l l' b b [] [] 0 s first) in
    run_by l'.is_open stream_replies h w n floor (stream_refusals log) b (fold stream_turn b log) l' (entries_of Stream (lane_of log)) (tries_of (lane_of log)) refl refl i run
