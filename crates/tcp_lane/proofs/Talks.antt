-- What is written to conversations, by what was read of them.
use Rattle.std.proofs.Common.{◌≡◌, ℕ, ◌≤◌, Bool, true, false, List, [], ◌∷◌, ◌++◌, All, length, map, fold, take, Some, refl, sym, ap, subst, ◌∙◌, arith, append_assoc, append-nil}
use Rattle.std.specs.List.{flat_map}
use Rattle.std.proofs.lemmas.List.{map-append}
use Rattle.std.proofs.lemmas.List.Elements.{All-append, All-cons, All-nil, All-tail}
use Rattle.std.proofs.lemmas.Grind.{flat_map-append}
use Rattle.addr_text.specs.declared.address.Peer.{Peer}
use Rattle.outside.specs.Limits.{largest_datagram}
use Rattle.outside.specs.Port.{Packet, Try}
use Rattle.outside.specs.Streams.{StreamsTold, Talk, changed}
use Rattle.answer_core.specs.declared.way.Way.TheVariants.{Stream}
use Rattle.lane_model.specs.Lanes.{Entry}
use Rattle.lane_model.specs.Replies.{is_silent}
use Rattle.lane_model.specs.Turns.{Fate, entries_of_fate, is_refused_fate, tries_of_fate, silent, refused, tried}
use Rattle.tcp_frames.specs.Split.{HasNoMessage, framed}
use Rattle.tcp_lane.specs.Stream.{AreKnownFrom, AreRounds, IsTakenInPart, IsRound, IsWhole, IsWhy, Round, messages_of}
use Rattle.tcp_lane.specs.Turns.{AreWell, Said, is_well, put_for, saying}
use Rattle.tcp_frames.proofs.Splits.{split_of}

abbrev pub put_of : ℕ → Fate → List ℕ
put_of cut silent = []
put_of cut refused = []
put_of cut (tried serial octets true) = framed octets
put_of cut (tried serial octets false) = take cut (framed octets)

abbrev pub puts : ℕ → List Said → List ℕ
puts cut said = flat_map (λ s. put_of cut s.fate) said

abbrev pub packet_of : Peer → Said → Packet
packet_of peer s = record { octets = s.octets; from = peer }

abbrev pub entries_in : Peer → List Said → List Entry
entries_in peer said = flat_map (λ s. entries_of_fate Stream (packet_of peer s) s.known s.fate) said

abbrev pub tries_in : Peer → List Said → List Try
tries_in peer said = flat_map (λ s. tries_of_fate (packet_of peer s) s.fate) said

abbrev pub frames : List Try → List ℕ
frames tries = flat_map (λ x. framed x.octets) tries

flat_more : {X A : Type 0} (f : X → List A) (xs : List X) (x : X) → flat_map f (xs ++ x ∷ []) ≡ flat_map f xs ++ f x
flat_more f xs x = flat_map-append f xs (x ∷ []) ∙ ap (λ l. flat_map f xs ++ l) (append-nil (f x))

all_front : {A : Type 0} (P : A → Type 0) (xs ys : List A) → All P (xs ++ ys) → All P xs
all_front P [] ys a = All-nil P
all_front P (x ∷ xs) ys a = All-cons P x xs (a 0 x (omega arith)) (all_front P xs ys (All-tail P x (xs ++ ys) a))

all_last : {A : Type 0} (P : A → Type 0) (xs : List A) (y : A) → All P (xs ++ y ∷ []) → P y
all_last P [] y a = a 0 y (omega arith)
all_last P (x ∷ xs) y a = all_last P xs y (All-tail P x (xs ++ y ∷ []) a)

-- what was put into a conversation
pub record IsPut (b b' : StreamsTold) (t : Talk) (put : List ℕ) : Type 0 where
  pub talk : Talk
  pub current : b'.current ≡ Some talk
  pub peer : talk.peer ≡ t.peer
  pub pieces : talk.pieces ≡ t.pieces
  pub written : talk.written ≡ t.written ++ put
  pub closed : b'.closed ≡ b.closed

put_one : (cut : ℕ) (f : Fate) (b : StreamsTold) (t : Talk) → b.current ≡ Some t → IsPut b (put_for cut b f) t (put_of cut f)
put_one cut silent b t e = record { talk = t; current = e; peer = refl; pieces = refl; written = sym (append-nil t.written); closed = refl }
put_one cut refused b t e = record { talk = t; current = e; peer = refl; pieces = refl; written = sym (append-nil t.written); closed = refl }
put_one cut (tried serial octets true) b t e = record { talk = record t { written = t.written ++ framed octets }; current = ap (λ o. changed (λ x. record x { written = x.written ++ framed octets }) o) e; peer = refl; pieces = refl; written = refl; closed = refl }
put_one cut (tried serial octets false) b t e = record { talk = record t { written = t.written ++ take cut (framed octets) }; current = ap (λ o. changed (λ x. record x { written = x.written ++ take cut (framed octets) }) o) e; peer = refl; pieces = refl; written = refl; closed = refl }

pub put_all : (cut : ℕ) (said : List Said) (b : StreamsTold) (t : Talk) → b.current ≡ Some t → IsPut b (fold (saying cut) b said) t (puts cut said)
put_all cut [] b t e = record { talk = t; current = e; peer = refl; pieces = refl; written = sym (append-nil t.written); closed = refl }
put_all cut (s ∷ said) b t e =
    let one = put_one cut s.fate b t e in
    let rest = put_all cut said (put_for cut b s.fate) one.talk one.current in
    record {
      talk = rest.talk;
      current = rest.current;
      peer = rest.peer ∙ one.peer;
      pieces = rest.pieces ∙ one.pieces;
      written = rest.written ∙ (ap (λ l. l ++ puts cut said) one.written ∙ append_assoc t.written (put_of cut s.fate) (puts cut said));
      closed = rest.closed ∙ one.closed;
    }

-- messages that went well or were lost count, and those only that were not refused
entry_messages : (d : Packet) (known : ℕ) (f : Fate) → is_refused_fate f ≡ false → map (λ (e : Entry). e.packet.octets) (entries_of_fate Stream d known f) ≡ d.octets ∷ []
entry_messages d known silent e = refl
entry_messages d known refused e = absurd (cc e)
entry_messages d known (tried serial octets went) e = refl

pub said_messages : (peer : Peer) (said : List Said) → All (λ s. is_refused_fate s.fate ≡ false) said → map (λ (e : Entry). e.packet.octets) (entries_in peer said) ≡ map (λ s. s.octets) said
said_messages peer [] a = refl
said_messages peer (s ∷ said) a =
    map-append (λ (e : Entry). e.packet.octets) (entries_of_fate Stream (packet_of peer s) s.known s.fate) (entries_in peer said)
    ∙ (ap (λ l. l ++ map (λ (e : Entry). e.packet.octets) (entries_in peer said)) (entry_messages (packet_of peer s) s.known s.fate (a 0 s (omega arith))) ∙ ap (λ l. s.octets ∷ l) (said_messages peer said (All-tail (λ (x : Said). is_refused_fate x.fate ≡ false) s said a)))

one_from : (d : Packet) (known : ℕ) (f : Fate) → All (λ (e : Entry). e.packet.from ≡ d.from) (entries_of_fate Stream d known f)
one_from d known silent = All-cons (λ (e : Entry). e.packet.from ≡ d.from) (record { packet = d; known = known; way = Stream }) [] refl (All-nil (λ (e : Entry). e.packet.from ≡ d.from))
one_from d known refused = All-nil (λ (e : Entry). e.packet.from ≡ d.from)
one_from d known (tried serial octets went) = All-cons (λ (e : Entry). e.packet.from ≡ d.from) (record { packet = d; known = known; way = Stream }) [] refl (All-nil (λ (e : Entry). e.packet.from ≡ d.from))

pub said_from : (peer : Peer) (said : List Said) → All (λ (e : Entry). e.packet.from ≡ peer) (entries_in peer said)
said_from peer [] = All-nil (λ (e : Entry). e.packet.from ≡ peer)
said_from peer (s ∷ said) = All-append (λ (e : Entry). e.packet.from ≡ peer) (entries_of_fate Stream (packet_of peer s) s.known s.fate) (entries_in peer said) (one_from (packet_of peer s) s.known s.fate) (said_from peer said)

-- what is put for messages that went well are their replies
well_put : (cut : ℕ) (d : Packet) (f : Fate) → is_well f ≡ true → put_of cut f ≡ frames (tries_of_fate d f)
well_put cut d silent e = refl
well_put cut d refused e = absurd (cc e)
well_put cut d (tried serial octets true) e = sym (append-nil (framed octets))
well_put cut d (tried serial octets false) e = absurd (cc e)

pub said_put : (cut : ℕ) (peer : Peer) (said : List Said) → AreWell said → puts cut said ≡ frames (tries_in peer said)
said_put cut peer [] a = refl
said_put cut peer (s ∷ said) a =
    ap (λ l. l ++ puts cut said) (well_put cut (packet_of peer s) s.fate (a 0 s (omega arith))) ∙ (ap (λ l. frames (tries_of_fate (packet_of peer s) s.fate) ++ l) (said_put cut peer said (All-tail (λ (x : Said). is_well x.fate ≡ true) s said a))
    ∙ sym (flat_map-append (λ (x : Try). framed x.octets) (tries_of_fate (packet_of peer s) s.fate) (tries_in peer said)))

well_went : (d : Packet) (f : Fate) → is_well f ≡ true → All (λ (x : Try). x.went ≡ true) (tries_of_fate d f)
well_went d silent e = All-nil (λ (x : Try). x.went ≡ true)
well_went d refused e = absurd (cc e)
well_went d (tried serial octets true) e = All-cons (λ (x : Try). x.went ≡ true) (record { octets = octets; to = d.from; serial = serial; went = true }) [] refl (All-nil (λ (x : Try). x.went ≡ true))
well_went d (tried serial octets false) e = absurd (cc e)

pub said_went : (peer : Peer) (said : List Said) → AreWell said → All (λ (x : Try). x.went ≡ true) (tries_in peer said)
said_went peer [] a = All-nil (λ (x : Try). x.went ≡ true)
said_went peer (s ∷ said) a = All-append (λ (x : Try). x.went ≡ true) (tries_of_fate (packet_of peer s) s.fate) (tries_in peer said) (well_went (packet_of peer s) s.fate (a 0 s (omega arith))) (said_went peer said (All-tail (λ (x : Said). is_well x.fate ≡ true) s said a))

well_kept : (f : Fate) → is_well f ≡ true → is_refused_fate f ≡ false
well_kept silent e = refl
well_kept refused e = absurd (cc e)
well_kept (tried serial octets went) e = refl

pub said_kept : (said : List Said) → AreWell said → All (λ s. is_refused_fate s.fate ≡ false) said
said_kept [] a = All-nil (λ (s : Said). is_refused_fate s.fate ≡ false)
said_kept (s ∷ said) a = All-cons (λ (x : Said). is_refused_fate x.fate ≡ false) s said (well_kept s.fate (a 0 s (omega arith))) (said_kept said (All-tail (λ (x : Said). is_well x.fate ≡ true) s said a))

-- a conversation that is open, whose messages all count
pub record IsOpenTalk (t : Talk) (held : List ℕ) (taken : List Entry) (tries : List Try) : Type 0 where
  pub rounds : List Round
  pub pieces : t.pieces ≡ map (λ r. r.piece) rounds
  pub taken_are : taken ≡ flat_map (λ r. r.entries) rounds
  pub tries_are : tries ≡ flat_map (λ r. r.tries) rounds
  pub rounds_are : AreRounds is_silent t.peer [] [] rounds
  pub octets : flat_map (λ r. r.piece.octets) rounds ≡ flat_map framed (flat_map messages_of rounds) ++ held
  pub short : All (λ m. length m ≤ largest_datagram) (flat_map messages_of rounds)
  pub written : t.written ≡ frames tries
  pub went : All (λ s. s.went ≡ true) tries

pub whole_of : (t : Talk) (held : List ℕ) (taken : List Entry) (tries : List Try) → IsOpenTalk t held taken tries → IsWhole is_silent t taken tries
whole_of t held taken tries o = record { rounds = o.rounds; pieces = o.pieces; taken_are = o.taken_are; tries_are = o.tries_are; rounds_are = o.rounds_are; written = o.written; went = o.went }

rounds_more : (peer : Peer) (octets : List ℕ) (messages : List (List ℕ)) (rounds : List Round) (r : Round) → AreRounds is_silent peer octets messages rounds → IsRound is_silent peer (octets ++ flat_map (λ x. x.piece.octets) rounds) (messages ++ flat_map messages_of rounds) [] r → AreRounds is_silent peer octets messages (rounds ++ r ∷ [])
rounds_more peer octets messages [] r a q =
    (subst (λ (m : List (List ℕ)). IsRound is_silent peer octets m [] r) (append-nil messages) (subst (λ (o : List ℕ). IsRound is_silent peer o (messages ++ []) [] r) (append-nil octets) q), tt)
rounds_more peer octets messages (x ∷ rounds) r a q = (
  a.0,
  rounds_more peer (octets ++ x.piece.octets) (messages ++ messages_of x) rounds r a.1
      (subst (λ (m : List (List ℕ)). IsRound is_silent peer ((octets ++ x.piece.octets) ++ flat_map (λ y. y.piece.octets) rounds) m [] r) (sym (append_assoc messages (messages_of x) (flat_map messages_of rounds)))
      (subst (λ (o : List ℕ). IsRound is_silent peer o (messages ++ (messages_of x ++ flat_map messages_of rounds)) [] r) (sym (append_assoc octets x.piece.octets (flat_map (λ y. y.piece.octets) rounds))) q)),
)

-- octets behind octets that split
parts_on : (before held octets rest : List ℕ) (messages new : List (List ℕ)) → before ≡ flat_map framed messages ++ held → held ++ octets ≡ flat_map framed new ++ rest → before ++ octets ≡ flat_map framed (messages ++ new) ++ rest
parts_on before held octets rest messages new p q =
    ap (λ l. l ++ octets) p ∙ (append_assoc (flat_map framed messages) held octets ∙ (ap (λ l. flat_map framed messages ++ l) q ∙ (sym (append_assoc (flat_map framed messages) (flat_map framed new) rest) ∙ ap (λ l. l ++ rest) (sym (flat_map-append framed messages new)))))

-- a piece more, of which all messages count
pub record IsNew (t t2 : Talk) (held octets rest : List ℕ) (said : List Said) (known place : ℕ) (written : List ℕ) : Type 0 where
  pub peer : t2.peer ≡ t.peer
  pub pieces : t2.pieces ≡ t.pieces ++ (record { octets = octets; known = known; place = place }) ∷ []
  pub written_is : t2.written ≡ t.written ++ written
  pub parts : held ++ octets ≡ flat_map framed (map (λ s. s.octets) said) ++ rest
  pub short : All (λ m. length m ≤ largest_datagram) (map (λ s. s.octets) said)
  pub knows : AreKnownFrom is_silent known (entries_in t.peer said) (tries_in t.peer said)
  pub kept : All (λ s. is_refused_fate s.fate ≡ false) said

abbrev pub round_of : Peer → List ℕ → ℕ → ℕ → List Said → Round
round_of peer octets known place said = record { piece = record { octets = octets; known = known; place = place }; entries = entries_in peer said; tries = tries_in peer said }

round_is : (t t2 : Talk) (held octets rest rest' : List ℕ) (more : List (List ℕ)) (said : List Said) (known place : ℕ) (put : List ℕ) (taken : List Entry) (tries : List Try) (o : IsOpenTalk t held taken tries) → IsNew t t2 held octets rest said known place put
    → rest ≡ flat_map framed more ++ rest' → HasNoMessage rest' → All (λ m. length m ≤ largest_datagram) more → IsRound is_silent t.peer (flat_map (λ r. r.piece.octets) o.rounds) (flat_map messages_of o.rounds) more (round_of t.peer octets known place said)
round_is t t2 held octets rest rest' more said known place put taken tries o n is none small =
    let ms = flat_map messages_of o.rounds in
    let new = map (λ (e : Entry). e.packet.octets) (entries_in t.peer said) in
    let same : new ≡ map (λ s. s.octets) said = said_messages t.peer said n.kept in
    let parts : flat_map (λ (r : Round). r.piece.octets) o.rounds ++ octets ≡ flat_map framed (ms ++ new) ++ rest =
    parts_on (flat_map (λ (r : Round). r.piece.octets) o.rounds) held octets rest ms new o.octets (n.parts ∙ ap (λ l. flat_map framed l ++ rest) (sym same)) in
    record {
      split = record {
        rest = rest';
        parts = parts ∙ (ap (λ l. flat_map framed (ms ++ new) ++ l) is ∙ (sym (append_assoc (flat_map framed (ms ++ new)) (flat_map framed more) rest') ∙ ap (λ l. l ++ rest') (sym (flat_map-append framed (ms ++ new) more))));
        short = All-append (λ (m : List ℕ). length m ≤ largest_datagram) (ms ++ new) more (All-append (λ (m : List ℕ). length m ≤ largest_datagram) ms new o.short (subst (λ (l : List (List ℕ)). All (λ m. length m ≤ largest_datagram) l) (sym same) n.short)) small;
        none = none;
      };
      from = said_from t.peer said;
      known = n.knows;
    }

pub open_more : (t t2 : Talk) (held octets rest : List ℕ) (said : List Said) (cut known place : ℕ) (taken : List Entry) (tries : List Try) → IsOpenTalk t held taken tries → IsNew t t2 held octets rest said known place (puts cut said) → HasNoMessage rest → AreWell said
    → IsOpenTalk t2 rest (taken ++ entries_in t.peer said) (tries ++ tries_in t.peer said)
open_more t t2 held octets rest said cut known place taken tries o n none well =
    let r = round_of t.peer octets known place said in
    let small = All-nil (λ (m : List ℕ). length m ≤ largest_datagram) in
    let one = round_is t t2 held octets rest rest [] said known place (puts cut said) taken tries o n refl none small in
    let same : messages_of r ≡ map (λ s. s.octets) said = said_messages t.peer said n.kept in
    record {
      rounds = o.rounds ++ r ∷ [];
      pieces = n.pieces ∙ (ap (λ l. l ++ r.piece ∷ []) o.pieces ∙ sym (map-append (λ (x : Round). x.piece) o.rounds (r ∷ [])));
      taken_are = ap (λ l. l ++ entries_in t.peer said) o.taken_are ∙ sym (flat_more (λ (x : Round). x.entries) o.rounds r);
      tries_are = ap (λ l. l ++ tries_in t.peer said) o.tries_are ∙ sym (flat_more (λ (x : Round). x.tries) o.rounds r);
      rounds_are = subst (λ (p : Peer). AreRounds is_silent p [] [] (o.rounds ++ r ∷ [])) (sym n.peer) (rounds_more t.peer [] [] o.rounds r o.rounds_are one);
      octets = flat_more (λ (x : Round). x.piece.octets) o.rounds r ∙ (parts_on (flat_map (λ (x : Round). x.piece.octets) o.rounds) held octets rest (flat_map messages_of o.rounds) (messages_of r) o.octets (n.parts ∙ ap (λ l. flat_map framed l ++ rest) (sym same)) ∙ ap (λ l. flat_map framed l ++ rest) (sym (flat_more messages_of o.rounds r)));
      short = subst (λ (l : List (List ℕ)). All (λ m. length m ≤ largest_datagram) l) (sym (flat_more messages_of o.rounds r)) (All-append (λ (m : List ℕ). length m ≤ largest_datagram) (flat_map messages_of o.rounds) (messages_of r) o.short (subst (λ (l : List (List ℕ)). All (λ m. length m ≤ largest_datagram) l) (sym same) n.short));
      written = n.written_is ∙ (ap (λ l. l ++ puts cut said) o.written ∙ (ap (λ l. frames tries ++ l) (said_put cut t.peer said well) ∙ sym (flat_map-append (λ (x : Try). framed x.octets) tries (tries_in t.peer said))));
      went = All-append (λ (s : Try). s.went ≡ true) tries (tries_in t.peer said) o.went (said_went t.peer said well);
    }

pub cut_of : (blind : Bool) (t t2 : Talk) (held octets rest rest' put : List ℕ) (more : List (List ℕ)) (said : List Said) (known place : ℕ) (taken : List Entry) (tries : List Try) → IsOpenTalk t held taken tries → IsNew t t2 held octets rest said known place put
    → rest ≡ flat_map framed more ++ rest' → HasNoMessage rest' → All (λ m. length m ≤ largest_datagram) more → IsWhy blind is_silent (entries_in t.peer said) more (tries ++ tries_in t.peer said) t2.written
    → IsTakenInPart blind is_silent t2 (taken ++ entries_in t.peer said) (tries ++ tries_in t.peer said)
cut_of blind t t2 held octets rest rest' put more said known place taken tries o n is none small why =
    let r = round_of t.peer octets known place said in
    record {
      rounds = o.rounds;
      last = r;
      more = more;
      pieces = n.pieces ∙ ap (λ l. l ++ r.piece ∷ []) o.pieces;
      taken_are = ap (λ l. l ++ entries_in t.peer said) o.taken_are;
      tries_are = ap (λ l. l ++ tries_in t.peer said) o.tries_are;
      rounds_are = subst (λ (p : Peer). AreRounds is_silent p [] [] o.rounds) (sym n.peer) o.rounds_are;
      last_is = subst (λ (p : Peer). IsRound is_silent p (flat_map (λ x. x.piece.octets) o.rounds) (flat_map messages_of o.rounds) more r) (sym n.peer) (round_is t t2 held octets rest rest' more said known place put taken tries o n is none small);
      why = why;
    }

-- the last of some messages is another kind
said_last : (said before : List Said) (s : Said) → said ≡ before ++ s ∷ [] → map (λ x. x.octets) said ≡ map (λ x. x.octets) before ++ s.octets ∷ []
said_last said before s is = ap (λ l. map (λ (x : Said). x.octets) l) is ∙ map-append (λ (x : Said). x.octets) before (s ∷ [])

lost_try : (d : Packet) (f : Fate) (serial : ℕ) (octets : List ℕ) → f ≡ tried serial octets false → tries_of_fate d f ≡ (record { octets = octets; to = d.from; serial = serial; went = false }) ∷ []
lost_try d f serial octets is = ap (λ k. tries_of_fate d k) is

-- a conversation whose last write failed
pub lost_of : (t t2 : Talk) (held octets rest : List ℕ) (said before : List Said) (s : Said) (serial : ℕ) (reply : List ℕ) (cut known place : ℕ) (taken : List Entry) (tries : List Try) → IsOpenTalk t held taken tries → IsNew t t2 held octets rest said known place (puts cut said)
    → said ≡ before ++ s ∷ [] → AreWell before → s.fate ≡ tried serial reply false → is_silent s.octets ≡ false → IsTakenInPart false is_silent t2 (taken ++ entries_in t.peer said) (tries ++ tries_in t.peer said)
lost_of t t2 held octets rest said before s serial reply cut known place taken tries o n is well f spoken =
    let c = split_of rest in
    let due : Entry = record { packet = packet_of t.peer s; known = s.known; way = Stream } in
    let last : Try = record { octets = reply; to = t.peer; serial = serial; went = false } in
    let mine : tries_in t.peer said ≡ tries_in t.peer before ++ last ∷ [] = ap (λ l. tries_in t.peer l) is ∙ (flat_more (λ (x : Said). tries_of_fate (packet_of t.peer x) x.fate) before s ∙ ap (λ l. tries_in t.peer before ++ l) (lost_try (packet_of t.peer s) s.fate serial reply f)) in
    let put : puts cut said ≡ puts cut before ++ take cut (framed reply) = ap (λ l. puts cut l) is ∙ (flat_more (λ (x : Said). put_of cut x.fate) before s ∙ ap (λ k. puts cut before ++ put_of cut k) f) in
    let all : frames tries ++ puts cut said ≡ frames (tries ++ tries_in t.peer before) ++ take cut (framed reply) =
    ap (λ l. frames tries ++ l) (put ∙ ap (λ l. l ++ take cut (framed reply)) (said_put cut t.peer before well)) ∙ (sym (append_assoc (frames tries) (frames (tries_in t.peer before)) (take cut (framed reply))) ∙ ap (λ l. l ++ take cut (framed reply)) (sym (flat_map-append (λ (x : Try). framed x.octets) tries (tries_in t.peer before)))) in
    cut_of false t t2 held octets rest c.rest (puts cut said) c.messages said known place taken tries o n c.parts c.none c.short (record {
      earlier = entries_in t.peer before;
      due = due;
      entries_are = ap (λ l. entries_in t.peer l) is ∙ (flat_more (λ (x : Said). entries_of_fate Stream (packet_of t.peer x) x.known x.fate) before s ∙ ap (λ l. entries_in t.peer before ++ l) (ap (λ k. entries_of_fate Stream (packet_of t.peer s) s.known k) f));
      spoken = spoken;
      before = tries ++ tries_in t.peer before;
      reply = last;
      octets = cut;
      tries_are = ap (λ l. tries ++ l) mine ∙ sym (append_assoc tries (tries_in t.peer before) (last ∷ []));
      went = All-append (λ (x : Try). x.went ≡ true) tries (tries_in t.peer before) o.went (said_went t.peer before well);
      failed = refl;
      written_is = n.written_is ∙ (ap (λ l. l ++ puts cut said) o.written ∙ all);
    })

none_more : {A : Type 0} (xs ys zs : List A) → xs ≡ ys ++ zs → zs ≡ [] → xs ≡ ys
none_more xs ys zs p q = p ∙ (ap (λ l. ys ++ l) q ∙ append-nil ys)

-- a conversation at whose last message no map could be looked at
pub blind_of : (t t2 : Talk) (held octets rest : List ℕ) (said before : List Said) (s : Said) (cut known place : ℕ) (taken : List Entry) (tries : List Try) → IsOpenTalk t held taken tries → t2.peer ≡ t.peer → t2.pieces ≡ t.pieces ++ (record { octets = octets; known = known; place = place }) ∷ [] → t2.written ≡ t.written ++ puts cut said
    → held ++ octets ≡ flat_map framed (map (λ x. x.octets) said) ++ rest → All (λ m. length m ≤ largest_datagram) (map (λ x. x.octets) said) → AreKnownFrom is_silent known (entries_in t.peer said) (tries_in t.peer said) → said ≡ before ++ s ∷ [] → AreWell before → s.fate ≡ refused → is_silent s.octets ≡ false
    → IsTakenInPart true is_silent t2 (taken ++ entries_in t.peer said) (tries ++ tries_in t.peer said)
blind_of t t2 held octets rest said before s cut known place taken tries o peer pieces written parts short knows is well f spoken =
    let c = split_of rest in
    let entries : entries_in t.peer said ≡ entries_in t.peer before = none_more (entries_in t.peer said) (entries_in t.peer before) (entries_of_fate Stream (packet_of t.peer s) s.known s.fate) (ap (λ l. entries_in t.peer l) is ∙ flat_more (λ (x : Said). entries_of_fate Stream (packet_of t.peer x) x.known x.fate) before s) (ap (λ k. entries_of_fate Stream (packet_of t.peer s) s.known k) f) in
    let mine : tries_in t.peer said ≡ tries_in t.peer before = none_more (tries_in t.peer said) (tries_in t.peer before) (tries_of_fate (packet_of t.peer s) s.fate) (ap (λ l. tries_in t.peer l) is ∙ flat_more (λ (x : Said). tries_of_fate (packet_of t.peer x) x.fate) before s) (ap (λ k. tries_of_fate (packet_of t.peer s) k) f) in
    let put : puts cut said ≡ puts cut before = none_more (puts cut said) (puts cut before) (put_of cut s.fate) (ap (λ l. puts cut l) is ∙ flat_more (λ (x : Said). put_of cut x.fate) before s) (ap (λ k. put_of cut k) f) in
    let wide : map (λ (x : Said). x.octets) said ≡ map (λ (x : Said). x.octets) before ++ s.octets ∷ [] = said_last said before s is in
    let shorts : All (λ (m : List ℕ). length m ≤ largest_datagram) (map (λ (x : Said). x.octets) before ++ s.octets ∷ []) = subst (λ (l : List (List ℕ)). All (λ m. length m ≤ largest_datagram) l) wide short in
    let n : IsNew t t2 held octets (framed s.octets ++ rest) before known place (puts cut before) = record {
      peer = peer;
      pieces = pieces;
      written_is = written ∙ ap (λ l. t.written ++ l) put;
      parts = parts ∙ (ap (λ l. flat_map framed l ++ rest) wide ∙ (ap (λ l. l ++ rest) (flat_more framed (map (λ (x : Said). x.octets) before) s.octets) ∙ append_assoc (flat_map framed (map (λ (x : Said). x.octets) before)) (framed s.octets) rest));
      short = all_front (λ (m : List ℕ). length m ≤ largest_datagram) (map (λ (x : Said). x.octets) before) (s.octets ∷ []) shorts;
      knows = subst (λ (l : List Entry). AreKnownFrom is_silent known l (tries_in t.peer before)) entries (subst (λ (l : List Try). AreKnownFrom is_silent known (entries_in t.peer said) l) mine knows);
      kept = said_kept before well;
    } in
    let small : length s.octets ≤ largest_datagram = all_last (λ (m : List ℕ). length m ≤ largest_datagram) (map (λ (x : Said). x.octets) before) s.octets shorts in
    let made : IsTakenInPart true is_silent t2 (taken ++ entries_in t.peer before) (tries ++ tries_in t.peer before) = cut_of true t t2 held octets (framed s.octets ++ rest) c.rest (puts cut before) (s.octets ∷ c.messages) before known place taken tries o n
    (ap (λ l. framed s.octets ++ l) c.parts ∙ sym (append_assoc (framed s.octets) (flat_map framed c.messages) c.rest)) c.none (All-cons (λ (m : List ℕ). length m ≤ largest_datagram) s.octets c.messages small c.short)
    (record {
      due = s.octets;
      behind = c.messages;
      more_are = refl;
      spoken = spoken;
      went = All-append (λ (x : Try). x.went ≡ true) tries (tries_in t.peer before) o.went (said_went t.peer before well);
      written_is = n.written_is ∙ (ap (λ l. l ++ puts cut before) o.written ∙ (ap (λ l. frames tries ++ l) (said_put cut t.peer before well) ∙ sym (flat_map-append (λ (x : Try). framed x.octets) tries (tries_in t.peer before))));
    }) in
    subst (λ (l : List Try). IsTakenInPart true is_silent t2 (taken ++ entries_in t.peer said) (tries ++ l)) (sym mine) (subst (λ (l : List Entry). IsTakenInPart true is_silent t2 (taken ++ l) (tries ++ tries_in t.peer before)) (sym entries) made)
