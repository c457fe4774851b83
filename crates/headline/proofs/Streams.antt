-- Conversations.
use Rattle.std.proofs.Common.{◌≡◌, ◌⊎◌, inl, inr, ℕ, suc, ◌+◌, ◌≤◌, Bool, true, false, List, [], ◌∷◌, ◌++◌, length, map, fold, flat_map, take, All, Option, None, Some, refl, ap, ap₂, sym, subst, ◌∙◌, arith, append_assoc, append-nil}
use Rattle.std.proofs.lemmas.Bool.{cases_Bool}
use Rattle.std.proofs.lemmas.List.{append_cancel_left, map-append}
use Rattle.std.proofs.lemmas.List.Concat.{flat_map-append}
use Rattle.std.proofs.lemmas.List.Elements.{All-append, All-cons, All-map, All-nil}
use Rattle.addr_text.specs.declared.address.Listen.{Listen}
use Rattle.addr_text.specs.declared.address.Peer.{Peer}
use Rattle.outside.specs.Faults.{BothTell, Rose}
use Rattle.outside.specs.Port.{Packet, Try}
use Rattle.outside.specs.Streams.{Piece, StreamsTold, Talk}
use Rattle.outside.specs.Streams as streams
use Rattle.outside.specs.declared.port.Opening.{Opening}
use Rattle.outside.specs.declared.port.Opening.TheVariants as opening
use Rattle.tcp_frames.specs.Split.{framed}
use Rattle.topology_text.specs.Plan.{Plan}
use Rattle.published_map.specs.Version.{Version}
use Rattle.map_cell.specs.Rows.{AreFirst}
use Rattle.past_log.specs.Notes.{no_notes}
use Rattle.answer_core.specs.declared.way.Way.{Way}
use Rattle.answer_core.specs.declared.way.Way.TheVariants as way
use Rattle.lane_model.specs.declared.ended.Ended.{Ended}
use Rattle.lane_model.specs.declared.ended.Ended.TheVariants as end
use Rattle.tcp_lane.specs.Calls.{AreRuled, IsStreamEnd}
use Rattle.lane_model.specs.Lanes.{Answers, Entry, IsLaneRun, IsTryOf, following}
use Rattle.lane_model.specs.Replies.{is_silent, replies_by}
use Rattle.lane_model.specs.Turns.{Came, Fate, Turn, entries_of, entries_of_came, notes_turn, idle, oversize, ended, failed, took, tries_of}
use Rattle.lane_model.specs.Turns as fate
use Rattle.tcp_lane.specs.Replies.{stream_replies}
use Rattle.tcp_lane.specs.Stream.{AreKnownFrom, AreRounds, Conversation, HasFailed, HasMissed, IsRound, IsStreamRun, IsTakenInPart, IsWhole, Round, messages_of}
use Rattle.tcp_lane.specs.Stream as tcp
use Rattle.tcp_lane.specs.Turns.{IsRuled, Said, StreamTurn, TalkState, closing_if, lane_came, lane_of, lead_of, no_talk, stream_turn, turn_of, turns_of}
use Rattle.tcp_lane.specs.Turns as turn
use Rattle.drive.specs.Done.{StreamLaneTold}
use Rattle.drive.specs.Streams.{AreStreamsDone}
use Rattle.glb.specs.declared.status.Status.{Status}
use Rattle.glb.specs.declared.status.Status.TheVariants as status
use Rattle.glb.specs.Serve.{IsStreamOpening, IsStreamReady, IsStreamShut}
use Rattle.glb.specs.Served.{IsStreamWell}
use Rattle.headline.specs.Headline.{AreMaps, AreTalks, HaveTalked, IsStreamLane, IsTalk, Share}
use Rattle.headline.specs.View.{Event, Message, taken, tried}
use Rattle.headline.specs.Headline as page
use Rattle.headline.proofs.Events.{AreLooked, all_looked, heard_made, last_looked, none_lost, made, right, spoken, tell, tried_made, turned}
use Rattle.headline.proofs.Minding.{none_minded, numbers_are, pieces_minded}
use Rattle.headline.proofs.Serving.{cause_from, stands, tells_on, tells_so}
use Rattle.tcp_lane.proofs.Ends.{lane_notes}

-- WHAT WAS TAKEN

abbrev message : Entry → Message
message e = record { packet = e.packet; known = e.known }

abbrev packets : List Entry → List Message
packets es = map message es

taken_tell : (notes : List ℕ) (events : List Event) → flat_map taken (tell notes events) ≡ flat_map taken events
taken_tell [] events = refl
taken_tell (n ∷ notes) events = taken_tell notes events

abbrev AllTaken : Way → List Version → ℕ → List Turn → Type 0
AllTaken by h w log = (n r : ℕ) (tries : List Try) → IsLaneRun (replies_by by) h w n r (entries_of by log) tries → flat_map taken (made is_silent log tries) ≡ packets (entries_of by log)

entry_taken : (by : Way) (h : List Version) (w n r known : ℕ) (d : Packet) (log : List Turn) (tries : List Try) → IsLaneRun (replies_by by) h w n r (record { packet = d; known = known; way = by } ∷ entries_of by log) tries → AllTaken by h w log
    → flat_map taken (spoken known d (is_silent d.octets) tries (λ ts. made is_silent log ts)) ≡ record { packet = d; known = known } ∷ packets (entries_of by log)
entry_taken by h w n r known d log [] run all = rw run.1 (ap (λ ps. record { packet = d; known = known } ∷ ps) (all (following n) known [] run.2))
entry_taken by h w n r known d log (s ∷ tries) run all = elim (cases_Bool (is_silent d.octets)) [
  | inl e ↦ let rest : IsLaneRun (replies_by by) h w (following n) known (entries_of by log) (s ∷ tries) = rw e at run.1 in rw e (ap (λ ps. record { packet = d; known = known } ∷ ps) (all (following n) known (s ∷ tries) rest))
  | inr e ↦ let both : IsTryOf (replies_by by) h w n (record { packet = d; known = known; way = by }) s × IsLaneRun (replies_by by) h w (following n) s.serial (entries_of by log) tries = rw e at run.1 in
      rw e (ap (λ ps. record { packet = d; known = known } ∷ ps) (all (following n) s.serial tries both.1))
]

step_taken : (by : Way) (h : List Version) (w n r known : ℕ) (c : Came) (log : List Turn) (tries : List Try) → IsLaneRun (replies_by by) h w n r (entries_of_came by known c ++ entries_of by log) tries → AllTaken by h w log
    → flat_map taken (turned is_silent known c tries (λ ts. made is_silent log ts)) ≡ packets (entries_of_came by known c ++ entries_of by log)
step_taken by h w n r known idle log tries run all = all n r tries run
step_taken by h w n r known oversize log tries run all = all n r tries run
step_taken by h w n r known ended log tries run all = all n r tries run
step_taken by h w n r known failed log tries run all = all n r tries run
step_taken by h w n r known (took d fate.silent) log tries run all = entry_taken by h w n r known d log tries run all
step_taken by h w n r known (took d fate.refused) log tries run all = all n r tries run
step_taken by h w n r known (took d (fate.tried serial octets went)) log tries run all = entry_taken by h w n r known d log tries run all

taken_made : (by : Way) (h : List Version) (w : ℕ) (log : List Turn) → AllTaken by h w log
taken_made by h w [] n r tries run = refl
taken_made by h w (t ∷ log) n r tries run = taken_tell t.notes (turned is_silent t.known t.came tries (λ ts. made is_silent log ts)) ∙ step_taken by h w n r t.known t.came log tries run (taken_made by h w log)

-- TO WHOM IT WAS REPLIED

abbrev AllTo : Peer → List Try → Type 0
AllTo peer tries = All (λ (r : Try). r.to ≡ peer) tries

-- the first replies of a lane run go to the peer, and what is left is a lane run
record Parts (K : Type 0) (a : Answers Version) (h : List Version) (w : ℕ) (peer : Peer) (tries : List Try) (more : List Entry) (further : List Try) : Type 0 where
  knew : K
  to : AllTo peer tries
  n : ℕ
  floor : ℕ
  run : IsLaneRun a h w n floor more further

-- what was known at some messages is no less than that
abbrev Knew : ℕ → List Entry → Type 0
Knew known es = All (λ (e : Entry). known ≤ e.known) es

known_parts : (a : Answers Version) (h : List Version) (w n floor known : ℕ) (peer : Peer) (es : List Entry) (tries : List Try) (more : List Entry) (further : List Try) → AreKnownFrom a.silent known es tries → All (λ (e : Entry). e.packet.from ≡ peer) es → IsLaneRun a h w n floor (es ++ more) (tries ++ further) → Parts (Knew known es) a h w peer tries more further
known_parts a h w n floor known peer [] [] more further pairs from run = record { knew = All-nil (λ (e : Entry). known ≤ e.known); to = All-nil (λ (r : Try). r.to ≡ peer); n = n; floor = floor; run = run }
known_parts a h w n floor known peer [] (s ∷ tries) more further pairs from run = absurd pairs
known_parts a h w n floor known peer (e ∷ es) [] more [] pairs from run =
    let here : known ≤ e.known = let same = pairs.0 in omega (arith, same) in
    let parts = known_parts a h w (following n) e.known known peer es [] more [] pairs.2 (λ k d within. from (suc k) d (omega arith)) run.2 in
    record { knew = All-cons (λ (e : Entry). known ≤ e.known) e es here parts.knew; to = parts.to; n = parts.n; floor = parts.floor; run = parts.run }
known_parts a h w n floor known peer (e ∷ es) [] more (s ∷ further) pairs from run =
    let here : known ≤ e.known = let same = pairs.0 in omega (arith, same) in
    let rest : IsLaneRun a h w (following n) e.known (es ++ more) (s ∷ further) = rw pairs.1 at run.1 in
    let parts = known_parts a h w (following n) e.known known peer es [] more (s ∷ further) pairs.2 (λ k d within. from (suc k) d (omega arith)) rest in
    record { knew = All-cons (λ (e : Entry). known ≤ e.known) e es here parts.knew; to = parts.to; n = parts.n; floor = parts.floor; run = parts.run }
known_parts a h w n floor known peer (e ∷ es) (s ∷ tries) more further pairs from run = elim (cases_Bool (a.silent e.packet.octets)) [
  | inl is ↦
      let here : known ≤ e.known = let same = pairs.0 in omega (arith, same) in
      let on : AreKnownFrom a.silent known es (s ∷ tries) = rw is at pairs.1 in
      let rest : IsLaneRun a h w (following n) e.known (es ++ more) (s ∷ (tries ++ further)) = rw is at run.1 in
      let parts = known_parts a h w (following n) e.known known peer es (s ∷ tries) more further on (λ k d within. from (suc k) d (omega arith)) rest in
      record { knew = All-cons (λ (e : Entry). known ≤ e.known) e es here parts.knew; to = parts.to; n = parts.n; floor = parts.floor; run = parts.run }
  | inr is ↦
      let same = pairs.0 in
      let here : known ≤ e.known = omega (arith, same) in
      let on : AreKnownFrom a.silent s.serial es tries = rw is at pairs.1 in
      let both : IsTryOf a h w n e s × IsLaneRun a h w (following n) s.serial (es ++ more) (tries ++ further) = rw is at run.1 in
      let fresh : e.known ≤ s.serial = both.0.fresh in
      let parts = known_parts a h w (following n) s.serial s.serial peer es tries more further on (λ k d within. from (suc k) d (omega arith)) both.1 in
      record { knew = All-cons (λ (e : Entry). known ≤ e.known) e es here (λ k d within. let later = parts.knew k d within in omega (arith, later, fresh, same)); to = All-cons (λ (r : Try). r.to ≡ peer) s tries (both.0.to ∙ from 0 e (omega arith)) parts.to; n = parts.n; floor = parts.floor; run = parts.run }
]

-- two parts in a row are one
two_parts : (K L : Type 0) (a : Answers Version) (h : List Version) (w n floor : ℕ) (peer : Peer) (es fs more : List Entry) (tries others further : List Try) → ((n floor : ℕ) → IsLaneRun a h w n floor (es ++ (fs ++ more)) (tries ++ (others ++ further)) → Parts K a h w peer tries (fs ++ more) (others ++ further)) → ((n floor : ℕ) → IsLaneRun a h w n floor (fs ++ more) (others ++ further) → Parts L a h w peer others more further)
    → IsLaneRun a h w n floor ((es ++ fs) ++ more) ((tries ++ others) ++ further) → Parts (K × L) a h w peer (tries ++ others) more further
two_parts K L a h w n floor peer es fs more tries others further one two run =
    let here = one n floor (subst (λ ts. IsLaneRun a h w n floor (es ++ (fs ++ more)) ts) (append_assoc tries others further) (subst (λ xs. IsLaneRun a h w n floor xs ((tries ++ others) ++ further)) (append_assoc es fs more) run)) in
    let on = two here.n here.floor here.run in
    record { knew = (here.knew, on.knew); to = All-append (λ (r : Try). r.to ≡ peer) tries others here.to on.to; n = on.n; floor = on.floor; run = on.run }

-- ONE CONVERSATION

abbrev octets_of : List Round → List ℕ
octets_of rounds = flat_map (λ (r : Round). r.piece.octets) rounds

abbrev entries : List Round → List Entry
entries rounds = flat_map (λ (r : Round). r.entries) rounds

abbrev octets_in : List Entry → List (List ℕ)
octets_in es = map (λ (e : Entry). e.packet.octets) es

from_on : (quiet : List ℕ → Bool) (peer : Peer) (octets : List ℕ) (messages : List (List ℕ)) (rounds : List Round) → AreRounds quiet peer octets messages rounds → All (λ (e : Entry). e.packet.from ≡ peer) (entries rounds)
from_on quiet peer octets messages [] are = All-nil (λ (e : Entry). e.packet.from ≡ peer)
from_on quiet peer octets messages (r ∷ rounds) are = All-append (λ (e : Entry). e.packet.from ≡ peer) r.entries (entries rounds) are.0.from (from_on quiet peer (octets ++ r.piece.octets) (messages ++ messages_of r) rounds are.1)

abbrev replies : List Round → List Try
replies rounds = flat_map (λ (r : Round). r.tries) rounds

abbrev KnewAll : List Round → Type 0
KnewAll [] = Unit {0}
KnewAll (r ∷ rounds) = Knew r.piece.known r.entries × KnewAll rounds

rounds_parts : (a : Answers Version) (h : List Version) (w n floor : ℕ) (peer : Peer) (octets : List ℕ) (messages : List (List ℕ)) (rounds : List Round) (more : List Entry) (further : List Try) → AreRounds a.silent peer octets messages rounds → IsLaneRun a h w n floor (entries rounds ++ more) (replies rounds ++ further) → Parts (KnewAll rounds) a h w peer (replies rounds) more further
rounds_parts a h w n floor peer octets messages [] more further are run = record { knew = tt; to = All-nil (λ (r : Try). r.to ≡ peer); n = n; floor = floor; run = run }
rounds_parts a h w n floor peer octets messages (r ∷ rounds) more further are run = two_parts (Knew r.piece.known r.entries) (KnewAll rounds) a h w n floor peer r.entries (entries rounds) more r.tries (replies rounds) further
    (λ m known here. known_parts a h w m known r.piece.known peer r.entries r.tries (entries rounds ++ more) (replies rounds ++ further) are.0.known are.0.from here)
    (λ m known on. rounds_parts a h w m known peer (octets ++ r.piece.octets) (messages ++ messages_of r) rounds more further are.1 on) run

-- the page's words for rounds
abbrev round : Round → page.Round
round r = record { piece = r.piece; messages = packets r.entries }

framed_in : (es : List Entry) → page.octets_of (packets es) ≡ flat_map framed (octets_in es)
framed_in [] = refl
framed_in (e ∷ es) = ap (λ xs. framed e.packet.octets ++ xs) (framed_in es)

messages_in : (rounds : List Round) → packets (entries rounds) ≡ flat_map (λ (r : page.Round). r.messages) (map round rounds)
messages_in [] = refl
messages_in (r ∷ rounds) = map-append message r.entries (entries rounds) ∙ ap (λ ms. packets r.entries ++ ms) (messages_in rounds)

pieces_in : (rounds : List Round) → map (λ (r : Round). r.piece) rounds ≡ map (λ (r : page.Round). r.piece) (map round rounds)
pieces_in [] = refl
pieces_in (r ∷ rounds) = ap (λ ps. r.piece ∷ ps) (pieces_in rounds)

-- what is held behind earlier messages, with a piece, is its messages and more
held_on : (octets piece held more : List ℕ) (messages new : List (List ℕ)) → octets ≡ flat_map framed messages ++ held → octets ++ piece ≡ flat_map framed (messages ++ new) ++ more → held ++ piece ≡ flat_map framed new ++ more
held_on octets piece held more messages new was is =
    append_cancel_left (flat_map framed messages) (held ++ piece) (flat_map framed new ++ more)
    (sym (append_assoc (flat_map framed messages) held piece) ∙ (ap (λ xs. xs ++ piece) (sym was) ∙ (is ∙ (ap (λ xs. xs ++ more) (flat_map-append framed messages new) ∙ append_assoc (flat_map framed messages) (flat_map framed new) more))))

fits : (quiet : List ℕ → Bool) (peer : Peer) (octets : List ℕ) (messages : List (List ℕ)) (held : List ℕ) (rounds : List Round) (tail : List page.Round) → octets ≡ flat_map framed messages ++ held → AreRounds quiet peer octets messages rounds → KnewAll rounds
    → ((held' : List ℕ) → octets ++ octets_of rounds ≡ flat_map framed (messages ++ flat_map messages_of rounds) ++ held' → page.AreRounds held' tail) → page.AreRounds held (map round rounds ++ tail)
fits quiet peer octets messages held [] tail was are knew behind = behind held (append-nil octets ∙ (was ∙ ap (λ ms. flat_map framed ms ++ held) (sym (append-nil messages))))
fits quiet peer octets messages held (r ∷ rounds) tail was are knew behind =
    let parts : octets ++ r.piece.octets ≡ flat_map framed (messages ++ messages_of r) ++ are.0.split.rest = are.0.split.parts ∙ ap (λ ms. flat_map framed ms ++ are.0.split.rest) (append-nil (messages ++ messages_of r)) in (
      are.0.split.rest,
      held_on octets r.piece.octets held are.0.split.rest messages (messages_of r) was parts ∙ ap (λ xs. xs ++ are.0.split.rest) (sym (framed_in r.entries)),
      All-map (λ (m : Message). r.piece.known ≤ m.known) message r.entries knew.0,
      fits quiet peer (octets ++ r.piece.octets) (messages ++ messages_of r) are.0.split.rest rounds tail parts are.1 knew.1
          (λ held' is. behind held' (sym (append_assoc octets r.piece.octets (octets_of rounds)) ∙ (is ∙ ap (λ ms. flat_map framed ms ++ held') (append_assoc messages (messages_of r) (flat_map messages_of rounds))))),
    )

abbrev replies_in : List Try → List ℕ
replies_in tries = flat_map (λ (r : Try). framed r.octets) tries

take_more : {A : Type 0} (xs ys : List A) (k : ℕ) → take (length xs + k) (xs ++ ys) ≡ xs ++ take k ys
take_more {A = A} [] ys k = let e : length {A = A} [] + k ≡ k = omega arith in ap (λ n. take n ys) e
take_more {A = A} (x ∷ xs) ys k = let e : length (x ∷ xs) + k ≡ suc (length xs + k) = omega arith in ap (λ n. take n (x ∷ (xs ++ ys))) e ∙ ap (λ zs. x ∷ zs) (take_more xs ys k)

whole : {A : Type 0} (xs : List A) → xs ≡ take (length xs) xs
whole [] = refl
whole (x ∷ xs) = let e : length (x ∷ xs) ≡ suc (length xs) = omega arith in ap (λ zs. x ∷ zs) (whole xs) ∙ ap (λ n. take n (x ∷ xs)) (sym e)

is_whole : (quiet : List ℕ → Bool) (t : Talk) (es : List Entry) (tries : List Try) → (w : IsWhole quiet t es tries) → KnewAll w.rounds → AllTo t.peer tries → IsTalk t (packets es) tries
is_whole quiet t es tries w knew to = record {
  from = All-map (λ (m : Message). m.packet.from ≡ t.peer) message es (subst (λ xs. All (λ (e : Entry). e.packet.from ≡ t.peer) xs) (sym w.taken_are) (from_on quiet t.peer [] [] w.rounds w.rounds_are));
  to = to;
  rounds = map round w.rounds;
  pieces = w.pieces ∙ pieces_in w.rounds;
  messages_are = ap packets w.taken_are ∙ messages_in w.rounds;
  read = subst (λ rs. page.AreRounds [] rs) (append-nil (map round w.rounds)) (fits quiet t.peer [] [] [] w.rounds [] refl w.rounds_are knew (λ held is. tt));
  cut = length (replies_in tries);
  written = w.written ∙ whole (replies_in tries);
}

why_written : (blind : Bool) (quiet : List ℕ → Bool) (es : List Entry) (more : List (List ℕ)) (tries : List Try) (written : List ℕ) → tcp.IsWhy blind quiet es more tries written → (k : ℕ) × (written ≡ take k (replies_in tries))
why_written true quiet es more tries written why = (length (replies_in tries), why.written_is ∙ whole (replies_in tries))
why_written false quiet es more tries written why =
    let one : replies_in (why.before ++ why.reply ∷ []) ≡ replies_in why.before ++ framed why.reply.octets = flat_map-append (λ (r : Try). framed r.octets) why.before (why.reply ∷ []) ∙ ap (λ xs. replies_in why.before ++ xs) (append-nil (framed why.reply.octets)) in
    (length (replies_in why.before) + why.octets, why.written_is ∙ sym (ap (λ xs. take (length (replies_in why.before) + why.octets) xs) (ap replies_in why.tries_are ∙ one) ∙ take_more (replies_in why.before) (framed why.reply.octets) why.octets))

-- what was known at the messages of a conversation whose last piece has more
abbrev KnewPart : (blind : Bool) (quiet : List ℕ → Bool) (t : Talk) (es : List Entry) (tries : List Try) → IsTakenInPart blind quiet t es tries → Type 0
KnewPart blind quiet t es tries w = KnewAll w.rounds × Knew w.last.piece.known w.last.entries

is_in_part : (blind : Bool) (quiet : List ℕ → Bool) (t : Talk) (es : List Entry) (tries : List Try) → (w : IsTakenInPart blind quiet t es tries) → KnewPart blind quiet t es tries w → AllTo t.peer tries → IsTalk t (packets es) tries
is_in_part blind quiet t es tries w knew to =
    let last = w.last in
    let split = w.last_is.split in
    let wrote = why_written blind quiet last.entries w.more tries t.written w.why in
    let parts : octets_of w.rounds ++ last.piece.octets ≡ flat_map framed (flat_map messages_of w.rounds ++ messages_of last) ++ (flat_map framed w.more ++ split.rest) =
    split.parts ∙ (ap (λ xs. xs ++ split.rest) (flat_map-append framed (flat_map messages_of w.rounds ++ messages_of last) w.more) ∙ append_assoc (flat_map framed (flat_map messages_of w.rounds ++ messages_of last)) (flat_map framed w.more) split.rest) in
    record {
      from = All-map (λ (m : Message). m.packet.from ≡ t.peer) message es (subst (λ xs. All (λ (e : Entry). e.packet.from ≡ t.peer) xs) (sym w.taken_are) (All-append (λ (e : Entry). e.packet.from ≡ t.peer) (entries w.rounds) last.entries (from_on quiet t.peer [] [] w.rounds w.rounds_are) w.last_is.from));
      to = to;
      rounds = map round w.rounds ++ round last ∷ [];
      pieces = w.pieces ∙ (ap (λ ps. ps ++ last.piece ∷ []) (pieces_in w.rounds) ∙ sym (map-append (λ (r : page.Round). r.piece) (map round w.rounds) (round last ∷ [])));
      messages_are = ap packets w.taken_are ∙ (map-append message (entries w.rounds) last.entries ∙ (ap₂ (λ xs ys. xs ++ ys) (messages_in w.rounds) (sym (append-nil (packets last.entries))) ∙ sym (flat_map-append (λ (r : page.Round). r.messages) (map round w.rounds) (round last ∷ []))));
      read = fits quiet t.peer [] [] [] w.rounds (round last ∷ []) refl w.rounds_are knew.0 (λ held is. (
        flat_map framed w.more ++ split.rest,
        held_on (octets_of w.rounds) last.piece.octets held (flat_map framed w.more ++ split.rest) (flat_map messages_of w.rounds) (messages_of last) is parts ∙ ap (λ xs. xs ++ (flat_map framed w.more ++ split.rest)) (sym (framed_in last.entries)),
        All-map (λ (m : Message). last.piece.known ≤ m.known) message last.entries knew.1,
        tt,
      ));
      cut = wrote.0;
      written = wrote.1;
    }

abbrev KnewTalk : (blind : Bool) (quiet : List ℕ → Bool) (t : Talk) (es : List Entry) (tries : List Try) → tcp.IsTalk blind quiet t es tries → Type 0
KnewTalk true quiet t es tries h = KnewPart true quiet t es tries h
KnewTalk false quiet t es tries (inl h) = KnewAll h.rounds
KnewTalk false quiet t es tries (inr h) = KnewPart false quiet t es tries h

is_talk : (blind : Bool) (quiet : List ℕ → Bool) (t : Talk) (es : List Entry) (tries : List Try) → (h : tcp.IsTalk blind quiet t es tries) → KnewTalk blind quiet t es tries h → AllTo t.peer tries → IsTalk t (packets es) tries
is_talk true quiet t es tries h knew to = is_in_part true quiet t es tries h knew to
is_talk false quiet t es tries (inl h) knew to = is_whole quiet t es tries h knew to
is_talk false quiet t es tries (inr h) knew to = is_in_part false quiet t es tries h knew to

-- a conversation's replies go to its peer, and the run goes on behind them
whole_parts : (a : Answers Version) (h : List Version) (w n floor : ℕ) (t : Talk) (es more : List Entry) (tries further : List Try) → (c : IsWhole a.silent t es tries) → IsLaneRun a h w n floor (es ++ more) (tries ++ further) → Parts (KnewAll c.rounds) a h w t.peer tries more further
whole_parts a h w n floor t es more tries further c run =
    let here = subst (λ ts. IsLaneRun a h w n floor (entries c.rounds ++ more) (ts ++ further)) c.tries_are (subst (λ xs. IsLaneRun a h w n floor (xs ++ more) (tries ++ further)) c.taken_are run) in
    subst (λ ts. Parts (KnewAll c.rounds) a h w t.peer ts more further) (sym c.tries_are) (rounds_parts a h w n floor t.peer [] [] c.rounds more further c.rounds_are here)

in_part_parts : (a : Answers Version) (h : List Version) (w n floor : ℕ) (blind : Bool) (t : Talk) (es more : List Entry) (tries further : List Try) → (c : IsTakenInPart blind a.silent t es tries) → IsLaneRun a h w n floor (es ++ more) (tries ++ further) → Parts (KnewPart blind a.silent t es tries c) a h w t.peer tries more further
in_part_parts a h w n floor blind t es more tries further c run =
    let here = subst (λ ts. IsLaneRun a h w n floor ((entries c.rounds ++ c.last.entries) ++ more) (ts ++ further)) c.tries_are (subst (λ xs. IsLaneRun a h w n floor (xs ++ more) (tries ++ further)) c.taken_are run) in
    subst (λ ts. Parts (KnewPart blind a.silent t es tries c) a h w t.peer ts more further) (sym c.tries_are) (two_parts (KnewAll c.rounds) (Knew c.last.piece.known c.last.entries) a h w n floor t.peer (entries c.rounds) c.last.entries more (replies c.rounds) c.last.tries further
    (λ m known first. rounds_parts a h w m known t.peer [] [] c.rounds (c.last.entries ++ more) (c.last.tries ++ further) c.rounds_are first)
    (λ m known on. known_parts a h w m known c.last.piece.known t.peer c.last.entries c.last.tries more further c.last_is.known c.last_is.from on) here)

talk_parts : (a : Answers Version) (h : List Version) (w n floor : ℕ) (blind : Bool) (t : Talk) (es more : List Entry) (tries further : List Try) → (c : tcp.IsTalk blind a.silent t es tries) → IsLaneRun a h w n floor (es ++ more) (tries ++ further) → Parts (KnewTalk blind a.silent t es tries c) a h w t.peer tries more further
talk_parts a h w n floor true t es more tries further c run = in_part_parts a h w n floor true t es more tries further c run
talk_parts a h w n floor false t es more tries further (inl c) run = whole_parts a h w n floor t es more tries further c run
talk_parts a h w n floor false t es more tries further (inr c) run = in_part_parts a h w n floor false t es more tries further c run

-- ALL CONVERSATIONS

abbrev share : Conversation → Share
share c = record { messages = packets c.taken; replies = c.tries }

are_talks : (a : Answers Version) (h : List Version) (w n floor : ℕ) (cs : List Conversation) → All (λ (c : Conversation). tcp.IsTalk c.blind a.silent c.talk c.taken c.tries) cs → IsLaneRun a h w n floor (flat_map (λ (c : Conversation). c.taken) cs) (flat_map (λ (c : Conversation). c.tries) cs) → AreTalks (map (λ (c : Conversation). c.talk) cs) (map share cs)
are_talks a h w n floor [] all run = refl
are_talks a h w n floor (c ∷ cs) all run =
    let first = all 0 c (omega arith) in
    let parts = talk_parts a h w n floor c.blind c.talk c.taken (flat_map (λ (c : Conversation). c.taken) cs) c.tries (flat_map (λ (c : Conversation). c.tries) cs) first run in
    (is_talk c.blind a.silent c.talk c.taken c.tries first parts.knew parts.to, are_talks a h w parts.n parts.floor cs (λ k d within. all (suc k) d (omega arith)) parts.run)

all_messages : (cs : List Conversation) → flat_map (λ (s : Share). s.messages) (map share cs) ≡ packets (flat_map (λ (c : Conversation). c.taken) cs)
all_messages [] = refl
all_messages (c ∷ cs) = ap (λ ps. packets c.taken ++ ps) (all_messages cs) ∙ sym (map-append message c.taken (flat_map (λ (c : Conversation). c.taken) cs))

all_replies : (cs : List Conversation) → flat_map (λ (s : Share). s.replies) (map share cs) ≡ flat_map (λ (c : Conversation). c.tries) cs
all_replies [] = refl
all_replies (c ∷ cs) = ap (λ ps. c.tries ++ ps) (all_replies cs)

-- streams tell of no answer more, and of no conversation
abbrev pub StreamStays : StreamsTold → StreamsTold → Type 0
StreamStays b a = (a.closed ≡ b.closed) × (a.current ≡ b.current) × (a.answers ≡ b.answers)

-- the streams tell of no conversation more; the door's count did not fall
abbrev pub IsStreamIdle : StreamLaneTold → StreamLaneTold → Type 0
IsStreamIdle before after = BothTell before.port after.port StreamStays × (before.door_faults ≤ after.door_faults)

-- the streams were opened at most
same_streams : (s : Option StreamsTold) → BothTell s s StreamStays
same_streams None = tt
same_streams (Some b) = (refl, refl, refl)

open_streams : (listen : Listen) (r : Opening) (b c : StreamsTold) → streams.IsOpening listen r b c → StreamStays b c
open_streams listen opening.Ready b c h = (ap (λ (p : StreamsTold). p.closed) h, ap (λ (p : StreamsTold). p.current) h, ap (λ (p : StreamsTold). p.answers) h)
open_streams listen opening.Failed b c h = (ap (λ (p : StreamsTold). p.closed) h.1, ap (λ (p : StreamsTold). p.current) h.1, ap (λ (p : StreamsTold). p.answers) h.1)

pub idle_streams : (a b c : StreamLaneTold) → IsStreamIdle a b → IsStreamIdle b c → IsStreamIdle a c
idle_streams a b c h i = (
  tells_on a.port b.port c.port StreamStays StreamStays StreamStays (λ x y z f g. (g.0 ∙ f.0, g.1 ∙ f.1, g.2 ∙ f.2)) h.0 i.0,
  let l = h.1 in
      let m = i.1 in
      omega (arith, l, m),
)

pub stream_same : (a b : StreamLaneTold) → a ≡ b → IsStreamIdle b a
stream_same a b same = subst (IsStreamIdle b) (sym same) (same_streams b.port, omega arith)

opened : (listen : Listen) (r : Opening) (b c : StreamLaneTold) → IsStreamOpening listen r b c → IsStreamIdle b c
opened listen r b c h = (
  tells_so b.port c.port (streams.IsOpening listen r) StreamStays (open_streams listen r) h.port,
  let same = ap (λ (l : StreamLaneTold). l.door_faults) h.rest in
      omega (arith, same),
)

pub stream_ready : (tcp : Option Listen) (b c : StreamLaneTold) → IsStreamReady tcp b c → IsStreamIdle b c
stream_ready None b c h = stream_same c b h
stream_ready (Some at) b c h = opened at opening.Ready b c h

pub stream_shut : (tcp : Option Listen) (b c : StreamLaneTold) → IsStreamShut tcp b c → IsStreamIdle b c
stream_shut None b c h = absurd h
stream_shut (Some at) b c h = opened at opening.Failed b c h

pub stream_idle : (w : ℕ) (t : Option Plan) (maps : List Version) (result : Status) (a c : StreamLaneTold) → AreMaps t maps → IsStreamIdle a c → IsStreamLane w t maps result a c
stream_idle w t maps result a c good h = record {
  events = [];
  worker = record { further = []; good = subst (AreMaps t) (sym (append-nil maps)) good; none = λ ok. refl; cause = inl refl; right = tt; notes = inl refl; answered = λ ok. refl };
  talks = tells_so a.port c.port StreamStays (HaveTalked [] [] c.notes.given) (λ x y g none. ([], [], g.0 ∙ sym (append-nil x.closed), refl, refl, refl, none_minded x.answers c.notes.given)) h.0;
}

-- what a lane's turns tell of conversations
abbrev Runs : List Version → ℕ → Bool → List StreamTurn → ℕ → Type 0
Runs over w closes log refusals = (b : StreamsTold) → b.current ≡ None → (talks : List Talk) × ((closing_if closes (fold stream_turn b log)).closed ≡ b.closed ++ talks) × ((closing_if closes (fold stream_turn b log)).current ≡ None)
    × IsStreamRun stream_replies over w 0 0 refusals talks (entries_of stream_replies.way (lane_of log)) (tries_of (lane_of log))

made_stream : (t : Option Plan) (maps further over : List Version) (result : Status) (a b c : StreamLaneTold) (w refusals : ℕ) (closes : Bool) (log : List StreamTurn) → AreMaps t (maps ++ further) → (result ≡ status.Ok → (further ≡ []) × AreLooked (lane_of log)) → (further ≡ []) ⊎ Rose b.door_faults c.door_faults ⊎ (length maps ≤ c.greatest)
    → IsLaneRun stream_replies (maps ++ further) w 0 0 (entries_of stream_replies.way (lane_of log)) (tries_of (lane_of log)) → fate.IsTold 0 (lane_of log) → AreFirst c.notes → c.notes ≡ fold notes_turn no_notes (map lead_of log) → IsStreamIdle a b
    → BothTell b.port c.port (λ x y. y ≡ closing_if closes (fold stream_turn x log)) → Runs over w closes log refusals → IsStreamLane w t maps result a c
made_stream t maps further over result a b c w refusals closes log good well cause run minded first notes still port runs =
    let numbers = numbers_are (map lead_of log) c.notes first notes in
    let events = made is_silent (lane_of log) (tries_of (lane_of log)) in
    record {
      events = events;
      worker = record { further = further; good = good; none = λ ok. (well ok).0; answered = λ ok. none_lost way.Stream (maps ++ further) w (lane_of log) (well ok).1 0 0 (tries_of (lane_of log)) run; cause = cause_from a.door_faults b.door_faults c.door_faults (further ≡ []) (length maps ≤ c.greatest) still.1 cause; right = right way.Stream (maps ++ further) w (lane_of log) 0 0 0 0 (tries_of (lane_of log)) run minded (omega arith); notes = inr (heard_made is_silent (lane_of log) (tries_of (lane_of log)) ∙ (lane_notes log ∙ numbers.0), numbers.1) };
      talks = tells_on a.port b.port c.port StreamStays (λ x y. y ≡ closing_if closes (fold stream_turn x log)) (HaveTalked (flat_map taken events) (flat_map tried events) c.notes.given) (λ x y z f g. talked x y z f g) still.0 port;
    }
  where
    talked : (x y z : StreamsTold) → StreamStays x y → z ≡ closing_if closes (fold stream_turn y log) → HaveTalked (flat_map taken (made is_silent (lane_of log) (tries_of (lane_of log)))) (flat_map tried (made is_silent (lane_of log) (tries_of (lane_of log)))) c.notes.given x z
    talked x y z f g none =
        let r = runs y (f.1 ∙ none) in
        let s = r.3 in (
          r.0,
          map share s.conversations,
          ap (λ (p : StreamsTold). p.closed) g ∙ r.1 ∙ ap (λ xs. xs ++ r.0) f.0,
          subst (λ ts. AreTalks ts (map share s.conversations)) (sym s.talks_are) (are_talks stream_replies over w 0 0 s.conversations s.each (subst (λ ts. IsLaneRun stream_replies over w 0 0 (flat_map (λ (c : Conversation). c.taken) s.conversations) ts) s.tries_are (subst (λ xs. IsLaneRun stream_replies over w 0 0 xs (tries_of (lane_of log))) s.taken_are s.run))),
          all_messages s.conversations ∙ ap packets (sym s.taken_are) ∙ sym (taken_made way.Stream (maps ++ further) w (lane_of log) 0 0 (tries_of (lane_of log)) run),
          all_replies s.conversations ∙ sym s.tries_are ∙ sym (tried_made way.Stream (maps ++ further) w (lane_of log) 0 0 (tries_of (lane_of log)) run),
          pieces_minded closes log x.answers y c.notes r.0 f.2 (f.1 ∙ none) r.1 minded notes,
        )

pub stream_done : (t : Plan) (turns : ℕ) (first : Version) (rest : List Version) (w : ℕ) (result : Status) (x b c : StreamLaneTold) (e : Option Ended) → first.plan ≡ t → AreMaps (Some t) (first ∷ rest) → (result ≡ status.Ok → ⊥) → IsStreamIdle x b → AreStreamsDone turns first rest w e b c
    → IsStreamLane w (Some t) (first ∷ rest) result x c
stream_done t turns first rest w result x b c None plan good not_ok still d = stream_idle w (Some t) (first ∷ rest) result x c good (subst (IsStreamIdle x) (sym d) still)
stream_done t turns first rest w result x b c (Some e) plan good not_ok still d =
    let s = stands t stream_replies first rest w (lane_of d.log) d.served e d.shown b c plan good d.served_log in
    made_stream (Some t) (first ∷ rest) s.further d.served_log.over result x b c w _ d.closes d.log s.good (λ ok. absurd (not_ok ok)) s.cause s.run d.served_log.told d.served_log.numbers d.notes still d.streams d.runs

-- streams that tell of nothing
abbrev nothing : StreamsTold
nothing = record { opens = []; closed = []; current = None; answers = 0; failed = 0; is_ended = false; greatest = 0; shortest = None }

-- a lane for conversations that ended well had no look refused
last_said : (s s' : TalkState) (before : List StreamTurn) (t : StreamTurn) → AreRuled s (before ++ t ∷ []) s' → t.came ≡ turn.ended → t.said ≡ []
last_said s s' [] t ruled is = (subst (λ came. IsRuled came s t ruled.0) is ruled.1).1
last_said s s' (b ∷ before) t ruled is = last_said ruled.0 s' before t ruled.2 is

last_turns : (t : StreamTurn) → t.said ≡ [] → lane_of (t ∷ []) ≡ lead_of t ∷ []
last_turns t none = ap (λ (said : List Said). (lead_of t ∷ map (turn_of t.peer) said) ++ []) none

stream_looked : (turns : ℕ) (log : List StreamTurn) (e : Ended) → IsStreamEnd turns log e → (e ≡ end.Stopped) ⊎ (e ≡ end.PortEnd) → (talk : TalkState) → AreRuled no_talk log talk → AreLooked (lane_of log)
stream_looked turns log end.Stopped ending well talk ruled = all_looked (lane_of log) ending.0
stream_looked turns log end.PortEnd (before, t, is, calm, few, came, within) well talk ruled =
    let none : t.said ≡ [] = last_said no_talk talk before t (subst (λ ts. AreRuled no_talk ts talk) is ruled) came in
    let turns_are : lane_of log ≡ lane_of before ++ lead_of t ∷ [] = ap lane_of is ∙ flat_map-append turns_of before (t ∷ []) ∙ ap (λ ts. lane_of before ++ ts) (last_turns t none) in
    subst AreLooked (sym turns_are) (last_looked (lane_of before) (lead_of t) calm (ap lane_came came))
stream_looked turns log end.PortFault ending well talk ruled = elim well [ inl e ↦ absurd (cc) | inr e ↦ absurd (cc) ]
stream_looked turns log end.CellFault ending well talk ruled = elim well [ inl e ↦ absurd (cc) | inr e ↦ absurd (cc) ]
stream_looked turns log (end.Above known newest) ending well talk ruled = absurd ending
stream_looked turns log end.Spent ending well talk ruled = elim well [ inl e ↦ absurd (cc) | inr e ↦ absurd (cc) ]

pub stream_well : (t : Plan) (tcp : Option Listen) (turns : ℕ) (maps : List Version) (w : ℕ) (result : Status) (x b c : StreamLaneTold) → AreMaps (Some t) maps → IsStreamIdle x b → IsStreamWell tcp turns maps w b c → IsStreamLane w (Some t) maps result x c
stream_well t None turns maps w result x b c good still d = stream_idle w (Some t) maps result x c good (subst (IsStreamIdle x) (sym d) still)
stream_well t (Some at) turns maps w result x b c good still d =
    made_stream (Some t) maps [] maps result x b c w 0 d.closes d.log (subst (AreMaps (Some t)) (sym (append-nil maps)) good) (λ ok. (refl, stream_looked turns d.log d.ended d.ending d.well d.rules.0 d.rules.1)) (inl refl) (subst (λ h. IsLaneRun stream_replies h w 0 0 (entries_of stream_replies.way (lane_of d.log)) (tries_of (lane_of d.log))) (sym (append-nil maps)) (run_of maps w d.log d.closes d.runs)) d.told d.numbers d.notes still d.streams d.runs
  where
    run_of : (maps : List Version) (w : ℕ) (log : List StreamTurn) (closes : Bool) → Runs maps w closes log 0 → IsLaneRun stream_replies maps w 0 0 (entries_of stream_replies.way (lane_of log)) (tries_of (lane_of log))
    run_of maps w log closes runs = (runs nothing refl).3.run
