-- A worker knew of each note at each answer of its port behind it.
use Rattle.std.proofs.Common.{◌≡◌, ◌⊎◌, inl, inr, ℕ, suc, ◌+◌, ◌-◌, ◌^◌, ◌<◌, ◌≤◌, Bool, true, false, List, [], ◌∷◌, ◌++◌, length, map, fold, flat_map, All, Contains, Option, None, Some, refl, ap, sym, subst, ◌∙◌, arith, append_assoc, append-nil}
use Rattle.std.specs.List.{range_with_len}
use Rattle.std.proofs.lemmas.List.Elements.{Contains-append_left, Contains-append_right, Contains-append_cases}
use Rattle.std.proofs.lemmas.Grind.{flat_map-append}
use Rattle.std.proofs.lemmas.List.{append_cancel_left, map-append}
use Rattle.addr_text.specs.declared.address.Peer.{Peer}
use Rattle.outside.specs.Faults.{raised}
use Rattle.outside.specs.Notes.{Given, NotesTold}
use Rattle.outside.specs.Port.{PortTold, Taken}
use Rattle.outside.specs.Streams.{Piece, StreamsTold, Talk, listed}
use Rattle.outside.specs.Streams as streams
use Rattle.past_log.specs.Notes.{no_notes}
use Rattle.map_cell.specs.Rows.{AreFirst}
use Rattle.lane_model.specs.Turns.{Came, Fate, IsTold, Turn, floor_after, idle, oversize, ended, failed, notes_turn, port_after, port_turn, took}
use Rattle.lane_model.specs.Turns as fate
use Rattle.lane_model.proofs.Noted.{numbers_folded}
use Rattle.tcp_lane.specs.Turns.{Said, StreamCame, StreamTurn, closing_if, lane_came, lane_of, lead_of, saying, stream_after, stream_turn, turn_of}
use Rattle.tcp_lane.specs.Turns as turn
use Rattle.headline.specs.Headline.{AreMinded, IsBehind, numbers}
use Rattle.headline.proofs.Lists.{In, contains_from, from_map, in_from}

-- WHAT WAS GIVEN AND ASKED

-- the notes of some turns, the first of which is behind so many None answers; and the place and what was known of each answer of the port, the first of which is behind so many
abbrev pub gives : ℕ → List Turn → List Given
gives nones [] = []
gives nones (t ∷ log) = map (λ s. record { number = s; place = nones }) t.notes ++ gives (raised nones 1) log

abbrev pub asks : ℕ → List Turn → List (ℕ × ℕ)
asks place [] = []
asks place (t ∷ log) = (place, t.known) ∷ asks (raised place 1) log

given_folded : (log : List Turn) (n : NotesTold) → (fold notes_turn n log).given ≡ n.given ++ gives n.nones log
given_folded [] n = sym (append-nil n.given)
given_folded (t ∷ log) n = given_folded log (notes_turn n t) ∙ append_assoc n.given (map (λ s. record { number = s; place = n.nones }) t.notes) (gives (raised n.nones 1) log)

pub numbers_are : (log : List Turn) (n : NotesTold) → AreFirst n → n ≡ fold notes_turn no_notes log → (flat_map (λ (t : Turn). t.notes) log ≡ numbers n.given) × (numbers n.given ≡ range_with_len 0 (length n.given))
numbers_are log n first is = (sym (ap (λ (x : NotesTold). numbers x.given) is ∙ numbers_folded log no_notes), first)

-- what is known never falls, and is no less than each note that was given by then
abbrev pub IsRising : ℕ → List Turn → Type 0
IsRising floor [] = Unit {0}
IsRising floor (t ∷ log) = (floor ≤ t.known) × All (λ s. s ≤ t.known) t.notes × IsRising t.known log

rising_low : (floor low : ℕ) (log : List Turn) → low ≤ floor → IsRising floor log → IsRising low log
rising_low floor low [] le r = tt
rising_low floor low (t ∷ log) le r = let here = r.0 in (omega (arith, le, here), r.1, r.2)

pub told_rises : (floor : ℕ) (log : List Turn) → IsTold floor log → IsRising floor log
told_rises floor [] told = tt
told_rises floor (t ∷ log) told =
    let shown = told.0 in
    let known = told.1 in
    (omega (arith, shown, known), told.2, rising_low (floor_after t.known t.came) t.known log told.3 (told_rises (floor_after t.known t.came) log told.4))

-- MINDING

none_in : {X : Type 0} (x : X) → Contains [] x → ⊥
none_in x has = in_from [] x has

cons_cases : {X : Type 0} (y : X) (ys : List X) (x : X) → Contains (y ∷ ys) x → (y ≡ x) ⊎ Contains ys x
cons_cases y ys x has = elim (in_from (y ∷ ys) x has) [ inl is ↦ inl is | inr more ↦ inr (contains_from ys x more) ]

here_in : {X : Type 0} (y : X) (ys : List X) (x : X) → y ≡ x → Contains (y ∷ ys) x
here_in y ys x is = contains_from (y ∷ ys) x (inl is)

later_in : {X : Type 0} (y : X) (ys : List X) (x : X) → Contains ys x → Contains (y ∷ ys) x
later_in y ys x has = contains_from (y ∷ ys) x (inr (in_from ys x has))

abbrev given_at : ℕ → ℕ → Given
given_at nones s = record { number = s; place = nones }

number_below : (nones known : ℕ) (notes : List ℕ) (g : Given) → All (λ s. s ≤ known) notes → Contains (map (given_at nones) notes) g → (g.number ≤ known) × (g.place ≡ nones)
number_below nones known [] g all has = absurd (none_in g has)
number_below nones known (s ∷ notes) g all has = elim (cons_cases (given_at nones s) (map (given_at nones) notes) g has) [
  | inl is ↦ (subst (λ (x : Given). x.number ≤ known) is (all 0 s (omega arith)), sym (ap (λ (x : Given). x.place) is))
  | inr more ↦ number_below nones known notes g (λ k d within. all (suc k) d (omega (arith, within))) more
]

place_of : (nones : ℕ) (notes : List ℕ) (g : Given) → Contains (map (given_at nones) notes) g → g.place ≡ nones
place_of nones [] g has = absurd (none_in g has)
place_of nones (s ∷ notes) g has = elim (cons_cases (given_at nones s) (map (given_at nones) notes) g has) [
  | inl is ↦ sym (ap (λ (x : Given). x.place) is)
  | inr more ↦ place_of nones notes g more
]

places_low : (nones : ℕ) (log : List Turn) (g : Given) → Contains (gives nones log) g → nones ≤ g.place
places_low nones [] g has = absurd (none_in g has)
places_low nones (t ∷ log) g has = elim (Contains-append_cases (map (given_at nones) t.notes) (gives (raised nones 1) log) g has) [
  | inl here ↦ let is = place_of nones t.notes g here in omega (arith, is)
  | inr later ↦ let low = places_low (raised nones 1) log g later in omega (arith, low)
]

asked_high : (floor first : ℕ) (log : List Turn) (place known : ℕ) → IsRising floor log → Contains (asks first log) (place, known) → floor ≤ known
asked_high floor first [] place known r has = absurd (none_in (place, known) has)
asked_high floor first (t ∷ log) place known r has = elim (cons_cases (first, t.known) (asks (raised first 1) log) (place, known) has) [
  | inl is ↦ let here = r.0 in let same : t.known ≡ known = ap (λ (x : ℕ × ℕ). x.1) is in omega (arith, here, same)
  | inr more ↦ let here = r.0 in let high = asked_high t.known (raised first 1) log place known r.2 more in omega (arith, here, high)
]

-- an answer ahead of a note is not behind it
ahead : (first i place given : ℕ) → place ≡ raised first i → raised 0 (i + 1) ≤ given → first + given ≤ place → place < 2 ^ 64 - 1 → ⊥
ahead first i place given is low behind within = omega (arith, is, low, behind, within)

next : (n i : ℕ) → raised (raised n i) 1 ≡ raised n (i + 1)
next n i = omega arith

minds : (floor first i : ℕ) (log : List Turn) → IsRising floor log → (g : Given) (place known : ℕ) → Contains (gives (raised 0 i) log) g → Contains (asks (raised first i) log) (place, known) → IsBehind first g place → g.number ≤ known
minds floor first i [] rising g place known has asked behind = absurd (none_in g has)
minds floor first i (t ∷ log) rising g place known has asked behind =
    elim (Contains-append_cases (map (given_at (raised 0 i)) t.notes) (gives (raised (raised 0 i) 1) log) g has) [
      | inl here ↦ let low = (number_below (raised 0 i) t.known t.notes g rising.1 here).0 in elim (cons_cases (raised first i, t.known) (asks (raised (raised first i) 1) log) (place, known) asked) [
        | inl is ↦ let same : t.known ≡ known = ap (λ (x : ℕ × ℕ). x.1) is in omega (arith, low, same)
        | inr more ↦ let high = asked_high t.known (raised (raised first i) 1) log place known rising.2 more in omega (arith, low, high)
      ]
      | inr later ↦ let after = subst (λ (n : ℕ). Contains (gives n log) g) (next 0 i) later in elim (cons_cases (raised first i, t.known) (asks (raised (raised first i) 1) log) (place, known) asked) [
        | inl is ↦ absurd (ahead first i place g.place (sym (ap (λ (x : ℕ × ℕ). x.0) is)) (places_low (raised 0 (i + 1)) log g after) behind.0 behind.1)
        | inr more ↦ minds t.known first (i + 1) log rising.2 g place known after (subst (λ (n : ℕ). Contains (asks n log) (place, known)) (next first i) more) behind
      ]
    ]

-- of all turns of a lane
pub all_minded : (first : ℕ) (log : List Turn) (n : NotesTold) → IsRising 0 log → n ≡ fold notes_turn no_notes log → AreMinded first n.given (asks first log)
all_minded first log n rising is g place known has asked behind =
    let zero_is : first ≡ raised first 0 = omega arith in
    minds 0 first 0 log rising g place known (subst (λ (gs : List Given). Contains gs g) (ap (λ (x : NotesTold). x.given) is ∙ given_folded log no_notes) has) (subst (λ (k : ℕ). Contains (asks k log) (place, known)) zero_is asked) behind

pub fewer_minded : (first : ℕ) (notes : List Given) (all some : List (ℕ × ℕ)) → ((x : ℕ × ℕ) → Contains some x → Contains all x) → AreMinded first notes all → AreMinded first notes some
fewer_minded first notes all some within minded g place known has asked behind = minded g place known has (within (place, known) asked) behind

pub none_minded : (first : ℕ) (notes : List Given) → AreMinded first notes []
none_minded first notes g place known has asked behind = absurd (none_in (place, known) asked)

-- DATAGRAMS

-- the datagrams of some turns, as a port tells of them
abbrev taken_by : ℕ → ℕ → Came → List Taken
taken_by place known idle = []
taken_by place known oversize = []
taken_by place known ended = []
taken_by place known failed = []
taken_by place known (took d fate) = (record { packet = d; known = known; place = place }) ∷ []

abbrev pub takes : ℕ → List Turn → List Taken
takes place [] = []
takes place (t ∷ log) = taken_by place t.known t.came ++ takes (raised place 1) log

one_taken : (known : ℕ) (came : Came) (p : PortTold) → ((port_after known came p).taken ≡ p.taken ++ taken_by p.recvs known came) × ((port_after known came p).recvs ≡ raised p.recvs 1)
one_taken known idle p = (sym (append-nil p.taken), refl)
one_taken known oversize p = (sym (append-nil p.taken), refl)
one_taken known ended p = (sym (append-nil p.taken), refl)
one_taken known failed p = (sym (append-nil p.taken), refl)
one_taken known (took d fate.silent) p = (refl, refl)
one_taken known (took d fate.refused) p = (refl, refl)
one_taken known (took d (fate.tried serial octets went)) p = (refl, refl)

pub takes_folded : (log : List Turn) (p : PortTold) → (fold port_turn p log).taken ≡ p.taken ++ takes p.recvs log
takes_folded [] p = sym (append-nil p.taken)
takes_folded (t ∷ log) p =
    let one = one_taken t.known t.came p in
    takes_folded log (port_turn p t) ∙ (ap (λ (xs : List Taken). xs ++ takes (port_turn p t).recvs log) one.0 ∙ (append_assoc p.taken (taken_by p.recvs t.known t.came) (takes (port_turn p t).recvs log) ∙ ap (λ (k : ℕ). p.taken ++ (taken_by p.recvs t.known t.came ++ takes k log)) one.1))

-- the place of a datagram, and what its worker knew
abbrev pub asked_at : Taken → ℕ × ℕ
asked_at x = (x.place, x.known)

taken_asked : (place known : ℕ) (came : Came) (log : List Turn) (x : ℕ × ℕ) → In (map asked_at (taken_by place known came)) x → x ≡ (place, known)
taken_asked place known idle log x has = absurd has
taken_asked place known oversize log x has = absurd has
taken_asked place known ended log x has = absurd has
taken_asked place known failed log x has = absurd has
taken_asked place known (took d fate) log x has = elim has [ inl is ↦ sym is | inr none ↦ absurd none ]

takes_asked : (place : ℕ) (log : List Turn) (x : ℕ × ℕ) → Contains (map asked_at (takes place log)) x → Contains (asks place log) x
takes_asked place [] x has = absurd (none_in x has)
takes_asked place (t ∷ log) x has = elim (Contains-append_cases (map asked_at (taken_by place t.known t.came)) (map asked_at (takes (raised place 1) log)) x (subst (λ (xs : List (ℕ × ℕ)). Contains xs x) (map-append asked_at (taken_by place t.known t.came) (takes (raised place 1) log)) has)) [
  | inl here ↦ here_in (place, t.known) (asks (raised place 1) log) x (sym (taken_asked place t.known t.came log x (in_from (map asked_at (taken_by place t.known t.came)) x here)))
  | inr later ↦ later_in (place, t.known) (asks (raised place 1) log) x (takes_asked (raised place 1) log x later)
]

-- at each datagram that a port tells of some turns the worker minded its notes
pub datagrams_minded : (log : List Turn) (first : ℕ) (p : PortTold) (n : NotesTold) (new : List Taken) → p.recvs ≡ first → (fold port_turn p log).taken ≡ p.taken ++ new → IsTold 0 log → n ≡ fold notes_turn no_notes log → AreMinded first n.given (map asked_at new)
datagrams_minded log first p n new from taken told is =
    let same : takes p.recvs log ≡ new = append_cancel_left p.taken (takes p.recvs log) new (sym (takes_folded log p) ∙ taken) in
    subst (λ (k : ℕ). AreMinded k n.given (map asked_at new)) from (subst (λ (xs : List Taken). AreMinded p.recvs n.given (map asked_at xs)) same
    (fewer_minded p.recvs n.given (asks p.recvs log) (map asked_at (takes p.recvs log)) (takes_asked p.recvs log) (all_minded p.recvs log n (told_rises 0 log told) is)))

-- CONVERSATIONS

-- the turns of a lane for conversations, but for their messages
through : (floor : ℕ) (peer : Peer) (said : List Said) (log : List Turn) → IsTold floor (map (turn_of peer) said ++ log) → (f : ℕ) × (floor ≤ f) × IsTold f log
through floor peer [] log told = (floor, omega arith, told)
through floor peer (s ∷ said) log told =
    let r = through (floor_after s.known (took (record { octets = s.octets; from = peer }) s.fate)) peer said log told.4 in
    let a = told.0 in
    let b = told.3 in
    let c = r.1 in (r.0, omega (arith, a, b, c), r.2)

pub leads_rise : (floor : ℕ) (log : List StreamTurn) → IsTold floor (lane_of log) → IsRising floor (map lead_of log)
leads_rise floor [] told = tt
leads_rise floor (t ∷ log) told =
    let r = through (floor_after t.known (lane_came t.came)) t.peer t.said (lane_of log) told.4 in
    let a = told.0 in
    let b = told.1 in
    let c = told.3 in
    let d = r.1 in
    (omega (arith, a, b), told.2, rising_low r.0 t.known (map lead_of log) (omega (arith, c, d)) (leads_rise r.0 log r.2))

abbrev pieces_of : List Talk → List Piece
pieces_of talks = flat_map (λ (t : Talk). t.pieces) talks

abbrev pub read_at : Piece → ℕ × ℕ
read_at x = (x.place, x.known)

-- streams that go on: the conversations that were closed in between, and that each piece of those and of the open one is of the one that was open, or new
record Grows (b c : StreamsTold) (new : List (ℕ × ℕ)) : Type 0 where
  more : List Talk
  closed : c.closed ≡ b.closed ++ more
  pieces : (x : Piece) → Contains (pieces_of (more ++ listed c.current)) x → Contains (pieces_of (listed b.current)) x ⊎ Contains new (read_at x)

pieces_append : (xs ys : List Talk) → pieces_of (xs ++ ys) ≡ pieces_of xs ++ pieces_of ys
pieces_append xs ys = flat_map-append (λ (t : Talk). t.pieces) xs ys

grows_on : (b c d : StreamsTold) (new : List (ℕ × ℕ)) → Grows b c new → Grows c d new → Grows b d new
grows_on b c d new g h = record {
  more = g.more ++ h.more;
  closed = h.closed ∙ (ap (λ (l : List Talk). l ++ h.more) g.closed ∙ append_assoc b.closed g.more h.more);
  pieces = λ x has. elim (Contains-append_cases (pieces_of g.more) (pieces_of (h.more ++ listed d.current)) x (subst (λ (l : List Piece). Contains l x) (ap pieces_of (append_assoc g.more h.more (listed d.current)) ∙ pieces_append g.more (h.more ++ listed d.current)) has)) [
    | inl first ↦ g.pieces x (subst (λ (l : List Piece). Contains l x) (sym (pieces_append g.more (listed c.current))) (Contains-append_left (pieces_of g.more) (pieces_of (listed c.current)) x first))
    | inr behind ↦ elim (h.pieces x behind) [
      | inl kept ↦ g.pieces x (subst (λ (l : List Piece). Contains l x) (sym (pieces_append g.more (listed c.current))) (Contains-append_right (pieces_of g.more) (pieces_of (listed c.current)) x kept))
      | inr here ↦ inr here
    ]
  ];
}

grows_more : (b c : StreamsTold) (new new' : List (ℕ × ℕ)) → ((x : ℕ × ℕ) → Contains new x → Contains new' x) → Grows b c new → Grows b c new'
grows_more b c new new' within g = record { more = g.more; closed = g.closed; pieces = λ x has. elim (g.pieces x has) [ inl old ↦ inl old | inr here ↦ inr (within (read_at x) here) ] }

grows_same : (b c : StreamsTold) (new : List (ℕ × ℕ)) → c.closed ≡ b.closed → pieces_of (listed c.current) ≡ pieces_of (listed b.current) → Grows b c new
grows_same b c new closed same = record { more = []; closed = closed ∙ sym (append-nil b.closed); pieces = λ x has. inl (subst (λ (l : List Piece). Contains l x) same has) }

grows_closing : (b : StreamsTold) (new : List (ℕ × ℕ)) → Grows b (streams.closing b) new
grows_closing b new = record { more = listed b.current; closed = refl; pieces = λ x has. inl (subst (λ (l : List Talk). Contains (pieces_of l) x) (append-nil (listed b.current)) has) }

grows_closed : (closes : Bool) (b : StreamsTold) (new : List (ℕ × ℕ)) → Grows b (closing_if closes b) new
grows_closed true b new = grows_closing b new
grows_closed false b new = grows_same b b new refl refl

changed_pieces : (f : Talk → Talk) → ((t : Talk) → (f t).pieces ≡ t.pieces) → (o : Option Talk) → pieces_of (listed (streams.changed f o)) ≡ pieces_of (listed o)
changed_pieces f same None = refl
changed_pieces f same (Some t) = ap (λ (l : List Piece). l ++ []) (same t)

grows_put : (cut : ℕ) (b : StreamsTold) (f : Fate) (new : List (ℕ × ℕ)) → Grows b (turn.put_for cut b f) new
grows_put cut b fate.silent new = grows_same b b new refl refl
grows_put cut b fate.refused new = grows_same b b new refl refl
grows_put cut b (fate.tried serial octets true) new = grows_same b (turn.put_for cut b (fate.tried serial octets true)) new refl (changed_pieces _ (λ t. refl) b.current)
grows_put cut b (fate.tried serial octets false) new = grows_same b (turn.put_for cut b (fate.tried serial octets false)) new refl (changed_pieces _ (λ t. refl) b.current)

put_answers : (cut : ℕ) (b : StreamsTold) (f : Fate) → (turn.put_for cut b f).answers ≡ b.answers
put_answers cut b fate.silent = refl
put_answers cut b fate.refused = refl
put_answers cut b (fate.tried serial octets true) = refl
put_answers cut b (fate.tried serial octets false) = refl

grows_saying : (cut : ℕ) (b : StreamsTold) (said : List Said) (new : List (ℕ × ℕ)) → Grows b (fold (saying cut) b said) new × ((fold (saying cut) b said).answers ≡ b.answers)
grows_saying cut b [] new = (grows_same b b new refl refl, refl)
grows_saying cut b (s ∷ said) new =
    let r = grows_saying cut (saying cut b s) said new in
    (grows_on b (saying cut b s) (fold (saying cut) b (s ∷ said)) new (grows_put cut b s.fate new) r.0, r.1 ∙ put_answers cut b s.fate)

-- a piece more of the conversation that is open
heard_pieces : (p : Piece) (o : Option Talk) (x : Piece) → Contains (pieces_of (listed (streams.changed (λ t. record t { pieces = t.pieces ++ p ∷ [] }) o))) x → Contains (pieces_of (listed o)) x ⊎ Contains (read_at p ∷ []) (read_at x)
heard_pieces p None x has = inl has
heard_pieces p (Some t) x has = elim (Contains-append_cases t.pieces (p ∷ []) x (subst (λ (l : List Piece). Contains l x) (append-nil (t.pieces ++ p ∷ [])) has)) [
  | inl old ↦ inl (Contains-append_left t.pieces [] x old)
  | inr here ↦ elim (cons_cases p [] x here) [ inl is ↦ inr (here_in (read_at p) [] (read_at x) (ap read_at is)) | inr none ↦ absurd (none_in x none) ]
]

grows_coming : (peer : Peer) (b : StreamsTold) (new : List (ℕ × ℕ)) → Grows b (streams.coming peer b) new
grows_coming peer b new = record {
  more = listed b.current;
  closed = refl;
  pieces = λ x has. elim (Contains-append_cases (pieces_of (listed b.current)) [] x (subst (λ (l : List Piece). Contains l x) (pieces_append (listed b.current) (listed (streams.coming peer b).current)) has)) [ inl old ↦ inl old | inr none ↦ absurd (none_in x none) ];
}

grows_after : (known : ℕ) (came : StreamCame) (b : StreamsTold) → Grows b (stream_after known came b) ((b.answers, known) ∷ []) × ((stream_after known came b).answers ≡ raised b.answers 1)
grows_after known turn.idle b = (grows_same b (stream_after known turn.idle b) _ refl refl, refl)
grows_after known turn.ended b = (grows_same b (stream_after known turn.ended b) _ refl refl, refl)
grows_after known turn.missed b = (grows_same b (stream_after known turn.missed b) _ refl refl, refl)
grows_after known (turn.come peer) b =
    let g = grows_coming peer (streams.answered known b) ((b.answers, known) ∷ []) in
    (record { more = g.more; closed = g.closed; pieces = g.pieces }, refl)
grows_after known (turn.got octets) b = (record { more = []; closed = sym (append-nil b.closed); pieces = heard_pieces (record { octets = octets; known = known; place = b.answers }) b.current }, refl)
grows_after known turn.quiet b = (grows_same b (stream_after known turn.quiet b) _ refl (changed_pieces _ (λ t. refl) b.current), refl)
grows_after known turn.shut b = (grows_same b (stream_after known turn.shut b) _ refl refl, refl)
grows_after known turn.broke b = (grows_same b (stream_after known turn.broke b) _ refl refl, refl)

closed_answers : (closes : Bool) (b : StreamsTold) → (closing_if closes b).answers ≡ b.answers
closed_answers true b = refl
closed_answers false b = refl

grows_turn : (b : StreamsTold) (t : StreamTurn) → Grows b (stream_turn b t) ((b.answers, t.known) ∷ []) × ((stream_turn b t).answers ≡ raised b.answers 1)
grows_turn b t =
    let new = (b.answers, t.known) ∷ [] in
    let one = grows_after t.known t.came b in
    let c = stream_after t.known t.came b in
    let two = grows_saying t.cut c t.said new in
    let d = fold (saying t.cut) c t.said in
    (grows_on b d (closing_if t.closes d) new (grows_on b c d new one.0 two.0) (grows_closed t.closes d new), closed_answers t.closes d ∙ (two.1 ∙ one.1))

grows_log : (b : StreamsTold) (log : List StreamTurn) → Grows b (fold stream_turn b log) (asks b.answers (map lead_of log))
grows_log b [] = grows_same b b [] refl refl
grows_log b (t ∷ log) =
    let one = grows_turn b t in
    let c = stream_turn b t in
    let rest = subst (λ (k : ℕ). Grows c (fold stream_turn c log) (asks k (map lead_of log))) one.1 (grows_log c log) in
    let all = asks b.answers (map lead_of (t ∷ log)) in
    grows_on b c (fold stream_turn c log) all
    (grows_more b c ((b.answers, t.known) ∷ []) all (λ x has. elim (cons_cases (b.answers, t.known) [] x has) [ inl is ↦ here_in (b.answers, t.known) (asks (raised b.answers 1) (map lead_of log)) x is | inr none ↦ absurd (none_in x none) ]) one.0)
    (grows_more c (fold stream_turn c log) (asks (raised b.answers 1) (map lead_of log)) all (λ x has. later_in (b.answers, t.known) (asks (raised b.answers 1) (map lead_of log)) x has) rest)

-- at each piece of the conversations that streams tell of some turns the worker minded its notes
pub pieces_minded : (closes : Bool) (log : List StreamTurn) (first : ℕ) (b : StreamsTold) (n : NotesTold) (talks : List Talk) → b.answers ≡ first → b.current ≡ None → (closing_if closes (fold stream_turn b log)).closed ≡ b.closed ++ talks → IsTold 0 (lane_of log) → n ≡ fold notes_turn no_notes (map lead_of log)
    → AreMinded first n.given (map read_at (pieces_of talks))
pieces_minded closes log first b n talks start none closed told is =
    let c = fold stream_turn b log in
    let all = asks b.answers (map lead_of log) in
    let g : Grows b (closing_if closes c) all = grows_on b c (closing_if closes c) all (grows_log b log) (grows_closed closes c all) in
    let same : talks ≡ g.more = append_cancel_left b.closed talks g.more (sym closed ∙ g.closed) in
    subst (λ (k : ℕ). AreMinded k n.given (map read_at (pieces_of talks))) start
    (fewer_minded b.answers n.given all (map read_at (pieces_of talks)) (λ x has. let p = from_map read_at (pieces_of talks) x (in_from (map read_at (pieces_of talks)) x has) in from p.0 x g same p.2 (contains_from (pieces_of talks) p.0 p.1)) (all_minded b.answers (map lead_of log) n (leads_rise 0 log told) is))
  where
    from : (p : Piece) (x : ℕ × ℕ) (g : Grows b (closing_if closes (fold stream_turn b log)) (asks b.answers (map lead_of log))) → talks ≡ g.more → read_at p ≡ x → Contains (pieces_of talks) p → Contains (asks b.answers (map lead_of log)) x
    from p x g same at has = elim (g.pieces p (subst (λ (l : List Piece). Contains l p) (sym (pieces_append g.more (listed (closing_if closes (fold stream_turn b log)).current))) (Contains-append_left (pieces_of g.more) (pieces_of (listed (closing_if closes (fold stream_turn b log)).current)) p (subst (λ (l : List Talk). Contains (pieces_of l) p) same has)))) [
      | inl old ↦ absurd (none_in p (subst (λ (o : Option Talk). Contains (pieces_of (listed o)) p) none old))
      | inr new ↦ subst (λ (y : ℕ × ℕ). Contains (asks b.answers (map lead_of log)) y) at new
    ]
