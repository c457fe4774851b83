-- What happened to a worker, by its turns and by its replies in their order.
use Rattle.std.proofs.Common.{◌≡◌, inl, inr, ℕ, ◌≤◌, max, Bool, true, false, List, [], ◌∷◌, ◌++◌, map, fold, flat_map, get_or, All, None, refl, true≢false, ap, ap₂, sym, ◌∙◌, arith, append_assoc, append-nil}
use Rattle.std.proofs.lemmas.Bool.{cases_Bool}
use Rattle.std.proofs.lemmas.List.{map-append}
use Rattle.std.proofs.lemmas.List.Elements.{All-append, All-cons, All-head, All-nil, All-tail}
use Rattle.outside.specs.Port.{Packet, PortTold, Taken, Try}
use Rattle.addr_text.specs.declared.address.Addr.{Addr}
use Rattle.published_map.specs.Version.{Version}
use Rattle.answer_core.specs.declared.way.Way.{Way}
use Rattle.answer_core.specs.Reply as stated
use Rattle.answer_core.proofs.Silence.{unanswered}
use Rattle.lane_model.specs.Lanes.{IsLaneRun, IsTryOf, following}
use Rattle.lane_model.specs.Replies.{is_silent, replies_by, reply_of}
use Rattle.lane_model.specs.Turns.{AreCalm, Came, Fate, IsTold, Turn, entries_of, entries_of_came, floor_after, idle, is_calm, is_refused, oversize, ended, failed, port_after, port_turn, refused, took, tries_of, tries_of_came}
use Rattle.lane_model.specs.Turns as fate
use Rattle.headline.specs.Headline.{AreRight, IsReply}
use Rattle.headline.specs.View.{Event, came, heard, knew, lost, missed, replied, silent, told, tried}
use Rattle.headline.specs.Headline as page

-- notes ahead of what happens
abbrev pub tell : List ℕ → List Event → List Event
tell [] events = events
tell (n ∷ notes) events = told n ∷ tell notes events

-- a message, by whether it has no reply, and the replies that are left
abbrev pub spoken : ℕ → Packet → Bool → List Try → (List Try → List Event) → List Event
spoken known d true tries rest = silent known d ∷ rest tries
spoken known d false [] rest = missed known d ∷ rest []
spoken known d false (r ∷ tries) rest = replied known d r ∷ rest tries

abbrev pub fated : (List ℕ → Bool) → ℕ → Packet → Fate → List Try → (List Try → List Event) → List Event
fated quiet known d fate.silent tries rest = spoken known d (quiet d.octets) tries rest
fated quiet known d fate.refused tries rest = missed known d ∷ rest tries
fated quiet known d (fate.tried serial octets went) tries rest = spoken known d (quiet d.octets) tries rest

abbrev pub turned : (List ℕ → Bool) → ℕ → Came → List Try → (List Try → List Event) → List Event
turned quiet known idle tries rest = rest tries
turned quiet known oversize tries rest = rest tries
turned quiet known ended tries rest = rest tries
turned quiet known failed tries rest = rest tries
turned quiet known (took d f) tries rest = fated quiet known d f tries rest

abbrev pub made : (List ℕ → Bool) → List Turn → List Try → List Event
made quiet [] tries = []
made quiet (t ∷ log) tries = tell t.notes (turned quiet t.known t.came tries (λ ts. made quiet log ts))

-- WHAT IS RIGHT

quiet_none : (v : Version) (from : Addr) (octets : List ℕ) (number : ℕ) (by : Way) → is_silent octets ≡ true → stated.reply_of v from octets number by ≡ None
unfolding is_silent
quiet_none v from octets number by h = unanswered v from octets number by h

is_reply : (by : Way) (h : List Version) (w n known : ℕ) (d : Packet) (s : Try) → IsTryOf (replies_by by) h w n (record { packet = d; known = known; way = by }) s → IsReply by h (page.draw w n) d s
unfolding reply_of
is_reply by h w n known d s t = record { to = t.to; map = t.version.0; is_map = t.version.1; octets = t.version.2 }

tells : (by : Way) (h : List Version) (w n newest most : ℕ) (notes : List ℕ) (events : List Event) → newest ≤ most → All (λ s. s ≤ most) notes → ((m : ℕ) → m ≤ most → AreRight by h w n m events) → AreRight by h w n newest (tell notes events)
tells by h w n newest most [] events l all on = on newest l
tells by h w n newest most (o ∷ notes) events l all on =
    let first : o ≤ most = All-head (λ s. s ≤ most) o notes all in
    tells by h w n (max newest o) most notes events (omega (arith, l, first)) (All-tail (λ s. s ≤ most) o notes all) on

-- that all is right from behind some turns on
abbrev pub IsOn : Way → List Version → ℕ → List Turn → Type 0
IsOn by h w log = (n r f newest : ℕ) (tries : List Try) → IsLaneRun (replies_by by) h w n r (entries_of by log) tries → IsTold f log → newest ≤ max r f → AreRight by h w n newest (made is_silent log tries)

entry : (by : Way) (h : List Version) (w n r known f m : ℕ) (d : Packet) (log : List Turn) (tries : List Try) → m ≤ max r known → IsLaneRun (replies_by by) h w n r (record { packet = d; known = known; way = by } ∷ entries_of by log) tries → IsTold f log → IsOn by h w log
    → AreRight by h w n m (spoken known d (is_silent d.octets) tries (λ ts. made is_silent log ts))
entry by h w n r known f m d log [] l run known_by on =
    let low = run.0 in
    rw run.1 (omega (arith, l, low), (λ v number. quiet_none v d.from.addr d.octets number by run.1), on (following n) known f known [] run.2 known_by (omega arith))
entry by h w n r known f m d log (s ∷ tries) l run known_by on = elim (cases_Bool (is_silent d.octets)) [
  | inl e ↦ let low = run.0 in let rest : IsLaneRun (replies_by by) h w (following n) known (entries_of by log) (s ∷ tries) = rw e at run.1 in
      rw e (omega (arith, l, low), (λ v number. quiet_none v d.from.addr d.octets number by e), on (following n) known f known (s ∷ tries) rest known_by (omega arith))
  | inr e ↦ let low = run.0 in
      let both : IsTryOf (replies_by by) h w n (record { packet = d; known = known; way = by }) s × IsLaneRun (replies_by by) h w (following n) s.serial (entries_of by log) tries = rw e at run.1 in
      let fresh : known ≤ s.serial = both.0.fresh in
      rw e (omega (arith, l, low), fresh, is_reply by h w n known d s both.0, on (following n) s.serial f s.serial tries both.1 known_by (omega arith))
]

step : (by : Way) (h : List Version) (w n r known m : ℕ) (c : Came) (log : List Turn) (tries : List Try) → m ≤ max r known → IsLaneRun (replies_by by) h w n r (entries_of_came by known c ++ entries_of by log) tries → IsTold (floor_after known c) log → IsOn by h w log
    → AreRight by h w n m (turned is_silent known c tries (λ ts. made is_silent log ts))
step by h w n r known m idle log tries l run known_by on = on n r known m tries run known_by l
step by h w n r known m oversize log tries l run known_by on = on n r known m tries run known_by l
step by h w n r known m ended log tries l run known_by on = on n r known m tries run known_by l
step by h w n r known m failed log tries l run known_by on = on n r known m tries run known_by l
step by h w n r known m (took d fate.silent) log tries l run known_by on = entry by h w n r known known m d log tries l run known_by on
step by h w n r known m (took d fate.refused) log tries l run known_by on = on n r known m tries run known_by l
step by h w n r known m (took d (fate.tried serial octets went)) log tries l run known_by on = entry by h w n r known serial m d log tries l run known_by on

pub right : (by : Way) (h : List Version) (w : ℕ) (log : List Turn) → IsOn by h w log
right by h w [] n r f newest tries run known_by l = tt
right by h w (t ∷ log) n r f newest tries run known_by l =
    let known = t.known in
    let a : f ≤ t.shown = known_by.0 in
    let b : t.shown ≤ known = known_by.1 in
    let notes : All (λ s. s ≤ max r known) t.notes = λ k d within. let one = known_by.2 k d within in omega (arith, one) in
    tells by h w n newest (max r known) t.notes (turned is_silent t.known t.came tries (λ ts. made is_silent log ts)) (omega (arith, l, a, b)) notes (λ m low. step by h w n r known m t.came log tries low run known_by.4 (right by h w log))

-- WHAT IS TOLD OF IT

tried_tell : (notes : List ℕ) (events : List Event) → flat_map tried (tell notes events) ≡ flat_map tried events
tried_tell [] events = refl
tried_tell (n ∷ notes) events = tried_tell notes events

-- of each message of a turn, what is made of it
abbrev pub of_came : {X : Type 0} → (Packet → List X) → Came → List X
of_came f idle = []
of_came f oversize = []
of_came f ended = []
of_came f failed = []
of_came f (took d fate) = f d

-- what is seen of events, where each message shows the same whatever becomes of it
pub record IsSeen {X : Type 0} (seen : Event → List X) (notes : ℕ → List X) (f : ℕ → Packet → List X) : Type 0 where
  pub on_told : (n : ℕ) → seen (told n) ≡ notes n
  pub on_replied : (known : ℕ) (d : Packet) (r : Try) → seen (replied known d r) ≡ f known d
  pub on_silent : (known : ℕ) (d : Packet) → seen (silent known d) ≡ f known d
  pub on_missed : (known : ℕ) (d : Packet) → seen (missed known d) ≡ f known d

seen_spoken : {X : Type 0} (seen : Event → List X) (notes : ℕ → List X) (f : ℕ → Packet → List X) → IsSeen seen notes f → (known : ℕ) (d : Packet) (b : Bool) (tries : List Try) (rest : List Try → List Event) (xs : List X) → ((ts : List Try) → flat_map seen (rest ts) ≡ xs)
    → flat_map seen (spoken known d b tries rest) ≡ f known d ++ xs
seen_spoken seen notes f is known d true tries rest xs h = ap₂ (λ a b. a ++ b) (is.on_silent known d) (h tries)
seen_spoken seen notes f is known d false [] rest xs h = ap₂ (λ a b. a ++ b) (is.on_missed known d) (h [])
seen_spoken seen notes f is known d false (r ∷ tries) rest xs h = ap₂ (λ a b. a ++ b) (is.on_replied known d r) (h tries)

seen_turned : {X : Type 0} (seen : Event → List X) (notes : ℕ → List X) (f : ℕ → Packet → List X) → IsSeen seen notes f → (quiet : List ℕ → Bool) (known : ℕ) (c : Came) (tries : List Try) (rest : List Try → List Event) (xs : List X) → ((ts : List Try) → flat_map seen (rest ts) ≡ xs)
    → flat_map seen (turned quiet known c tries rest) ≡ of_came (f known) c ++ xs
seen_turned seen notes f is quiet known idle tries rest xs h = h tries
seen_turned seen notes f is quiet known oversize tries rest xs h = h tries
seen_turned seen notes f is quiet known ended tries rest xs h = h tries
seen_turned seen notes f is quiet known failed tries rest xs h = h tries
seen_turned seen notes f is quiet known (took d fate.silent) tries rest xs h = seen_spoken seen notes f is known d (quiet d.octets) tries rest xs h
seen_turned seen notes f is quiet known (took d fate.refused) tries rest xs h = ap₂ (λ a b. a ++ b) (is.on_missed known d) (h tries)
seen_turned seen notes f is quiet known (took d (fate.tried serial octets went)) tries rest xs h = seen_spoken seen notes f is known d (quiet d.octets) tries rest xs h

seen_tell : {X : Type 0} (seen : Event → List X) (notes : ℕ → List X) (f : ℕ → Packet → List X) → IsSeen seen notes f → (ns : List ℕ) (events : List Event) → flat_map seen (tell ns events) ≡ flat_map notes ns ++ flat_map seen events
seen_tell seen notes f is [] events = refl
seen_tell seen notes f is (n ∷ ns) events = ap₂ (λ a b. a ++ b) (is.on_told n) (seen_tell seen notes f is ns events) ∙ sym (append_assoc (notes n) (flat_map notes ns) (flat_map seen events))

seen_made : {X : Type 0} (seen : Event → List X) (notes : ℕ → List X) (f : ℕ → Packet → List X) → IsSeen seen notes f → (quiet : List ℕ → Bool) (log : List Turn) (tries : List Try) → flat_map seen (made quiet log tries) ≡ flat_map (λ t. flat_map notes t.notes ++ of_came (f t.known) t.came) log
seen_made seen notes f is quiet [] tries = refl
seen_made seen notes f is quiet (t ∷ log) tries =
    seen_tell seen notes f is t.notes (turned quiet t.known t.came tries (λ ts. made quiet log ts))
    ∙ ap (λ xs. flat_map notes t.notes ++ xs) (seen_turned seen notes f is quiet t.known t.came tries (λ ts. made quiet log ts) (flat_map (λ x. flat_map notes x.notes ++ of_came (f x.known) x.came) log) (λ ts. seen_made seen notes f is quiet log ts))
    ∙ sym (append_assoc (flat_map notes t.notes) (of_came (f t.known) t.came) (flat_map (λ x. flat_map notes x.notes ++ of_came (f x.known) x.came) log))

none_seen : {X : Type 0} (ns : List ℕ) → flat_map {A = X} (λ _. []) ns ≡ []
none_seen [] = refl
none_seen {X = X} (n ∷ ns) = none_seen {X = X} ns

without_notes : {X : Type 0} (f : ℕ → Packet → List X) (log : List Turn) → flat_map (λ (t : Turn). flat_map {A = X} (λ _. []) t.notes ++ of_came (f t.known) t.came) log ≡ flat_map (λ (t : Turn). of_came (f t.known) t.came) log
without_notes f [] = refl
without_notes {X = X} f (t ∷ log) = ap₂ (λ a b. (a ++ of_came (f t.known) t.came) ++ b) (none_seen {X = X} t.notes) (without_notes f log)

-- the messages of a turn, and what was known
abbrev pub packets_of : Came → List Packet
packets_of c = of_came (λ d. d ∷ []) c

abbrev pub knowns_of : Turn → List ℕ
knowns_of t = of_came (λ d. t.known ∷ []) t.came

pub came_made : (quiet : List ℕ → Bool) (log : List Turn) (tries : List Try) → flat_map came (made quiet log tries) ≡ flat_map (λ t. packets_of t.came) log
came_made quiet log tries = seen_made came (λ _. []) (λ known d. d ∷ []) (record { on_told = λ n. refl; on_replied = λ known d r. refl; on_silent = λ known d. refl; on_missed = λ known d. refl }) quiet log tries ∙ without_notes (λ known d. d ∷ []) log

pub knew_made : (quiet : List ℕ → Bool) (log : List Turn) (tries : List Try) → flat_map knew (made quiet log tries) ≡ flat_map knowns_of log
knew_made quiet log tries = seen_made knew (λ _. []) (λ known d. known ∷ []) (record { on_told = λ n. refl; on_replied = λ known d r. refl; on_silent = λ known d. refl; on_missed = λ known d. refl }) quiet log tries ∙ without_notes (λ known d. known ∷ []) log

notes_alone : (log : List Turn) → flat_map (λ (t : Turn). flat_map (λ n. n ∷ []) t.notes ++ of_came (λ (d : Packet). []) t.came) log ≡ flat_map (λ (t : Turn). t.notes) log
notes_alone [] = refl
notes_alone (t ∷ log) = ap₂ (λ a b. a ++ b) (ap₂ (λ a b. a ++ b) (each t.notes) (none t.came) ∙ append-nil t.notes) (notes_alone log)
  where
    each : (ns : List ℕ) → flat_map (λ n. n ∷ []) ns ≡ ns
    each [] = refl
    each (n ∷ ns) = ap (λ xs. n ∷ xs) (each ns)

    none : (c : Came) → of_came {X = ℕ} (λ (d : Packet). []) c ≡ []
    none idle = refl
    none oversize = refl
    none ended = refl
    none failed = refl
    none (took d f) = refl

pub heard_made : (quiet : List ℕ → Bool) (log : List Turn) (tries : List Try) → flat_map heard (made quiet log tries) ≡ flat_map (λ t. t.notes) log
heard_made quiet log tries = seen_made heard (λ n. n ∷ []) (λ known d. []) (record { on_told = λ n. refl; on_replied = λ known d r. refl; on_silent = λ known d. refl; on_missed = λ known d. refl }) quiet log tries ∙ notes_alone log

-- a lane run leaves no reply over
abbrev pub IsAll : Way → List Version → ℕ → List Turn → Type 0
IsAll by h w log = (n r : ℕ) (tries : List Try) → IsLaneRun (replies_by by) h w n r (entries_of by log) tries → flat_map tried (made is_silent log tries) ≡ tries

entry_all : (by : Way) (h : List Version) (w n r known : ℕ) (d : Packet) (log : List Turn) (tries : List Try) → IsLaneRun (replies_by by) h w n r (record { packet = d; known = known; way = by } ∷ entries_of by log) tries → IsAll by h w log
    → flat_map tried (spoken known d (is_silent d.octets) tries (λ ts. made is_silent log ts)) ≡ tries
entry_all by h w n r known d log [] run all = rw run.1 (all (following n) known [] run.2)
entry_all by h w n r known d log (s ∷ tries) run all = elim (cases_Bool (is_silent d.octets)) [
  | inl e ↦ let rest : IsLaneRun (replies_by by) h w (following n) known (entries_of by log) (s ∷ tries) = rw e at run.1 in rw e (all (following n) known (s ∷ tries) rest)
  | inr e ↦ let both : IsTryOf (replies_by by) h w n (record { packet = d; known = known; way = by }) s × IsLaneRun (replies_by by) h w (following n) s.serial (entries_of by log) tries = rw e at run.1 in
      rw e (ap (λ xs. s ∷ xs) (all (following n) s.serial tries both.1))
]

step_all : (by : Way) (h : List Version) (w n r known : ℕ) (c : Came) (log : List Turn) (tries : List Try) → IsLaneRun (replies_by by) h w n r (entries_of_came by known c ++ entries_of by log) tries → IsAll by h w log → flat_map tried (turned is_silent known c tries (λ ts. made is_silent log ts)) ≡ tries
step_all by h w n r known idle log tries run all = all n r tries run
step_all by h w n r known oversize log tries run all = all n r tries run
step_all by h w n r known ended log tries run all = all n r tries run
step_all by h w n r known failed log tries run all = all n r tries run
step_all by h w n r known (took d fate.silent) log tries run all = entry_all by h w n r known d log tries run all
step_all by h w n r known (took d fate.refused) log tries run all = all n r tries run
step_all by h w n r known (took d (fate.tried serial octets went)) log tries run all = entry_all by h w n r known d log tries run all

pub tried_made : (by : Way) (h : List Version) (w : ℕ) (log : List Turn) → IsAll by h w log
tried_made by h w [] n r [] run = refl
tried_made by h w [] n r (s ∷ tries) run = absurd run
tried_made by h w (t ∷ log) n r tries run = tried_tell t.notes (turned is_silent t.known t.came tries (λ ts. made is_silent log ts)) ∙ step_all by h w n r t.known t.came log tries run (tried_made by h w log)

-- where no look was refused, no message that has a reply stays without
lost_tell : (notes : List ℕ) (events : List Event) → flat_map lost (tell notes events) ≡ flat_map lost events
lost_tell [] events = refl
lost_tell (n ∷ notes) events = lost_tell notes events

abbrev pub IsNoneLost : Way → List Version → ℕ → List Turn → Type 0
IsNoneLost by h w log = (n r : ℕ) (tries : List Try) → IsLaneRun (replies_by by) h w n r (entries_of by log) tries → flat_map lost (made is_silent log tries) ≡ []

entry_lost : (by : Way) (h : List Version) (w n r known : ℕ) (d : Packet) (log : List Turn) (tries : List Try) → IsLaneRun (replies_by by) h w n r (record { packet = d; known = known; way = by } ∷ entries_of by log) tries → IsNoneLost by h w log
    → flat_map lost (spoken known d (is_silent d.octets) tries (λ ts. made is_silent log ts)) ≡ []
entry_lost by h w n r known d log [] run all = rw run.1 (all (following n) known [] run.2)
entry_lost by h w n r known d log (s ∷ tries) run all = elim (cases_Bool (is_silent d.octets)) [
  | inl e ↦ let rest : IsLaneRun (replies_by by) h w (following n) known (entries_of by log) (s ∷ tries) = rw e at run.1 in rw e (all (following n) known (s ∷ tries) rest)
  | inr e ↦ let both : IsTryOf (replies_by by) h w n (record { packet = d; known = known; way = by }) s × IsLaneRun (replies_by by) h w (following n) s.serial (entries_of by log) tries = rw e at run.1 in
      rw e (all (following n) s.serial tries both.1)
]

step_lost : (by : Way) (h : List Version) (w n r known : ℕ) (c : Came) (log : List Turn) (tries : List Try) → is_refused c ≡ false → IsLaneRun (replies_by by) h w n r (entries_of_came by known c ++ entries_of by log) tries → IsNoneLost by h w log → flat_map lost (turned is_silent known c tries (λ ts. made is_silent log ts)) ≡ []
step_lost by h w n r known idle log tries calm run all = all n r tries run
step_lost by h w n r known oversize log tries calm run all = all n r tries run
step_lost by h w n r known ended log tries calm run all = all n r tries run
step_lost by h w n r known failed log tries calm run all = all n r tries run
step_lost by h w n r known (took d fate.silent) log tries calm run all = entry_lost by h w n r known d log tries run all
step_lost by h w n r known (took d fate.refused) log tries calm run all = absurd (true≢false calm)
step_lost by h w n r known (took d (fate.tried serial octets went)) log tries calm run all = entry_lost by h w n r known d log tries run all

abbrev pub AreLooked : List Turn → Type 0
AreLooked log = All (λ t. is_refused t.came ≡ false) log

pub none_lost : (by : Way) (h : List Version) (w : ℕ) (log : List Turn) → AreLooked log → IsNoneLost by h w log
none_lost by h w [] calm n r tries run = refl
none_lost by h w (t ∷ log) calm n r tries run =
    lost_tell t.notes (turned is_silent t.known t.came tries (λ ts. made is_silent log ts))
    ∙ step_lost by h w n r t.known t.came log tries (All-head (λ (x : Turn). is_refused x.came ≡ false) t log calm) run (none_lost by h w log (All-tail (λ (x : Turn). is_refused x.came ≡ false) t log calm))

calm_looked : (c : Came) → is_calm c ≡ true → is_refused c ≡ false
calm_looked idle h = refl
calm_looked oversize h = refl
calm_looked ended h = refl
calm_looked failed h = refl
calm_looked (took d fate.silent) h = refl
calm_looked (took d fate.refused) h = absurd (true≢false (sym h))
calm_looked (took d (fate.tried serial octets went)) h = refl

pub all_looked : (log : List Turn) → AreCalm log → AreLooked log
all_looked log calm k d l = calm_looked (get_or log k d).came (calm k d l)

pub last_looked : (before : List Turn) (t : Turn) → AreCalm before → t.came ≡ ended → AreLooked (before ++ t ∷ [])
last_looked before t calm is = All-append (λ (x : Turn). is_refused x.came ≡ false) before (t ∷ []) (all_looked before calm) (All-cons (λ (x : Turn). is_refused x.came ≡ false) t [] (ap is_refused is) (All-nil (λ (x : Turn). is_refused x.came ≡ false)))

-- WHAT A PORT TELLS

abbrev pub packet_of : Taken → Packet
packet_of x = x.packet

one_taken : (known : ℕ) (c : Came) (p : PortTold) → map packet_of (port_after known c p).taken ≡ map packet_of p.taken ++ packets_of c
one_taken known idle p = sym (append-nil (map packet_of p.taken))
one_taken known oversize p = sym (append-nil (map packet_of p.taken))
one_taken known ended p = sym (append-nil (map packet_of p.taken))
one_taken known failed p = sym (append-nil (map packet_of p.taken))
one_taken known (took d fate.silent) p = map-append packet_of p.taken ((record { packet = d; known = known; place = p.recvs }) ∷ [])
one_taken known (took d fate.refused) p = map-append packet_of p.taken ((record { packet = d; known = known; place = p.recvs }) ∷ [])
one_taken known (took d (fate.tried serial octets went)) p = map-append packet_of p.taken ((record { packet = d; known = known; place = p.recvs }) ∷ [])

pub taken_folded : (log : List Turn) (p : PortTold) → map packet_of (fold port_turn p log).taken ≡ map packet_of p.taken ++ flat_map (λ t. packets_of t.came) log
taken_folded [] p = sym (append-nil (map packet_of p.taken))
taken_folded (t ∷ log) p = taken_folded log (port_turn p t) ∙ (ap (λ l. l ++ flat_map (λ t. packets_of t.came) log) (one_taken t.known t.came p) ∙ append_assoc (map packet_of p.taken) (packets_of t.came) (flat_map (λ t. packets_of t.came) log))

abbrev pub known_of : Taken → ℕ
known_of x = x.known

one_known : (known : ℕ) (c : Came) (p : PortTold) → map known_of (port_after known c p).taken ≡ map known_of p.taken ++ of_came (λ d. known ∷ []) c
one_known known idle p = sym (append-nil (map known_of p.taken))
one_known known oversize p = sym (append-nil (map known_of p.taken))
one_known known ended p = sym (append-nil (map known_of p.taken))
one_known known failed p = sym (append-nil (map known_of p.taken))
one_known known (took d fate.silent) p = map-append known_of p.taken ((record { packet = d; known = known; place = p.recvs }) ∷ [])
one_known known (took d fate.refused) p = map-append known_of p.taken ((record { packet = d; known = known; place = p.recvs }) ∷ [])
one_known known (took d (fate.tried serial octets went)) p = map-append known_of p.taken ((record { packet = d; known = known; place = p.recvs }) ∷ [])

pub known_folded : (log : List Turn) (p : PortTold) → map known_of (fold port_turn p log).taken ≡ map known_of p.taken ++ flat_map knowns_of log
known_folded [] p = sym (append-nil (map known_of p.taken))
known_folded (t ∷ log) p = known_folded log (port_turn p t) ∙ (ap (λ l. l ++ flat_map knowns_of log) (one_known t.known t.came p) ∙ append_assoc (map known_of p.taken) (knowns_of t) (flat_map knowns_of log))

one_tried : (known : ℕ) (c : Came) (p : PortTold) → (port_after known c p).tries ≡ p.tries ++ tries_of_came c
one_tried known idle p = sym (append-nil p.tries)
one_tried known oversize p = sym (append-nil p.tries)
one_tried known ended p = sym (append-nil p.tries)
one_tried known failed p = sym (append-nil p.tries)
one_tried known (took d fate.silent) p = sym (append-nil p.tries)
one_tried known (took d fate.refused) p = sym (append-nil p.tries)
one_tried known (took d (fate.tried serial octets went)) p = refl

pub tries_folded : (log : List Turn) (p : PortTold) → (fold port_turn p log).tries ≡ p.tries ++ tries_of log
tries_folded [] p = sym (append-nil p.tries)
tries_folded (t ∷ log) p = tries_folded log (port_turn p t) ∙ (ap (λ l. l ++ tries_of log) (one_tried t.known t.came p) ∙ append_assoc p.tries (tries_of_came t.came) (tries_of log))
