-- What turns one after the other say: a lane run, what was told, and what port, gate and notes tell after it.
use Rattle.std.proofs.Common.{◌≡◌, ℕ, ◌<◌, ◌≤◌, Bool, true, false, List, [], ◌∷◌, ◌++◌, length, fold, Option, None, Some, MatchBool, refl, sym, ap, subst, ◌∙◌, arith}
use mathlib.Core.List.{IsPrefix}
use Rattle.outside.specs.Faults.{BothTell}
use Rattle.outside.specs.Port.{Try}
use Rattle.answer_core.specs.declared.way.Way.{Way}
use Rattle.lane_model.specs.Lanes.{Answers, Entry, IsLaneRun, IsTryOf, following}
use Rattle.lane_model.specs.Turns.{Turn, Came, IsCame, IsTold, count_after, entries_of, entries_of_came, floor_after, is_refused, notes_turn, port_turn, tries_of, tries_of_came, idle, oversize, ended, failed, took, silent, refused, tried}
use Rattle.lane_model.specs.Calls.{IsRise, AreTurns, Moment}
use Rattle.lane_model.proofs.Prefixes.{prefix_get}
use Rattle.lane_model.proofs.Going.{rise_none, rise_trans}

-- what is seen and known only grows
pub turns_rises : {V : Type 0} (a : Answers V) (w : ℕ) (log : List Turn) (m m' : Moment V) → AreTurns a w log m m' → IsRise m.eyes m'.eyes
turns_rises a w [] m m' s = subst (λ k. IsRise m.eyes k.eyes) (sym s) (rise_none m.eyes)
turns_rises a w (t ∷ log) m m' s = rise_trans m.eyes s.0.eyes m'.eyes s.1.eyes (turns_rises a w log s.0 m' s.2)

-- what a datagram came to is so over a longer history
came_longer : {V : Type 0} (a : Answers V) (h h' : List V) (w n known : ℕ) (came : Came) → IsPrefix h h' → IsCame a h w n known came → IsCame a h' w n known came
came_longer a h h' w n known idle p c = tt
came_longer a h h' w n known oversize p c = tt
came_longer a h h' w n known ended p c = tt
came_longer a h h' w n known failed p c = tt
came_longer a h h' w n known (took d silent) p c = c
came_longer a h h' w n known (took d refused) p c = c
came_longer a h h' w n known (took d (tried serial octets went)) p c = (c.0, c.1, (c.2.0, prefix_get h h' serial c.2.0 p c.2.1, c.2.2))

either : {P Q P' Q' : Type 0} (b : Bool) → (P → P') → (Q → Q') → MatchBool b P Q → MatchBool b P' Q'
either true f g x = f x
either false f g x = g x

pub run_longer : {V : Type 0} (a : Answers V) (h h' : List V) (w n floor : ℕ) (taken : List Entry) (tries : List Try) → IsPrefix h h' → IsLaneRun a h w n floor taken tries → IsLaneRun a h' w n floor taken tries
run_longer a h h' w n floor [] [] p r = tt
run_longer a h h' w n floor [] (s ∷ tries) p r = absurd r
run_longer a h h' w n floor (e ∷ taken) [] p r = (r.0, r.1, run_longer a h h' w (following n) e.known taken [] p r.2)
run_longer {V = V} a h h' w n floor (e ∷ taken) (s ∷ tries) p r = (
  r.0,
  either (a.silent e.packet.octets) (λ (q : IsLaneRun a h w (following n) e.known taken (s ∷ tries)). run_longer a h h' w (following n) e.known taken (s ∷ tries) p q) (λ (q : IsTryOf a h w n e s × IsLaneRun a h w (following n) s.serial taken tries). (
    record { to = q.0.to; fresh = q.0.fresh; version = (q.0.version.0, prefix_get h h' s.serial q.0.version.0 p q.0.version.1, q.0.version.2) },
    run_longer a h h' w (following n) s.serial taken tries p q.1,
  )) r.1,
)

-- a run from where more is known is one from where less is
run_lower : {V : Type 0} (a : Answers V) (h : List V) (w n floor low : ℕ) (taken : List Entry) (tries : List Try) → low ≤ floor → IsLaneRun a h w n floor taken tries → IsLaneRun a h w n low taken tries
run_lower a h w n floor low [] [] le r = tt
run_lower a h w n floor low [] (s ∷ tries) le r = absurd r
run_lower a h w n floor low (e ∷ taken) [] le r = (omega (arith, le, r.0), r.1, r.2)
run_lower a h w n floor low (e ∷ taken) (s ∷ tries) le r = (omega (arith, le, r.0), r.1)

-- a datagram without a try stands before a run
run_silent : {V : Type 0} (a : Answers V) (h : List V) (w n floor : ℕ) (e : Entry) (taken : List Entry) (tries : List Try) → floor ≤ e.known → a.silent e.packet.octets ≡ true → IsLaneRun a h w (following n) e.known taken tries → IsLaneRun a h w n floor (e ∷ taken) tries
run_silent a h w n floor e taken [] le is r = (le, is, r)
run_silent a h w n floor e taken (s ∷ tries) le is r = (
  le,
  subst (λ (b : Bool). MatchBool b (IsLaneRun a h w (following n) e.known taken (s ∷ tries)) (IsTryOf a h w n e s × IsLaneRun a h w (following n) s.serial taken tries)) (sym is) r,
)

-- what came in one turn stands before a run
run_with : {V : Type 0} (a : Answers V) (h : List V) (w n floor known : ℕ) (came : Came) (taken : List Entry) (tries : List Try) → floor ≤ known → known ≤ floor_after known came → IsCame a h w n known came
    → (is_refused came ≡ true → (taken ≡ []) × (tries ≡ [])) → IsLaneRun a h w (count_after n came) (floor_after known came) taken tries
    → IsLaneRun a h w n floor (entries_of_came a.way known came ++ taken) (tries_of_came came ++ tries)
run_with a h w n floor known idle taken tries le up c last r = run_lower a h w n known floor taken tries le r
run_with a h w n floor known oversize taken tries le up c last r = run_lower a h w n known floor taken tries le r
run_with a h w n floor known ended taken tries le up c last r = run_lower a h w n known floor taken tries le r
run_with a h w n floor known failed taken tries le up c last r = run_lower a h w n known floor taken tries le r
run_with a h w n floor known (took d silent) taken tries le up c last r = run_silent a h w n floor (record { packet = d; known = known; way = a.way }) taken tries le c r
run_with a h w n floor known (took d refused) [] [] le up c last r = tt
run_with a h w n floor known (took d refused) [] (s ∷ tries) le up c last r = absurd r
run_with a h w n floor known (took d refused) (e ∷ taken) tries le up c last r = absurd (cc ((last refl).0))
run_with a h w n floor known (took d (tried serial octets went)) taken tries le up c last r = (
  le,
  subst (λ (b : Bool). MatchBool b (IsLaneRun a h w (following n) known taken (record { octets = octets; to = d.from; serial = serial; went = went } ∷ tries)) (IsTryOf a h w n (record { packet = d; known = known; way = a.way }) (record { octets = octets; to = d.from; serial = serial; went = went }) × IsLaneRun a h w (following n) serial taken tries)) (sym c.0) (record { to = refl; fresh = c.1; version = c.2 }, r),
)

-- a look is refused in the last turn alone
abbrev pub IsInOrder : List Turn → Type 0
IsInOrder [] = Unit {0}
IsInOrder (t ∷ log) = (is_refused t.came ≡ true → log ≡ []) × IsInOrder log

emptied : (way : Way) (log : List Turn) → log ≡ [] → (entries_of way log ≡ []) × (tries_of log ≡ [])
emptied way [] e = (refl, refl)
emptied way (t ∷ log) e = absurd (cc e)

-- The datagrams and tries of some turns are a lane run over what is seen at its end.
pub turns_run : {V : Type 0} (a : Answers V) (w floor : ℕ) (log : List Turn) (m m' : Moment V) → AreTurns a w log m m' → IsInOrder log → floor < length m.eyes.heard
    → IsLaneRun a m'.eyes.seen w m.count floor (entries_of a.way log) (tries_of log)
turns_run a w floor [] m m' s o lt = tt
turns_run a w floor (t ∷ log) m m' s o lt =
    let q = s.1 in
    let rest = turns_run a w (floor_after t.known t.came) log s.0 m' s.2 o.1 q.knows in
    run_with a m'.eyes.seen w m.count floor t.known t.came (entries_of a.way log) (tries_of log) (omega (arith, lt, q.shown, q.known)) q.floor
    (came_longer a s.0.eyes.seen m'.eyes.seen w m.count t.known t.came (turns_rises a w log s.0 m' s.2).seen q.came)
    (λ (r : is_refused t.came ≡ true). emptied a.way log (o.0 r))
    (subst (λ (n : ℕ). IsLaneRun a m'.eyes.seen w n (floor_after t.known t.came) (entries_of a.way log) (tries_of log)) q.count rest)

-- What was told is minded.
pub turns_told : {V : Type 0} (a : Answers V) (w floor : ℕ) (log : List Turn) (m m' : Moment V) → AreTurns a w log m m' → floor < length m.eyes.heard → IsTold floor log
turns_told a w floor [] m m' s lt = tt
turns_told a w floor (t ∷ log) m m' s lt =
    let q = s.1 in
    (omega (arith, lt, q.shown), q.known, q.noted, q.floor, turns_told a w (floor_after t.known t.came) log s.0 m' s.2 q.knows)

-- one after the other, where both tell
pub tells_on : {A : Type 0} (x y z : Option A) (R S Q : A → A → Type 0) → ((b c d : A) → R b c → S c d → Q b d) → BothTell x y R → BothTell y z S → BothTell x z Q
tells_on None None None R S Q f r s = tt
tells_on None None (Some d) R S Q f r s = s
tells_on None (Some c) z R S Q f r s = absurd r
tells_on (Some b) None z R S Q f r s = absurd r
tells_on (Some b) (Some c) None R S Q f r s = s
tells_on (Some b) (Some c) (Some d) R S Q f r s = f b c d r s

tells_same : {A : Type 0} (x : Option A) → BothTell x x (λ b c. c ≡ b)
tells_same None = tt
tells_same (Some b) = refl

-- What a port tells is what it told before, after each turn in order.
pub turns_port : {V : Type 0} (a : Answers V) (w : ℕ) (log : List Turn) (m m' : Moment V) → AreTurns a w log m m' → BothTell m.port m'.port (λ b c. c ≡ fold port_turn b log)
turns_port a w [] m m' s = subst (λ k. BothTell m.port k.port (λ b c. c ≡ b)) (sym s) (tells_same m.port)
turns_port a w (t ∷ log) m m' s =
    tells_on m.port s.0.port m'.port (λ b c. c ≡ port_turn b t) (λ b c. c ≡ fold port_turn b log) (λ b c. c ≡ fold port_turn b (t ∷ log)) (λ b c d r q. q ∙ ap (λ k. fold port_turn k log) r) s.1.port (turns_port a w log s.0 m' s.2)

pub turns_notes : {V : Type 0} (a : Answers V) (w : ℕ) (log : List Turn) (m m' : Moment V) → AreTurns a w log m m' → BothTell m.notes m'.notes (λ b c. c ≡ fold notes_turn b log)
turns_notes a w [] m m' s = subst (λ k. BothTell m.notes k.notes (λ b c. c ≡ b)) (sym s) (tells_same m.notes)
turns_notes a w (t ∷ log) m m' s =
    tells_on m.notes s.0.notes m'.notes (λ b c. c ≡ notes_turn b t) (λ b c. c ≡ fold notes_turn b log) (λ b c. c ≡ fold notes_turn b (t ∷ log)) (λ b c d r q. q ∙ ap (λ k. fold notes_turn k log) r) s.1.notes (turns_notes a w log s.0 m' s.2)
