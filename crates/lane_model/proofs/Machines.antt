-- Lane runs over one history are taken by the machine.
use Rattle.std.proofs.Common.{◌≡◌, ℕ, zero, suc, ◌+◌, ◌<◌, ◌≤◌, Bool, true, false, List, [], ◌∷◌, ◌++◌, length, max, if◌then◌else◌, All, Some, MatchBool, slice_get, inl, inr, refl, sym, ap, subst, ◌∙◌, arith, append_assoc, append-nil, length-append}
use Rattle.outside.specs.Port.{Packet, Try}
use Rattle.answer_core.specs.declared.way.Way.{Way}
use Rattle.lane_model.specs.Lanes.{Answers, Entry, IsLaneRun, IsTryOf, following}
use Rattle.lane_model.specs.Machine.{Event, LaneLog, LaneState, Machine, AreRuns, GoesOn, HaveDone, IsMoved, IsTaken, Takes, commits_of, events_of_lane, events_of_lanes, fresh, fresh_lanes, passed, replied, serial_of, heard, tries_behind, tell, take}

taken_append : {V : Type 0} (a : Answers V) (F : List V → V → Type 0) (xs ys : List (Event V)) (m mid m' : Machine V) → IsTaken a F xs m mid → IsTaken a F ys mid m' → IsTaken a F (xs ++ ys) m m'
taken_append a F [] ys m mid m' p q = subst (λ k. IsTaken a F ys k m') p q
taken_append a F (x ∷ xs) ys m mid m' p q = (p.0, p.1, taken_append a F xs ys p.0 mid m' p.2 q)

-- the commits of a history are taken
commits_taken : {V : Type 0} (a : Answers V) (F : List V → V → Type 0) (before rest : List V) (lanes : List LaneState) → GoesOn F before rest
    → IsTaken a F (commits_of rest) (record { history = before; lanes = lanes }) (record { history = before ++ rest; lanes = lanes })
commits_taken a F before [] lanes g = ap (λ h. record { history = h; lanes = lanes }) (append-nil before)
commits_taken {V = V} a F before (v ∷ rest) lanes g = (
  record { history = before ++ v ∷ []; lanes = lanes },
  (g.0, refl),
  subst (λ (h : List V). IsTaken a F (commits_of rest) (record { history = before ++ v ∷ []; lanes = lanes }) (record { history = h; lanes = lanes })) (append_assoc before (v ∷ []) rest) (commits_taken a F (before ++ v ∷ []) rest lanes g.1),
)

moved : (done todo : List LaneState) (at : ℕ) (l l' : LaneState) → length done ≡ at → IsMoved at l l' (done ++ l ∷ todo) (done ++ l' ∷ todo)
moved done todo at l l' n = record { before = done; behind = todo; number = n; old = refl; new = refl }

-- what a lane is after one datagram more, of which the try may be left
pub record IsOneMore {V : Type 0} (a : Answers V) (F : List V → V → Type 0) (h : List V) (done todo : List LaneState) (lane : ℕ) (l : LaneState) (e : Entry) (taken : List Entry) (tries : List Try) (l' : LaneState) : Type 0 where
  pub taken_is : l'.taken ≡ l.taken ++ e ∷ []
  pub tries_is : l'.tries ++ tries_behind a e tries ≡ l.tries ++ tries
  pub run : IsLaneRun a h lane l'.count l'.seen taken (tries_behind a e tries)
  pub steps : IsTaken a F (tell lane e.known ∷ take lane e.packet (serial_of a e tries) e.way ∷ []) (record { history = h; lanes = done ++ l ∷ todo }) (record { history = h; lanes = done ++ l' ∷ todo })

-- the tell and the take of one datagram
two_steps : {V : Type 0} (a : Answers V) (F : List V → V → Type 0) (h : List V) (done todo : List LaneState) (lane n : ℕ) (l : LaneState) (d : Packet) (s : ℕ) (way : Way) (l' : LaneState) → length done ≡ lane → n < length h → Takes a h lane d s way (heard n l) l'
    → IsTaken a F (tell lane n ∷ take lane d s way ∷ []) (record { history = h; lanes = done ++ l ∷ todo }) (record { history = h; lanes = done ++ l' ∷ todo })
two_steps a F h done todo lane n l d s way l' at lt t = (
  record { history = h; lanes = done ++ heard n l ∷ todo },
  (lt, refl, (l, moved done todo lane l (heard n l) at)),
  (record { history = h; lanes = done ++ l' ∷ todo }, (refl, (heard n l, l', t, moved done todo lane (heard n l) l' at)), refl),
)

known_is : (l : LaneState) (n : ℕ) → l.seen ≤ n → max l.seen n ≡ n
known_is l n le = omega (arith, le)

-- a datagram that has no reply
one_silent : {V : Type 0} (a : Answers V) (F : List V → V → Type 0) (h : List V) (done todo : List LaneState) (lane : ℕ) (l : LaneState) (d : Packet) (n : ℕ) (way : Way) → length done ≡ lane → l.seen ≤ n → n < length h → a.silent d.octets ≡ true
    → IsTaken a F (tell lane n ∷ take lane d n way ∷ []) (record { history = h; lanes = done ++ l ∷ todo }) (record { history = h; lanes = done ++ passed d n way (record l { seen = n }) ∷ todo })
one_silent a F h done todo lane l d n way at le lt is =
    let here : record l { seen = n } ≡ heard n l = ap (λ k. record l { seen = k }) (sym (known_is l n le)) in
    two_steps a F h done todo lane n l d n way (passed d n way (record l { seen = n })) at lt (omega (arith, known_is l n le), lt, inl (is, ap (λ k. passed d n way k) here))

-- a datagram that was answered
one_replied : {V : Type 0} (a : Answers V) (F : List V → V → Type 0) (h : List V) (done todo : List LaneState) (lane : ℕ) (l : LaneState) (d : Packet) (n : ℕ) (way : Way) (t : Try) → length done ≡ lane → l.seen ≤ n → n < length h → t.serial < length h → a.silent d.octets ≡ false
    → IsTryOf a h lane l.count (record { packet = d; known = n; way = way }) t
    → IsTaken a F (tell lane n ∷ take lane d t.serial way ∷ []) (record { history = h; lanes = done ++ l ∷ todo }) (record { history = h; lanes = done ++ replied d t way (record l { seen = n }) ∷ todo })
one_replied a F h done todo lane l d n way t at le lt serial is q =
    let here : record l { seen = n } ≡ heard n l = ap (λ k. record l { seen = k }) (sym (known_is l n le)) in
    let known : n ≡ max l.seen n = sym (known_is l n le) in
    two_steps a F h done todo lane n l d t.serial way (replied d t way (record l { seen = n })) at lt
    (omega (arith, known_is l n le, q.fresh), serial, inr (is, (t, refl, subst (λ (k : ℕ). IsTryOf a h lane l.count (record { packet = d; known = k; way = way }) t) known q, ap (λ k. replied d t way k) here)))

got_below : {A : Type 0} (xs : List A) (k : ℕ) (x : A) → slice_get xs k ≡ Some x → k < length xs
got_below [] k x e = absurd cc
got_below (y ∷ xs) zero x e = omega arith
got_below (y ∷ xs) (suc k) x e = let r = got_below xs k x e in omega (arith, r)

-- a datagram in front of a try: its own, where it has a reply
of_kind : {V : Type 0} (a : Answers V) (F : List V → V → Type 0) (h : List V) (done todo : List LaneState) (lane : ℕ) (l : LaneState) (e : Entry) (taken : List Entry) (s : Try) (tries : List Try) → length done ≡ lane → l.seen ≤ e.known → e.known < length h
    → (b : Bool) → a.silent e.packet.octets ≡ b → MatchBool b (IsLaneRun a h lane (following l.count) e.known taken (s ∷ tries)) (IsTryOf a h lane l.count e s × IsLaneRun a h lane (following l.count) s.serial taken tries)
    → (l' : LaneState) × IsOneMore a F h done todo lane l e taken (s ∷ tries) l'
of_kind a F h done todo lane l e taken s tries at le lt true is r =
    let l' = passed e.packet e.known e.way (record l { seen = e.known }) in (
      l',
      record {
        taken_is = refl;
        tries_is = ap (λ b. l.tries ++ (if b then s ∷ tries else tries)) is;
        run = subst (λ (b : Bool). IsLaneRun a h lane (following l.count) e.known taken (if b then s ∷ tries else tries)) (sym is) r;
        steps = subst (λ (b : Bool). IsTaken a F (tell lane e.known ∷ take lane e.packet (if b then e.known else s.serial) e.way ∷ []) (record { history = h; lanes = done ++ l ∷ todo }) (record { history = h; lanes = done ++ l' ∷ todo })) (sym is)
            (one_silent a F h done todo lane l e.packet e.known e.way at le lt is);
      },
    )
of_kind a F h done todo lane l e taken s tries at le lt false is r =
    let l' = replied e.packet s e.way (record l { seen = e.known }) in (
      l',
      record {
        taken_is = refl;
        tries_is = ap (λ b. (l.tries ++ s ∷ []) ++ (if b then s ∷ tries else tries)) is ∙ append_assoc l.tries (s ∷ []) tries;
        run = subst (λ (b : Bool). IsLaneRun a h lane (following l.count) s.serial taken (if b then s ∷ tries else tries)) (sym is) r.1;
        steps = subst (λ (b : Bool). IsTaken a F (tell lane e.known ∷ take lane e.packet (if b then e.known else s.serial) e.way ∷ []) (record { history = h; lanes = done ++ l ∷ todo }) (record { history = h; lanes = done ++ l' ∷ todo })) (sym is)
            (one_replied a F h done todo lane l e.packet e.known e.way s at le lt (got_below h s.serial r.0.version.0 r.0.version.1) is r.0);
      },
    )

-- one datagram of a lane: what is known is told, and then it is taken
one_taken : {V : Type 0} (a : Answers V) (F : List V → V → Type 0) (h : List V) (done todo : List LaneState) (lane : ℕ) (l : LaneState) (e : Entry) (taken : List Entry) (tries : List Try) → length done ≡ lane
    → IsLaneRun a h lane l.count l.seen (e ∷ taken) tries → e.known < length h → (l' : LaneState) × IsOneMore a F h done todo lane l e taken tries l'
one_taken a F h done todo lane l e taken [] at r lt = (
  passed e.packet e.known e.way (record l { seen = e.known }),
  record { taken_is = refl; tries_is = refl; run = r.2; steps = one_silent a F h done todo lane l e.packet e.known e.way at r.0 lt r.1 },
)
one_taken a F h done todo lane l e taken (s ∷ tries) at r lt = of_kind a F h done todo lane l e taken s tries at r.0 lt (a.silent e.packet.octets) refl r.1

-- All datagrams of a lane are taken, and leave their tries.
lane_taken : {V : Type 0} (a : Answers V) (F : List V → V → Type 0) (h : List V) (done todo : List LaneState) (lane : ℕ) (l : LaneState) (taken : List Entry) (tries : List Try) → length done ≡ lane → IsLaneRun a h lane l.count l.seen taken tries
    → All (λ e. e.known < length h) taken
    → (l' : LaneState) × (l'.taken ≡ l.taken ++ taken) × (l'.tries ≡ l.tries ++ tries)
    × IsTaken a F (events_of_lane a lane taken tries) (record { history = h; lanes = done ++ l ∷ todo }) (record { history = h; lanes = done ++ l' ∷ todo })
lane_taken a F h done todo lane l [] [] at r lt = (l, sym (append-nil l.taken), sym (append-nil l.tries), refl)
lane_taken a F h done todo lane l [] (s ∷ tries) at r lt = absurd r
lane_taken a F h done todo lane l (e ∷ taken) tries at r lt =
    let first : e.known < length h = lt 0 e (omega arith) in
    let one = one_taken a F h done todo lane l e taken tries at r first in
    let q = one.1 in
    let rest = lane_taken a F h done todo lane one.0 taken (tries_behind a e tries) at q.run (λ k d le. lt (suc k) d (omega (arith, le))) in (
      rest.0,
      rest.1 ∙ (ap (λ t. t ++ taken) q.taken_is ∙ append_assoc l.taken (e ∷ []) taken),
      rest.2 ∙ q.tries_is,
      taken_append a F (tell lane e.known ∷ take lane e.packet (serial_of a e tries) e.way ∷ []) (events_of_lane a lane taken (tries_behind a e tries)) (record { history = h; lanes = done ++ l ∷ todo }) (record { history = h; lanes = done ++ one.0 ∷ todo })
          (record { history = h; lanes = done ++ rest.0 ∷ todo }) q.steps rest.3,
    )

-- Lane by lane all is taken.
lanes_taken : {V : Type 0} (a : Answers V) (F : List V → V → Type 0) (h : List V) (done : List LaneState) (lane : ℕ) (logs : List LaneLog) → length done ≡ lane → AreRuns a h lane logs
    → (lanes : List LaneState) × HaveDone logs lanes × IsTaken a F (events_of_lanes a lane logs) (record { history = h; lanes = done ++ fresh_lanes logs }) (record { history = h; lanes = done ++ lanes })
lanes_taken a F h done lane [] at r = ([], tt, refl)
lanes_taken {V = V} a F h done lane (l ∷ logs) at r =
    let one = lane_taken a F h done (fresh_lanes logs) lane fresh l.taken l.tries at r.0 r.1 in
    let n : length (done ++ one.0 ∷ []) ≡ lane + 1 = omega (arith, at, length-append done (one.0 ∷ [])) in
    let rest = lanes_taken a F h (done ++ one.0 ∷ []) (lane + 1) logs n r.2 in
    let here : (xs : List LaneState) → (done ++ one.0 ∷ []) ++ xs ≡ done ++ one.0 ∷ xs = λ xs. append_assoc done (one.0 ∷ []) xs in
    let steps : IsTaken a F (events_of_lanes a (lane + 1) logs) (record { history = h; lanes = done ++ one.0 ∷ fresh_lanes logs }) (record { history = h; lanes = done ++ one.0 ∷ rest.0 }) =
    subst (λ (xs : List LaneState). IsTaken a F (events_of_lanes a (lane + 1) logs) (record { history = h; lanes = xs }) (record { history = h; lanes = done ++ one.0 ∷ rest.0 })) (here (fresh_lanes logs))
    (subst (λ (xs : List LaneState). IsTaken a F (events_of_lanes a (lane + 1) logs) (record { history = h; lanes = (done ++ one.0 ∷ []) ++ fresh_lanes logs }) (record { history = h; lanes = xs })) (here rest.0) rest.2) in (
      one.0 ∷ rest.0,
      (one.1, one.2, rest.1),
      taken_append a F (events_of_lane a lane l.taken l.tries) (events_of_lanes a (lane + 1) logs) (record { history = h; lanes = done ++ fresh ∷ fresh_lanes logs }) (record { history = h; lanes = done ++ one.0 ∷ fresh_lanes logs })
          (record { history = h; lanes = done ++ one.0 ∷ rest.0 }) one.3 steps,
    )

-- Lane runs over one history are the state of the machine after one list of events: all commits of the history in order, and then lane by lane each take with a tell of its known before it.
pub all_taken : {V : Type 0} (a : Answers V) (F : List V → V → Type 0) (first : V) (rest : List V) (logs : List LaneLog) → GoesOn F (first ∷ []) rest → AreRuns a (first ∷ rest) 0 logs
    → (lanes : List LaneState) × HaveDone logs lanes
    × IsTaken a F (commits_of rest ++ events_of_lanes a 0 logs) (record { history = first ∷ []; lanes = fresh_lanes logs }) (record { history = first ∷ rest; lanes = lanes })
all_taken a F first rest logs g r =
    let all = lanes_taken a F (first ∷ rest) [] 0 logs refl r in (
      all.0,
      all.1,
      taken_append a F (commits_of rest) (events_of_lanes a 0 logs) (record { history = first ∷ []; lanes = fresh_lanes logs }) (record { history = first ∷ rest; lanes = fresh_lanes logs }) (record { history = first ∷ rest; lanes = all.0 })
          (commits_taken a F (first ∷ []) rest (fresh_lanes logs) g) all.2,
    )
