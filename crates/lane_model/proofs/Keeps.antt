-- What the machine keeps: a history, and lanes that are lane runs over it.
use Rattle.std.proofs.Common.{◌≡◌, ℕ, suc, ◌+◌, ◌<◌, ◌≤◌, Bool, true, false, List, [], ◌∷◌, ◌++◌, length, max, MatchBool, refl, sym, ap, subst, ◌∙◌, arith, append_assoc, append-nil, length-append, ⊎_elim}
use mathlib.Core.List.{IsPrefix}
use Rattle.outside.specs.Port.{Packet, Try}
use Rattle.answer_core.specs.declared.way.Way.{Way}
use Rattle.lane_model.specs.Lanes.{Answers, Entry, IsTryOf, following}
use Rattle.lane_model.specs.Machine.{Event, LaneState, Machine, GoesOn, IsStep, IsTaken, Takes, passed, replied, heard, commit, tell, take}
use Rattle.lane_model.specs.Lawful.{AreKeptLanes, IsLawful, IsRunTo}
use Rattle.lane_model.proofs.Prefixes.{prefix_get}

both : {P Q P' Q' : Type 0} (b : Bool) → (P → P') → (Q → Q') → MatchBool b P Q → MatchBool b P' Q'
both true f g x = f x
both false f g x = g x

try_longer : {V : Type 0} (a : Answers V) (h h' : List V) (w n : ℕ) (e : Entry) (s : Try) → IsPrefix h h' → IsTryOf a h w n e s → IsTryOf a h' w n e s
try_longer a h h' w n e s p q = record { to = q.to; fresh = q.fresh; version = (q.version.0, prefix_get h h' s.serial q.version.0 p q.version.1, q.version.2) }

-- more of the history does no harm, nor more that is known
run_wider : {V : Type 0} (a : Answers V) (h h' : List V) (w n floor n' floor' more : ℕ) (taken : List Entry) (tries : List Try) → IsPrefix h h' → floor' ≤ more → IsRunTo a h w n floor taken tries n' floor' → IsRunTo a h' w n floor taken tries n' more
run_wider a h h' w n floor n' floor' more [] [] p le r = (r.0, omega (arith, le, r.1))
run_wider a h h' w n floor n' floor' more [] (s ∷ tries) p le r = absurd r
run_wider a h h' w n floor n' floor' more (e ∷ taken) [] p le r = (r.0, r.1, run_wider a h h' w (following n) e.known n' floor' more taken [] p le r.2)
run_wider a h h' w n floor n' floor' more (e ∷ taken) (s ∷ tries) p le r = (
  r.0,
  both (a.silent e.packet.octets) (λ (q : IsRunTo a h w (following n) e.known taken (s ∷ tries) n' floor'). run_wider a h h' w (following n) e.known n' floor' more taken (s ∷ tries) p le q)
      (λ (q : IsTryOf a h w n e s × IsRunTo a h w (following n) s.serial taken tries n' floor'). (try_longer a h h' w n e s p q.0, run_wider a h h' w (following n) s.serial n' floor' more taken tries p le q.1)) r.1,
)

-- a datagram without a reply
run_passed : {V : Type 0} (a : Answers V) (h : List V) (w n floor n' floor' s : ℕ) (d : Packet) (way : Way) (taken : List Entry) (tries : List Try) → a.silent d.octets ≡ true → floor' ≤ s → IsRunTo a h w n floor taken tries n' floor'
    → IsRunTo a h w n floor (taken ++ (record { packet = d; known = floor'; way = way }) ∷ []) tries (following n') s
run_passed a h w n floor n' floor' s d way [] [] is le r = (r.1, is, (ap following r.0, le))
run_passed a h w n floor n' floor' s d way [] (t ∷ tries) is le r = absurd r
run_passed a h w n floor n' floor' s d way (e ∷ taken) [] is le r = (r.0, r.1, run_passed a h w (following n) e.known n' floor' s d way taken [] is le r.2)
run_passed a h w n floor n' floor' s d way (e ∷ taken) (t ∷ tries) is le r = (
  r.0,
  both (a.silent e.packet.octets) (λ (q : IsRunTo a h w (following n) e.known taken (t ∷ tries) n' floor'). run_passed a h w (following n) e.known n' floor' s d way taken (t ∷ tries) is le q)
      (λ (q : IsTryOf a h w n e t × IsRunTo a h w (following n) t.serial taken tries n' floor'). (q.0, run_passed a h w (following n) t.serial n' floor' s d way taken tries is le q.1)) r.1,
)

-- a datagram with its try
run_replied : {V : Type 0} (a : Answers V) (h : List V) (w n floor n' floor' : ℕ) (d : Packet) (t : Try) (way : Way) (taken : List Entry) (tries : List Try) → a.silent d.octets ≡ false → IsTryOf a h w n' (record { packet = d; known = floor'; way = way }) t → IsRunTo a h w n floor taken tries n' floor'
    → IsRunTo a h w n floor (taken ++ (record { packet = d; known = floor'; way = way }) ∷ []) (tries ++ t ∷ []) (following n') t.serial
run_replied {V = V} a h w n floor n' floor' d t way [] [] is q r = (
  r.1,
  subst (λ (b : Bool). MatchBool b (IsRunTo a h w (following n) floor' [] (t ∷ []) (following n') t.serial) (IsTryOf a h w n (record { packet = d; known = floor'; way = way }) t × IsRunTo a h w (following n) t.serial [] [] (following n') t.serial)) (sym is)
      (subst (λ (k : ℕ). IsTryOf a h w k (record { packet = d; known = floor'; way = way }) t) r.0 q, (ap following r.0, omega arith)),
)
run_replied a h w n floor n' floor' d t way [] (s ∷ tries) is q r = absurd r
run_replied a h w n floor n' floor' d t way (e ∷ taken) [] is q r = (
  r.0,
  subst (λ (b : Bool). MatchBool b (IsRunTo a h w (following n) e.known (taken ++ (record { packet = d; known = floor'; way = way }) ∷ []) (t ∷ []) (following n') t.serial)
      (IsTryOf a h w n e t × IsRunTo a h w (following n) t.serial (taken ++ (record { packet = d; known = floor'; way = way }) ∷ []) [] (following n') t.serial)) (sym r.1) (run_replied a h w (following n) e.known n' floor' d t way taken [] is q r.2),
)
run_replied a h w n floor n' floor' d t way (e ∷ taken) (s ∷ tries) is q r = (
  r.0,
  both (a.silent e.packet.octets) (λ (p : IsRunTo a h w (following n) e.known taken (s ∷ tries) n' floor'). run_replied a h w (following n) e.known n' floor' d t way taken (s ∷ tries) is q p)
      (λ (p : IsTryOf a h w n e s × IsRunTo a h w (following n) s.serial taken tries n' floor'). (p.0, run_replied a h w (following n) s.serial n' floor' d t way taken tries is q p.1)) r.1,
)

-- lanes over more of the history
kept_longer : {V : Type 0} (a : Answers V) (h h' : List V) (at : ℕ) (lanes : List LaneState) → IsPrefix h h' → length h ≤ length h' → AreKeptLanes a h at lanes → AreKeptLanes a h' at lanes
kept_longer a h h' at [] p le k = tt
kept_longer a h h' at (l ∷ lanes) p le k = (run_wider a h h' at 0 0 l.count l.seen l.seen l.taken l.tries p (omega arith) k.0, omega (arith, le, k.1), kept_longer a h h' (at + 1) lanes p le k.2)

-- one lane goes on
kept_moved : {V : Type 0} (a : Answers V) (h : List V) (at : ℕ) (before behind : List LaneState) (l l' : LaneState) → AreKeptLanes a h at (before ++ l ∷ behind)
    → (IsRunTo a h (at + length before) 0 0 l.taken l.tries l.count l.seen → l.seen < length h → IsRunTo a h (at + length before) 0 0 l'.taken l'.tries l'.count l'.seen × (l'.seen < length h)) → AreKeptLanes a h at (before ++ l' ∷ behind)
kept_moved a h at [] behind l l' k f =
    let here : at ≡ at + 0 = omega arith in
    let q = f (subst (λ (x : ℕ). IsRunTo a h x 0 0 l.taken l.tries l.count l.seen) here k.0) k.1 in
    (subst (λ (x : ℕ). IsRunTo a h x 0 0 l'.taken l'.tries l'.count l'.seen) (sym here) q.0, q.1, k.2)
kept_moved a h at (x ∷ before) behind l l' k f =
    let here : at + 1 + length before ≡ at + suc (length before) = omega arith in
    (k.0, k.1, kept_moved a h (at + 1) before behind l l' k.2 (λ r lt. let q = f (subst (λ (y : ℕ). IsRunTo a h y 0 0 l.taken l.tries l.count l.seen) here r) lt in (subst (λ (y : ℕ). IsRunTo a h y 0 0 l'.taken l'.tries l'.count l'.seen) (sym here) q.0, q.1)))

goes_more : {V : Type 0} (F : List V → V → Type 0) (before rest : List V) (v : V) → GoesOn F before rest → F (before ++ rest) v → GoesOn F before (rest ++ v ∷ [])
goes_more F before [] v g f = (subst (λ h. F h v) (append-nil before) f, tt)
goes_more F before (x ∷ rest) v g f = (g.0, goes_more F (before ++ x ∷ []) rest v g.1 (subst (λ h. F h v) (sym (append_assoc before (x ∷ []) rest)) f))

-- what a take does to a lane
taken_run : {V : Type 0} (a : Answers V) (h : List V) (w : ℕ) (d : Packet) (s : ℕ) (way : Way) (l l' : LaneState) → Takes a h w d s way l l' → IsRunTo a h w 0 0 l.taken l.tries l.count l.seen → IsRunTo a h w 0 0 l'.taken l'.tries l'.count l'.seen × (l'.seen < length h)
taken_run a h w d s way l l' t r =
    ⊎_elim (λ (q : (a.silent d.octets ≡ true) × (l' ≡ passed d s way l)). subst (λ (k : LaneState). IsRunTo a h w 0 0 k.taken k.tries k.count k.seen × (k.seen < length h)) (sym q.1) (run_passed a h w 0 0 l.count l.seen s d way l.taken l.tries q.0 t.0 r, t.1))
    (λ (q : (a.silent d.octets ≡ false) × ((y : Try) × (y.serial ≡ s) × IsTryOf a h w l.count (record { packet = d; known = l.seen; way = way }) y × (l' ≡ replied d y way l))).
    subst (λ (k : LaneState). IsRunTo a h w 0 0 k.taken k.tries k.count k.seen × (k.seen < length h)) (sym q.1.3) (run_replied a h w 0 0 l.count l.seen d q.1.0 way l.taken l.tries q.0 q.1.2 r, subst (λ (k : ℕ). k < length h) (sym q.1.1) t.1)) t.2

heard_run : {V : Type 0} (a : Answers V) (h : List V) (w n : ℕ) (l : LaneState) → n < length h → IsRunTo a h w 0 0 l.taken l.tries l.count l.seen → l.seen < length h → IsRunTo a h w 0 0 l.taken l.tries l.count (max l.seen n) × (max l.seen n < length h)
heard_run a h w n l lt r le = (run_wider a h h w 0 0 l.count l.seen (max l.seen n) l.taken l.tries ([], append-nil h) (omega arith) r, omega (arith, lt, le))

-- one step keeps it
step_kept : {V : Type 0} (a : Answers V) (F : List V → V → Type 0) (first : V) (e : Event V) (m m' : Machine V) → IsStep a F e m m' → IsLawful a F first m → IsLawful a F first m'
step_kept {V = V} a F first (commit v) m m' s k =
    let is : m.history ++ v ∷ [] ≡ first ∷ (k.rest ++ v ∷ []) = ap (λ h. h ++ v ∷ []) k.history in
    let lanes = kept_longer a m.history (m.history ++ v ∷ []) 0 m.lanes (v ∷ [], refl) (omega (arith, length-append m.history (v ∷ []))) k.lanes in
    subst (λ (x : Machine V). IsLawful a F first x) (sym s.1) (record { rest = k.rest ++ v ∷ []; history = is; goes_on = goes_more F (first ∷ []) k.rest v k.goes_on (subst (λ h. F h v) k.history s.0); lanes = lanes })
step_kept {V = V} a F first (tell lane n) m m' s k =
    let mv = s.2.1 in
    let l = s.2.0 in
    let old = subst (λ (x : List LaneState). AreKeptLanes a m.history 0 x) mv.old k.lanes in
    let new = kept_moved a m.history 0 mv.before mv.behind l (heard n l) old (λ r lt. heard_run a m.history (0 + length mv.before) n l s.0 r lt) in
    let all = subst (λ (x : List LaneState). AreKeptLanes a m.history 0 x) (sym mv.new) new in record { rest = k.rest; history = s.1 ∙ k.history; goes_on = k.goes_on; lanes = subst (λ (h : List V). AreKeptLanes a h 0 m'.lanes) (sym s.1) all }
step_kept {V = V} a F first (take lane d n way) m m' s k =
    let l = s.1.0 in
    let l' = s.1.1 in
    let mv = s.1.3 in
    let here : lane ≡ 0 + length mv.before = omega (arith, mv.number) in
    let t = subst (λ (w : ℕ). Takes a m.history w d n way l l') here s.1.2 in
    let old = subst (λ (x : List LaneState). AreKeptLanes a m.history 0 x) mv.old k.lanes in
    let new = kept_moved a m.history 0 mv.before mv.behind l l' old (λ r lt. taken_run a m.history (0 + length mv.before) d n way l l' t r) in
    let all = subst (λ (x : List LaneState). AreKeptLanes a m.history 0 x) (sym mv.new) new in record { rest = k.rest; history = s.0 ∙ k.history; goes_on = k.goes_on; lanes = subst (λ (h : List V). AreKeptLanes a h 0 m'.lanes) (sym s.0) all }

-- Whatever is taken, the machine's history is one, and its lanes are lane runs over it.
pub all_kept : {V : Type 0} (a : Answers V) (F : List V → V → Type 0) (first : V) (events : List (Event V)) (m m' : Machine V) → IsTaken a F events m m' → IsLawful a F first m → IsLawful a F first m'
all_kept {V = V} a F first [] m m' t k = subst (λ (x : Machine V). IsLawful a F first x) (sym t) k
all_kept a F first (e ∷ events) m m' t k = all_kept a F first events t.0 m' t.2 (step_kept a F first e m t.0 t.1 k)
