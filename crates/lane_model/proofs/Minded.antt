-- What a lane knew at each datagram that it took is no less than all that it was told of and used before.
use Rattle.std.proofs.Common.{◌≡◌, ◌≢◌, ◌⊎◌, ℕ, zero, suc, ◌+◌, ◌<◌, ◌≤◌, true, false, if◌then◌else◌, List, [], ◌∷◌, ◌++◌, length, map, Some, slice_get, slice_index_or, inl, inr, ⊎_elim, refl, sym, ap, subst, ◌∙◌, arith, append_assoc, append-nil, length-append, eq-eqb, ne_eqb}
use Rattle.std.specs.List.{flat_map}
use Rattle.std.proofs.lemmas.Bool.{cases_eq}
use Rattle.std.proofs.lemmas.List.{length-map, map-append}
use Rattle.outside.specs.Port.{Packet, Try}
use Rattle.answer_core.specs.declared.way.Way.{Way}
use Rattle.lane_model.specs.Lanes.{Answers, Entry, IsTryOf}
use Rattle.lane_model.specs.Machine.{Event, IsMoved, IsStep, LaneState, Machine, Takes, fresh, passed, replied, heard, commit, tell, take}
use Rattle.lane_model.specs.Minded.{IsMinded, IsMindful, packets_of}

-- what one event makes of a lane
abbrev pub IsHeard : {V : Type 0} → ℕ → Event V → LaneState → LaneState → Type 0
IsHeard lane (commit v) l l' = l' ≡ l
IsHeard lane (tell other n) l l' = ((other ≡ lane) × (l' ≡ heard n l)) ⊎ ((other ≢ lane) × (l' ≡ l))
IsHeard lane (take other d s way) l l' = ((other ≡ lane) × (l.seen ≤ s) × (l'.seen ≡ s) × (l'.taken ≡ l.taken ++ (record { packet = d; known = l.seen; way = way }) ∷ [])) ⊎ ((other ≢ lane) × (l' ≡ l))

-- of a step of the machine: the lane of its number
found : (before behind : List LaneState) (l d : LaneState) → slice_index_or (before ++ l ∷ behind) (length before) d ≡ l
found [] behind l d = refl
found (x ∷ before) behind l d = found before behind l d

-- and any other
passed_over : (before behind : List LaneState) (l l' d : LaneState) (k : ℕ) → (length before ≡ k → ⊥) → slice_index_or (before ++ l' ∷ behind) k d ≡ slice_index_or (before ++ l ∷ behind) k d
passed_over [] behind l l' d zero ne = absurd (ne refl)
passed_over [] behind l l' d (suc k) ne = refl
passed_over (x ∷ before) behind l l' d zero ne = refl
passed_over (x ∷ before) behind l l' d (suc k) ne = passed_over before behind l l' d k (λ e. ne (ap suc e))

moved_here : (at : ℕ) (l l' : LaneState) (lanes lanes' : List LaneState) → IsMoved at l l' lanes lanes' → (slice_index_or lanes at fresh ≡ l) × (slice_index_or lanes' at fresh ≡ l')
moved_here at l l' lanes lanes' mv = (
  ap (λ (xs : List LaneState). slice_index_or xs at fresh) mv.old ∙ (ap (λ k. slice_index_or (mv.before ++ l ∷ mv.behind) k fresh) (sym mv.number) ∙ found mv.before mv.behind l fresh),
  ap (λ (xs : List LaneState). slice_index_or xs at fresh) mv.new ∙ (ap (λ k. slice_index_or (mv.before ++ l' ∷ mv.behind) k fresh) (sym mv.number) ∙ found mv.before mv.behind l' fresh),
)

moved_there : (at lane : ℕ) (l l' : LaneState) (lanes lanes' : List LaneState) → (at ≡ lane → ⊥) → IsMoved at l l' lanes lanes' → slice_index_or lanes' lane fresh ≡ slice_index_or lanes lane fresh
moved_there at lane l l' lanes lanes' ne mv =
    ap (λ (xs : List LaneState). slice_index_or xs lane fresh) mv.new ∙ (passed_over mv.before mv.behind l l' fresh lane (λ e. ne (sym mv.number ∙ e)) ∙ ap (λ (xs : List LaneState). slice_index_or xs lane fresh) (sym mv.old))

-- a take of the lane itself
took_one : {V : Type 0} (a : Answers V) (h : List V) (w : ℕ) (d : Packet) (s : ℕ) (way : Way) (l l' : LaneState) → Takes a h w d s way l l' → (l.seen ≤ s) × (l'.seen ≡ s) × (l'.taken ≡ l.taken ++ (record { packet = d; known = l.seen; way = way }) ∷ [])
took_one a h w d s way l l' t =
    let entry : Entry = record { packet = d; known = l.seen; way = way } in
    let both : (l'.seen ≡ s) × (l'.taken ≡ l.taken ++ entry ∷ []) = ⊎_elim (λ (q : (a.silent d.octets ≡ true) × (l' ≡ passed d s way l)). (ap (λ (k : LaneState). k.seen) q.1, ap (λ (k : LaneState). k.taken) q.1))
    (λ (q : (a.silent d.octets ≡ false) × ((y : Try) × (y.serial ≡ s) × IsTryOf a h w l.count (record { packet = d; known = l.seen; way = way }) y × (l' ≡ replied d y way l))). (ap (λ (k : LaneState). k.seen) q.1.3 ∙ q.1.1, ap (λ (k : LaneState). k.taken) q.1.3)) t.2 in
    (t.0, both.0, both.1)

-- one step of the machine, as the lane of any number sees it
pub step_heard : {V : Type 0} (a : Answers V) (F : List V → V → Type 0) (lane : ℕ) (e : Event V) (m m' : Machine V) → IsStep a F e m m' → IsHeard lane e (slice_index_or m.lanes lane fresh) (slice_index_or m'.lanes lane fresh)
step_heard {V = V} a F lane (commit v) m m' s = ap (λ (k : Machine V). slice_index_or k.lanes lane fresh) s.1
step_heard a F lane (tell other n) m m' s =
    ⊎_elim (λ (same : other ≡ lane).
    let here = moved_here other s.2.0 (heard n s.2.0) m.lanes m'.lanes s.2.1 in
    inl (same, subst (λ (k : ℕ). slice_index_or m'.lanes k fresh ≡ heard n (slice_index_or m.lanes k fresh)) same (here.1 ∙ ap (heard n) (sym here.0))))
    (λ (ne : other ≡ lane → ⊥). inr (ne, moved_there other lane s.2.0 (heard n s.2.0) m.lanes m'.lanes ne s.2.1)) (cases_eq other lane)
step_heard a F lane (take other d n way) m m' s =
    let l = s.1.0 in
    let l' = s.1.1 in
    ⊎_elim (λ (same : other ≡ lane).
    let here = moved_here other l l' m.lanes m'.lanes s.1.3 in
    let one = took_one a m.history other d n way l l' s.1.2 in
    let at : (k k' : LaneState) → k ≡ l → k' ≡ l' → (k.seen ≤ n) × (k'.seen ≡ n) × (k'.taken ≡ k.taken ++ (record { packet = d; known = k.seen; way = way }) ∷ []) = λ k k' is is'.
    subst (λ (x : LaneState). (x.seen ≤ n) × (k'.seen ≡ n) × (k'.taken ≡ x.taken ++ (record { packet = d; known = x.seen; way = way }) ∷ [])) (sym is)
    (subst (λ (y : LaneState). (l.seen ≤ n) × (y.seen ≡ n) × (y.taken ≡ l.taken ++ (record { packet = d; known = l.seen; way = way }) ∷ [])) (sym is') one) in
    let all = at (slice_index_or m.lanes lane fresh) (slice_index_or m'.lanes lane fresh) (subst (λ (k : ℕ). slice_index_or m.lanes k fresh ≡ l) same here.0) (subst (λ (k : ℕ). slice_index_or m'.lanes k fresh ≡ l') same here.1) in
    inl (same, all.0, all.1, all.2))
    (λ (ne : other ≡ lane → ⊥). inr (ne, moved_there other lane l l' m.lanes m'.lanes ne s.1.3)) (cases_eq other lane)

-- one event more or less
record IsOnce {V : Type 0} (lane : ℕ) (e : Event V) (l l' : LaneState) : Type 0 where
  pub new : List Entry
  pub taken : l'.taken ≡ l.taken ++ new
  pub packets : map (λ x. x.packet) new ≡ packets_of lane e
  pub first : l.seen ≤ l'.seen
  pub heard : (n : ℕ) → e ≡ tell lane n → n ≤ l'.seen
  pub used : (d : Packet) (s : ℕ) (way : Way) → e ≡ take lane d s way → s ≤ l'.seen
  pub entry : (d : Packet) (s : ℕ) (way : Way) → e ≡ take lane d s way → new ≡ (record { packet = d; known = l.seen; way = way }) ∷ []

-- an event that says nothing to the lane
nothing_heard : {V : Type 0} (lane : ℕ) (e : Event V) (l l' : LaneState) → l' ≡ l → packets_of lane e ≡ [] → ((n : ℕ) → e ≡ tell lane n → ⊥) → ((d : Packet) (s : ℕ) (way : Way) → e ≡ take lane d s way → ⊥) → IsOnce lane e l l'
nothing_heard lane e l l' same none no_tell no_take = record {
  new = [];
  taken = ap (λ (k : LaneState). k.taken) same ∙ sym (append-nil l.taken);
  packets = sym none;
  first = let is = ap (λ (k : LaneState). k.seen) same in omega (arith, is);
  heard = λ n is. absurd (no_tell n is);
  used = λ d s way is. absurd (no_take d s way is);
  entry = λ d s way is. absurd (no_take d s way is);
}

heard_once : {V : Type 0} (lane : ℕ) (e : Event V) (l l' : LaneState) → IsHeard lane e l l' → IsOnce lane e l l'
heard_once lane (commit v) l l' h = nothing_heard lane (commit v) l l' h refl (λ n is. absurd (cc is)) (λ d s way is. absurd (cc is))
heard_once lane (tell other n) l l' (inl h) = record {
  new = [];
  taken = ap (λ (k : LaneState). k.taken) h.1 ∙ sym (append-nil l.taken);
  packets = refl;
  first = let is = ap (λ (k : LaneState). k.seen) h.1 in omega (arith, is);
  heard = λ k is. let same : n ≡ k = cc is in let seen = ap (λ (x : LaneState). x.seen) h.1 in omega (arith, same, seen);
  used = λ d s way is. absurd (cc is);
  entry = λ d s way is. absurd (cc is);
}
heard_once lane (tell other n) l l' (inr h) = nothing_heard lane (tell other n) l l' h.1 refl (λ k is. h.0 (cc is)) (λ d s way is. absurd (cc is))
heard_once lane (take other d n way) l l' (inl h) = record {
  new = (record { packet = d; known = l.seen; way = way }) ∷ [];
  taken = h.3;
  packets = ap (λ b. if b then d ∷ [] else []) (sym (eq-eqb other lane h.0));
  first = omega (arith, h.1, h.2);
  heard = λ k is. absurd (cc is);
  used = λ c s by is. let same : n ≡ s = cc is in omega (arith, same, h.2);
  entry = λ c s by is. let same : d ≡ c = cc is in let way_is : way ≡ by = cc is in ap (λ (x : Packet). (record { packet = x; known = l.seen; way = way }) ∷ []) same ∙ ap (λ (x : Way). (record { packet = c; known = l.seen; way = x }) ∷ []) way_is;
}
heard_once lane (take other d n way) l l' (inr h) = nothing_heard lane (take other d n way) l l' h.1 (ap (λ b. if b then d ∷ [] else []) (ne_eqb other lane h.0)) (λ k is. absurd (cc is)) (λ c s by is. h.0 (cc is))

-- what is known minds one event more
mindful_more : {V : Type 0} (lane first mid : ℕ) (e : Event V) (events : List (Event V)) (known : ℕ) → first ≤ mid → ((n : ℕ) → e ≡ tell lane n → n ≤ mid) → ((d : Packet) (s : ℕ) (way : Way) → e ≡ take lane d s way → s ≤ mid) → IsMindful lane mid events known
    → IsMindful lane first (e ∷ events) known
mindful_more {V = V} lane first mid e events known le by_tell by_take r = record {
  first_known = let up = r.first_known in omega (arith, le, up);
  heard = λ n at. one_tell n at.0 at.1 at.2;
  used = λ d s way at. one_take d s way at.0 at.1 at.2;
}
  where
    one_tell : (n k : ℕ) → k < length (e ∷ events) → slice_index_or (e ∷ events) k (tell lane n) ≡ tell lane n → n ≤ known
    one_tell n zero lt is = let below = by_tell n is in let up = r.first_known in omega (arith, below, up)
    one_tell n (suc k) lt is = r.heard n (k, omega (arith, lt), is)

    one_take : (d : Packet) (s : ℕ) (way : Way) (k : ℕ) → k < length (e ∷ events) → slice_index_or (e ∷ events) k (take lane d s way) ≡ take lane d s way → s ≤ known
    one_take d s way zero lt is = let below = by_take d s way is in let up = r.first_known in omega (arith, below, up)
    one_take d s way (suc k) lt is = r.used d s way (k, omega (arith, lt), is)

mindful_none : {V : Type 0} (lane n : ℕ) → IsMindful {V = V} lane n [] n
mindful_none lane n = record { first_known = omega arith; heard = λ k at. absurd (omega (arith, at.1)); used = λ d s way at. absurd (omega (arith, at.1)) }

behind_some : {A : Type 0} (xs ys : List A) (n k : ℕ) (y : A) → k ≡ length xs + n → slice_get ys n ≡ Some y → slice_get (xs ++ ys) k ≡ Some y
behind_some [] ys n k y at is = let here : k ≡ n = omega (arith, at) in ap (slice_get ys) here ∙ is
behind_some (x ∷ xs) ys n zero y at is = absurd (omega (arith, at))
behind_some (x ∷ xs) ys n (suc k) y at is = behind_some xs ys n k y (omega (arith, at)) is

-- the entry of a take, behind one event more
entry_more : {V : Type 0} (lane : ℕ) (e : Event V) (events : List (Event V)) (l mid l' : LaneState) (once : IsOnce lane e l mid) (rest : IsMinded lane events mid l') (before behind : List (Event V)) (d : Packet) (s : ℕ) (way : Way) → e ∷ events ≡ before ++ take lane d s way ∷ behind
    → (x : Entry) × (slice_get (once.new ++ rest.new) (length (flat_map (packets_of lane) before)) ≡ Some x) × (x.way ≡ way) × IsMindful lane l.seen before x.known
entry_more lane e events l mid l' once rest [] behind d s way is = (
  record { packet = d; known = l.seen; way = way },
  ap (λ (xs : List Entry). slice_get (xs ++ rest.new) 0) (once.entry d s way (cc is)),
  refl,
  mindful_none lane l.seen,
)
entry_more {V = V} lane e events l mid l' once rest (x ∷ before) behind d s way is =
    let same : e ≡ x = cc is in
    let more : events ≡ before ++ take lane d s way ∷ behind = cc is in
    let one = rest.entries before behind d s way more in
    let size : length (packets_of lane x) ≡ length once.new = ap (λ (y : Event V). length (packets_of lane y)) (sym same) ∙ (ap length (sym once.packets) ∙ length-map once.new (λ (y : Entry). y.packet)) in (
      one.0,
      behind_some once.new rest.new (length (flat_map (packets_of lane) before)) (length (packets_of lane x ++ flat_map (packets_of lane) before)) one.0 (length-append (packets_of lane x) (flat_map (packets_of lane) before) ∙ ap (λ k. k + length (flat_map (packets_of lane) before)) size) one.1,
      one.2,
      subst (λ (y : Event V). IsMindful lane l.seen (y ∷ before) one.0.known) same (mindful_more lane l.seen mid.seen e before one.0.known once.first once.heard once.used one.3),
    )

-- one event more
pub minded_more : {V : Type 0} (lane : ℕ) (e : Event V) (events : List (Event V)) (l mid l' : LaneState) → IsHeard lane e l mid → IsMinded lane events mid l' → IsMinded lane (e ∷ events) l l'
minded_more lane e events l mid l' h rest =
    let once = heard_once lane e l mid h in
    record {
      new = once.new ++ rest.new;
      taken = rest.taken ∙ (ap (λ xs. xs ++ rest.new) once.taken ∙ append_assoc l.taken once.new rest.new);
      packets = map-append (λ (x : Entry). x.packet) once.new rest.new ∙ (ap (λ xs. xs ++ map (λ (x : Entry). x.packet) rest.new) once.packets ∙ ap (λ xs. packets_of lane e ++ xs) rest.packets);
      entries = λ before behind d s way is. entry_more lane e events l mid l' once rest before behind d s way is;
      after = mindful_more lane l.seen mid.seen e events l'.seen once.first once.heard once.used rest.after;
    }

no_event : {A : Type 0} (before behind : List A) (x : A) → [] ≡ before ++ x ∷ behind → ⊥
no_event [] behind x is = cc is
no_event (y ∷ before) behind x is = cc is

pub minded_none : {V : Type 0} (lane : ℕ) (l : LaneState) → IsMinded {V = V} lane [] l l
minded_none lane l = record { new = []; taken = sym (append-nil l.taken); packets = refl; entries = λ before behind d s way is. absurd (no_event before behind (take lane d s way) is); after = mindful_none lane l.seen }
