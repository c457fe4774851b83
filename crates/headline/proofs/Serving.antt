-- What a run of `serve` publishes and replies.
use Rattle.std.proofs.Common.{◌≡◌, ◌⊎◌, inl, inr, ℕ, zero, suc, ◌+◌, ◌-◌, ◌<◌, ◌≤◌, Bool, true, false, List, [], ◌∷◌, ◌++◌, length, map, fold, flat_map, slice_get, slice_index_or, All, Option, None, Some, refl, ap, ap₂, sym, subst, ◌∙◌, arith, append_assoc, append-nil}
use Rattle.std.specs.Prelude.{MatchBool}
use mathlib.Core.List.{IsPrefix}
use Rattle.std.proofs.lemmas.Option.{none-some, same_Some, slice_get_within}
use Rattle.addr_text.specs.declared.address.Listen.{Listen}
use Rattle.outside.specs.Faults.{BothTell, Rose}
use Rattle.outside.specs.Port.{IsOpen, PortTold, Taken, Try}
use Rattle.outside.specs.declared.port.Opening.{Opening}
use Rattle.outside.specs.declared.port.Opening.TheVariants as opening
use Rattle.map_model.specs.Market.{IsMarket, IsSameShape, Market}
use Rattle.topology_text.specs.Plan.{IsPlan, Plan}
use Rattle.published_map.specs.Version.{IsVersion, Version}
use Rattle.answer_core.specs.declared.way.Way.TheVariants as way
use Rattle.map_cell.specs.Histories.{IsHistory}
use Rattle.map_cell.specs.Rows.{AreFirst}
use Rattle.past_log.specs.Notes.{no_notes}
use Rattle.lane_model.specs.declared.ended.Ended.{Ended}
use Rattle.lane_model.specs.declared.ended.Ended.TheVariants as end
use Rattle.lane_model.specs.Calls.{IsEnd}
use Rattle.lane_model.specs.Lanes.{Answers, Entry, IsLaneRun, IsTryOf, following}
use Rattle.lane_model.specs.Machine.{GoesOn}
use Rattle.lane_model.specs.Replies.{is_silent, replies}
use Rattle.lane_model.specs.Turns.{IsFated, IsTold, Turn, entries_of, notes_turn, port_turn, tries_of}
use Rattle.drive.specs.Done.{IsDone, IsServedLog, LaneTold, ServerTold}
use Rattle.drive.specs.Driven.{AreDone, Succeeds}
use Rattle.glb.specs.declared.status.Status.{Status}
use Rattle.glb.specs.declared.status.Status.TheVariants as status
use Rattle.glb.specs.Serve.{AreOpened, AskedFirst, IsFirstOf, PlacedFirst}
use Rattle.glb.specs.Served.{AreWellDone, IsWellDone}
use Rattle.headline.specs.Headline.{AreMaps, AreMinded, IsAlike, IsLane, IsMap, places_of}
use Rattle.headline.specs.Runs.{AreLanes}
use Rattle.headline.specs.View.{Group, Node, came, choice, group, instance, knew, node, tried}
use Rattle.map_model.specs.Allocation as code
use Rattle.headline.proofs.Trees.{IsForest, forest, number}
use Rattle.headline.proofs.Good.{good_is_good}
use Rattle.headline.proofs.Order.{in_order}
use Rattle.headline.proofs.Minding.{datagrams_minded, none_minded, numbers_are}
use Rattle.headline.proofs.Events.{AreLooked, all_looked, came_made, knew_made, known_folded, last_looked, none_lost, known_of, heard_made, made, packet_of, right, taken_folded, tried_made, tries_folded}

-- MAPS

same_made : {X Y Z : Type 0} (f : Y → Z) (g : X → Y) (d : X) (xs ys : List X) → length xs ≡ length ys → ((i : ℕ) → f (g (slice_index_or xs i d)) ≡ f (g (slice_index_or ys i d))) → map f (map g xs) ≡ map f (map g ys)
same_made f g d [] [] l h = refl
same_made f g d [] (y ∷ ys) l h = absurd (omega (arith, l))
same_made f g d (x ∷ xs) [] l h = absurd (omega (arith, l))
same_made f g d (x ∷ xs) (y ∷ ys) l h = ap₂ (λ a others. a ∷ others) (h 0) (same_made f g d xs ys (omega (arith, l)) (λ i. h (suc i)))

pub alike_is : (m m' : Market) → IsSameShape m m' → IsAlike (instance m) (instance m')
alike_is m m' shape = (
  same_made (λ (g : Group). g.choices) group (record { demand = 0; choices = [] }) m'.groups m.groups shape.groups (λ i. ap (map choice) (shape.lists i)),
  same_made (λ (x : Node). x.parent) node (record { capacity = 0; parent = None; is_pool = false }) m'.nodes m.nodes shape.nodes (λ i. ap number (shape.trees i)),
)

-- a good map for the trees and lists of a topology
pub map_like : (t : Plan) (n : ℕ) (v : Version) → IsForest v.market → IsSameShape t.market v.market → code.IsGood v.market v.lines v.names → v.serial ≡ n → v.plan ≡ t → IsMap t n v
map_like t n v forest shape good serial plan = record {
  number = serial;
  topology = plan;
  alike = alike_is t.market v.market shape;
  good = good_is_good v.market v.lines v.names forest good;
}

is_map : (t : Plan) (n : ℕ) (v : Version) → IsVersion v → v.serial ≡ n → v.plan ≡ t → IsMap t n v
is_map t n v version serial plan = map_like t n v (forest v.market version.market) (subst (λ (p : Plan). IsSameShape p.market v.market) plan version.shape) version.good serial plan

-- one version more
pub one_of : {A : Type 0} (xs : List A) (x y : A) (n : ℕ) → slice_get (xs ++ x ∷ []) n ≡ Some y → (slice_get xs n ≡ Some y) ⊎ ((n ≡ length xs) × (x ≡ y))
one_of [] x y zero h = inr (refl, same_Some x y h)
one_of [] x y (suc n) h = absurd (none-some y h)
one_of (z ∷ zs) x y zero h = inl h
one_of (z ∷ zs) x y (suc n) h = elim (one_of zs x y n h) [ inl g ↦ inl g | inr g ↦ let e = g.0 in inr (omega (arith, e), g.1) ]

more_maps : (t : Plan) (h : List Version) (v : Version) → AreMaps (Some t) h → IsMap t (length h) v → AreMaps (Some t) (h ++ v ∷ [])
more_maps t h v maps is n x at = elim (one_of h v x n at) [
  | inl old ↦ maps n x old
  | inr new ↦ subst (λ y. IsMap t n y) new.1 (subst (λ k. IsMap t k v) (sym new.0) is)
]

pub all_maps : (t : Plan) (h rest : List Version) → AreMaps (Some t) h → GoesOn Succeeds h rest → AreMaps (Some t) (h ++ rest)
all_maps t h [] maps on = subst (AreMaps (Some t)) (sym (append-nil h)) maps
all_maps t h (v ∷ rest) maps on =
    let next = on.0 in
    let last = maps (length h - 1) next.0 next.2 in
    let within : length h - 1 < length h = slice_get_within h (length h - 1) next.0 next.2 in
    let number = last.number in
    let up = next.3.serial in
    let is : IsMap t (length h) v = is_map t (length h) v next.4 (omega (arith, within, number, up)) (next.3.plan ∙ last.topology) in
    subst (AreMaps (Some t)) (append_assoc h (v ∷ []) rest) (all_maps t (h ++ v ∷ []) rest (more_maps t h v maps is) on.1)

pub first_version : (t : Plan) (first : Version) → IsPlan t → IsFirstOf t first → IsVersion first
first_version t first plan is =
    let p : first.plan ≡ t = is.0.plan in
    let m : first.market ≡ t.market = is.0.market in
    record {
      plan = subst IsPlan (sym p) plan;
      market = subst IsMarket (sym m) plan.market;
      shape = rw (p, m) (record { groups = refl; nodes = refl; lists = λ g. refl; trees = λ k. refl; pools = λ k. refl });
      good = rw m is.0.good;
    }

pub first_maps : (t : Plan) (first : Version) → IsPlan t → IsFirstOf t first → AreMaps (Some t) (first ∷ [])
first_maps t first plan is n v at = by n at
  where
    version : IsVersion first
    version = first_version t first plan is

    by : (k : ℕ) → slice_get (first ∷ []) k ≡ Some v → IsMap t k v
    by zero h = subst (λ x. IsMap t 0 x) (same_Some first v h) (is_map t 0 first version is.0.serial is.0.plan)
    by (suc k) h = absurd (none-some v h)

history_maps : (t : Plan) (first : Version) (h : List Version) → IsHistory h → slice_get h 0 ≡ Some first → first.plan ≡ t → AreMaps (Some t) h
history_maps t first h history front plan n v at = let is = history.at n v at in is_map t n v is.0 is.1 (history.one n 0 v first at front ∙ plan)

-- RUNS OVER MORE MAPS

prefix_get : {A : Type 0} (xs ys : List A) (k : ℕ) (x : A) → IsPrefix xs ys → slice_get xs k ≡ Some x → slice_get ys k ≡ Some x
prefix_get [] ys k x p h = absurd (none-some x h)
prefix_get (y ∷ xs) [] k x p h = absurd (cc (p.1))
prefix_get (y ∷ xs) (z ∷ ys) zero x p h = cc (p.1, h)
prefix_get (y ∷ xs) (z ∷ ys) (suc k) x p h = prefix_get xs ys k x (p.0, cc (p.1)) h

try_more : (a : Answers Version) (h k : List Version) (w n : ℕ) (e : Entry) (s : Try) → IsPrefix h k → IsTryOf a h w n e s → IsTryOf a k w n e s
try_more a h k w n e s p t = record { to = t.to; fresh = t.fresh; version = (t.version.0, prefix_get h k s.serial t.version.0 p t.version.1, t.version.2) }

both_more : (b : Bool) (P P' Q Q' : Type 0) → (P → P') → (Q → Q') → MatchBool b P Q → MatchBool b P' Q'
both_more true P P' Q Q' f g h = f h
both_more false P P' Q Q' f g h = g h

run_more : (a : Answers Version) (h k : List Version) (w n floor : ℕ) (taken : List Entry) (tries : List Try) → IsPrefix h k → IsLaneRun a h w n floor taken tries → IsLaneRun a k w n floor taken tries
run_more a h k w n floor [] [] p r = tt
run_more a h k w n floor [] (s ∷ tries) p r = absurd r
run_more a h k w n floor (e ∷ taken) [] p r = (r.0, r.1, run_more a h k w (following n) e.known taken [] p r.2)
run_more a h k w n floor (e ∷ taken) (s ∷ tries) p r =
    (r.0, both_more (a.silent e.packet.octets) _ _ _ _ (λ x. run_more a h k w (following n) e.known taken (s ∷ tries) p x) (λ x. (try_more a h k w n e s p x.0, run_more a h k w (following n) s.serial taken tries p x.1)) r.1)

-- WHAT IS TOLD

-- a port tells of no answer more, and of no reply
abbrev pub Stays : PortTold → PortTold → Type 0
Stays b a = (a.taken ≡ b.taken) × (a.tries ≡ b.tries) × (a.places ≡ b.places) × (a.recvs ≡ b.recvs)

-- the port tells of no message more, and of no reply; the door's count did not fall
abbrev pub IsIdle : LaneTold → LaneTold → Type 0
IsIdle before after = BothTell before.port after.port Stays × (before.door_faults ≤ after.door_faults)

abbrev pub AreIdle : List LaneTold → List LaneTold → Type 0
AreIdle [] after = after ≡ []
AreIdle (b ∷ before) [] = ⊥
AreIdle (b ∷ before) (a ∷ after) = IsIdle b a × AreIdle before after

tells_same : (p : Option PortTold) → BothTell p p Stays
tells_same None = tt
tells_same (Some b) = (refl, refl, refl, refl)

pub tells_on : {A : Type 0} (p q r : Option A) (P Q R : A → A → Type 0) → ((a b c : A) → P a b → Q b c → R a c) → BothTell p q P → BothTell q r Q → BothTell p r R
tells_on None None None P Q R f h i = tt
tells_on None None (Some c) P Q R f h i = i
tells_on None (Some b) r P Q R f h i = absurd h
tells_on (Some a) None r P Q R f h i = absurd h
tells_on (Some a) (Some b) None P Q R f h i = i
tells_on (Some a) (Some b) (Some c) P Q R f h i = f a b c h i

pub tells_so : {A : Type 0} (p q : Option A) (P Q : A → A → Type 0) → ((a b : A) → P a b → Q a b) → BothTell p q P → BothTell p q Q
tells_so None None P Q f h = tt
tells_so None (Some b) P Q f h = h
tells_so (Some a) None P Q f h = h
tells_so (Some a) (Some b) P Q f h = f a b h

pub idle_on : (a b c : LaneTold) → IsIdle a b → IsIdle b c → IsIdle a c
idle_on a b c h i = (tells_on a.port b.port c.port Stays Stays Stays (λ x y z f g. (g.0 ∙ f.0, g.1 ∙ f.1, g.2 ∙ f.2, g.3 ∙ f.3)) h.0 i.0, let l = h.1 in let m = i.1 in omega (arith, l, m))

pub all_same : (xs : List LaneTold) → AreIdle xs xs
all_same [] = refl
all_same (x ∷ xs) = ((tells_same x.port, omega arith), all_same xs)

pub all_on : (xs ys zs : List LaneTold) → AreIdle xs ys → AreIdle ys zs → AreIdle xs zs
all_on [] [] zs h i = i
all_on [] (y ∷ ys) zs h i = absurd (cc)
all_on (x ∷ xs) [] zs h i = absurd h
all_on (x ∷ xs) (y ∷ ys) [] h i = i
all_on (x ∷ xs) (y ∷ ys) (z ∷ zs) h i = (idle_on x y z h.0 i.0, all_on xs ys zs h.1 i.1)

pub placed_idle : (k : ℕ) (xs ys : List LaneTold) → PlacedFirst k xs ys → AreIdle xs ys
placed_idle k [] ys h = h
placed_idle k (x ∷ xs) ys h = subst (AreIdle (x ∷ xs)) (sym h) ((tells_same x.port, omega arith), all_same xs)

pub asked_idle : (k : ℕ) (xs ys : List LaneTold) → AskedFirst k xs ys → AreIdle xs ys
asked_idle k [] ys h = h
asked_idle k (x ∷ xs) ys h = subst (AreIdle (x ∷ xs)) (sym h.2) ((tells_same x.port, h.1), all_same xs)

open_idle : (listen : Listen) (r : Opening) (b c : PortTold) → IsOpen listen r b c → Stays b c
open_idle listen opening.Ready b c h = (ap (λ (p : PortTold). p.taken) h, ap (λ (p : PortTold). p.tries) h, ap (λ (p : PortTold). p.places) h, ap (λ (p : PortTold). p.recvs) h)
open_idle listen opening.Failed b c h = (ap (λ (p : PortTold). p.taken) h.1, ap (λ (p : PortTold). p.tries) h.1, ap (λ (p : PortTold). p.places) h.1, ap (λ (p : PortTold). p.recvs) h.1)

pub opened_idle : (listen : Listen) (rs : List Opening) (xs ys : List LaneTold) → AreOpened listen rs xs ys → AreIdle xs ys
opened_idle listen [] xs ys h = subst (AreIdle xs) (sym h) (all_same xs)
opened_idle listen (r ∷ rs) [] ys h = absurd h
opened_idle listen (r ∷ rs) (x ∷ xs) [] h = absurd h
opened_idle listen (r ∷ rs) (x ∷ xs) (y ∷ ys) h = ((tells_so x.port y.port (IsOpen listen r) Stays (open_idle listen r) h.0.port, let same = ap (λ (l : LaneTold). l.door_faults) h.0.rest in omega (arith, same)), opened_idle listen rs xs ys h.1)

-- LANES

idle_lane : (w : ℕ) (t : Option Plan) (maps : List Version) (result : Status) (a c : LaneTold) → AreMaps t maps → IsIdle a c → IsLane w t maps result a c
idle_lane w t maps result a c good h = record {
  events = [];
  worker = record { further = []; good = subst (AreMaps t) (sym (append-nil maps)) good; none = λ ok. refl; cause = inl refl; right = tt; notes = inl refl; answered = λ ok. refl };
  messages = tells_so a.port c.port Stays (λ x y. map (λ (z : Taken). z.packet) y.taken ≡ map (λ (z : Taken). z.packet) x.taken ++ flat_map came []) (λ x y g. ap (map (λ (z : Taken). z.packet)) g.0 ∙ sym (append-nil (map (λ (z : Taken). z.packet) x.taken))) h.0;
  known = tells_so a.port c.port Stays (λ x y. map (λ (z : Taken). z.known) y.taken ≡ map (λ (z : Taken). z.known) x.taken ++ flat_map knew []) (λ x y g. ap (map (λ (z : Taken). z.known)) g.0 ∙ sym (append-nil (map (λ (z : Taken). z.known) x.taken))) h.0;
  order = tells_so a.port c.port Stays (λ x y. (new : List Taken) × (y.taken ≡ x.taken ++ new) × (y.places ≡ x.places ++ places_of [] new) × AreMinded x.recvs c.notes.given (map (λ (z : Taken). (z.place, z.known)) new)) (λ x y g. ([], g.0 ∙ sym (append-nil x.taken), g.2 ∙ sym (append-nil x.places), none_minded x.recvs c.notes.given)) h.0;
  replies = tells_so a.port c.port Stays (λ x y. y.tries ≡ x.tries ++ flat_map tried []) (λ x y g. g.1 ∙ sym (append-nil x.tries)) h.0;
}

pub all_idle : (w : ℕ) (t : Option Plan) (maps : List Version) (result : Status) (xs ys : List LaneTold) → AreMaps t maps → AreIdle xs ys → AreLanes w t maps result xs ys
all_idle w t maps result [] ys good h = h
all_idle w t maps result (x ∷ xs) [] good h = h
all_idle w t maps result (x ∷ xs) (y ∷ ys) good h = (idle_lane w t maps result x y good h.0, all_idle (w + 1) t maps result xs ys good h.1)

-- a count that rose behind one that did not fall
pub cause_from : (a b c : ℕ) (P Q : Type 0) → a ≤ b → P ⊎ Rose b c ⊎ Q → P ⊎ Rose a c ⊎ Q
cause_from a b c P Q low h = elim h [
  | inl p ↦ inl p
  | inr (inl rose) ↦ inr (inl (omega (arith, low, rose)))
  | inr (inr q) ↦ inr (inr q)
]

made_lane : (t : Option Plan) (maps further : List Version) (result : Status) (a b c : LaneTold) (w : ℕ) (log : List Turn) → AreMaps t (maps ++ further) → (result ≡ status.Ok → (further ≡ []) × AreLooked log) → (further ≡ []) ⊎ Rose b.door_faults c.door_faults ⊎ (length maps ≤ c.greatest) → IsLaneRun replies (maps ++ further) w 0 0 (entries_of replies.way log) (tries_of log) → IsTold 0 log → All (λ t. IsFated replies t.came) log
    → AreFirst c.notes → c.notes ≡ fold notes_turn no_notes log → IsIdle a b → BothTell b.port c.port (λ x y. y ≡ fold port_turn x log) → IsLane w t maps result a c
made_lane t maps further result a b c w log good well cause run told fates first notes idle port =
    let numbers = numbers_are log c.notes first notes in
    let events = made is_silent log (tries_of log) in
    record {
      events = events;
      worker = record { further = further; good = good; none = λ ok. (well ok).0; answered = λ ok. none_lost way.Datagram (maps ++ further) w log (well ok).1 0 0 (tries_of log) run; cause = cause_from a.door_faults b.door_faults c.door_faults (further ≡ []) (length maps ≤ c.greatest) idle.1 cause; right = right way.Datagram (maps ++ further) w log 0 0 0 0 (tries_of log) run told (omega arith); notes = inr (heard_made is_silent log (tries_of log) ∙ numbers.0, numbers.1) };
      messages = tells_on a.port b.port c.port Stays (λ x y. y ≡ fold port_turn x log) (λ x y. map (λ (z : Taken). z.packet) y.taken ≡ map (λ (z : Taken). z.packet) x.taken ++ flat_map came events)
          (λ x y z f g. ap (λ (p : PortTold). map packet_of p.taken) g ∙ taken_folded log y ∙ ap₂ (λ ps qs. ps ++ qs) (ap (map packet_of) f.0) (sym (came_made is_silent log (tries_of log)))) idle.0 port;
      known = tells_on a.port b.port c.port Stays (λ x y. y ≡ fold port_turn x log) (λ x y. map (λ (z : Taken). z.known) y.taken ≡ map (λ (z : Taken). z.known) x.taken ++ flat_map knew events)
          (λ x y z f g. ap (λ (p : PortTold). map known_of p.taken) g ∙ known_folded log y ∙ ap₂ (λ ps qs. ps ++ qs) (ap (map known_of) f.0) (sym (knew_made is_silent log (tries_of log)))) idle.0 port;
      order = tells_on a.port b.port c.port Stays (λ x y. y ≡ fold port_turn x log) (λ x y. (new : List Taken) × (y.taken ≡ x.taken ++ new) × (y.places ≡ x.places ++ places_of events new) × AreMinded x.recvs c.notes.given (map (λ (z : Taken). (z.place, z.known)) new))
          (λ x y z f g. let o = in_order log y fates in (o.0, ap (λ (p : PortTold). p.taken) g ∙ o.1 ∙ ap (λ ps. ps ++ o.0) f.0, ap (λ (p : PortTold). p.places) g ∙ o.2 ∙ ap (λ ps. ps ++ places_of events o.0) f.2, datagrams_minded log x.recvs y c.notes o.0 f.3 o.1 told notes)) idle.0 port;
      replies = tells_on a.port b.port c.port Stays (λ x y. y ≡ fold port_turn x log) (λ x y. y.tries ≡ x.tries ++ flat_map tried events)
          (λ x y z f g. ap (λ (p : PortTold). p.tries) g ∙ tries_folded log y ∙ ap₂ (λ ps qs. ps ++ qs) f.1 (sym (tried_made way.Datagram (maps ++ further) w log 0 0 (tries_of log) run))) idle.0 port;
    }

-- the maps over which a lane stands, as those that were published and further ones
pub record Stands {T : Type 0} (t : Plan) (a : Answers Version) (maps : List Version) (w : ℕ) (log : List Turn) (b c : ServerTold T) : Type 0 where
  pub further : List Version
  pub good : AreMaps (Some t) (maps ++ further)
  pub cause : (further ≡ []) ⊎ Rose b.door_faults c.door_faults ⊎ (length maps ≤ c.greatest)
  pub run : IsLaneRun a (maps ++ further) w 0 0 (entries_of a.way log) (tries_of log)

pub stands : {T : Type 0} (t : Plan) (a : Answers Version) (first : Version) (rest : List Version) (w : ℕ) (log : List Turn) (served e : Ended) (shown : ℕ) (b c : ServerTold T) → first.plan ≡ t → AreMaps (Some t) (first ∷ rest) → IsServedLog a first rest w log served e shown b c → Stands t a (first ∷ rest) w log b c
stands {T = T} t a first rest w log served e shown b c plan good d = elim d.which [
  | inl newest ↦ over_same d.over newest.same d.run
  | inr (inl seen) ↦ elim seen.beside [
    | inl before ↦ over_same (first ∷ rest) refl (run_more a d.over (first ∷ rest) w 0 0 (entries_of a.way log) (tries_of log) before d.run)
    | inr behind ↦ over_more d.over (inl seen.rose) seen.history behind d.run
  ]
  | inr (inr past) ↦ over_more d.over (inr (let longer = past.longer in let rising = d.rising.0 in elim past.shown [ inl now ↦ omega (arith, longer, now) | inr before ↦ omega (arith, longer, before, rising) ])) past.history past.begins d.run
]
  where
    over_same : (over : List Version) → over ≡ first ∷ rest → IsLaneRun a over w 0 0 (entries_of a.way log) (tries_of log) → Stands t a (first ∷ rest) w log b c
    over_same over is run = record {
      further = [];
      cause = inl refl;
      good = subst (AreMaps (Some t)) (sym (append-nil (first ∷ rest))) good;
      run = subst (λ h. IsLaneRun a h w 0 0 (entries_of a.way log) (tries_of log)) (is ∙ sym (append-nil (first ∷ rest))) run;
    }

    over_more : (over : List Version) → Rose b.door_faults c.door_faults ⊎ (length (first ∷ rest) ≤ c.greatest) → IsHistory over → IsPrefix (first ∷ rest) over → IsLaneRun a over w 0 0 (entries_of a.way log) (tries_of log) → Stands t a (first ∷ rest) w log b c
    over_more over cause history begins run = record {
      further = begins.0;
      cause = inr cause;
      good = subst (AreMaps (Some t)) (sym begins.1) (history_maps t first over history (prefix_get (first ∷ rest) over 0 first begins refl) plan);
      run = subst (λ h. IsLaneRun a h w 0 0 (entries_of a.way log) (tries_of log)) (sym begins.1) run;
    }

done_lane : (t : Plan) (turns : ℕ) (first : Version) (rest : List Version) (w : ℕ) (result : Status) (x b c : LaneTold) (e : Ended) → first.plan ≡ t → AreMaps (Some t) (first ∷ rest) → (result ≡ status.Ok → ⊥) → IsIdle x b → IsDone turns first rest w b c e → IsLane w (Some t) (first ∷ rest) result x c
done_lane t turns first rest w result x b c e plan good not_ok idle d =
    let s = stands t replies first rest w d.log d.served e d.shown b c plan good d.served_log in
    made_lane (Some t) (first ∷ rest) s.further result x b c w d.log s.good (λ ok. absurd (not_ok ok)) s.cause s.run d.served_log.told d.served_log.fates d.served_log.numbers d.notes idle d.port

pub all_done : (t : Plan) (turns : ℕ) (first : Version) (rest : List Version) (w : ℕ) (result : Status) (ends : List Ended) (xs bs cs : List LaneTold) → first.plan ≡ t → AreMaps (Some t) (first ∷ rest) → (result ≡ status.Ok → ⊥) → AreIdle xs bs → AreDone turns first rest w ends bs cs
    → AreLanes w (Some t) (first ∷ rest) result xs cs
all_done t turns first rest w result [] xs bs cs plan good not_ok idle d = all_idle w (Some t) (first ∷ rest) result xs cs good (subst (AreIdle xs) (sym d) idle)
all_done t turns first rest w result (e ∷ ends) xs [] cs plan good not_ok idle d = absurd d
all_done t turns first rest w result (e ∷ ends) xs (b ∷ bs) [] plan good not_ok idle d = absurd d
all_done t turns first rest w result (e ∷ ends) [] (b ∷ bs) (c ∷ cs) plan good not_ok idle d = absurd (cc)
all_done t turns first rest w result (e ∷ ends) (x ∷ xs) (b ∷ bs) (c ∷ cs) plan good not_ok idle d =
    (done_lane t turns first rest w result x b c e plan good not_ok idle.0 d.0, all_done t turns first rest (w + 1) result ends xs bs cs plan good not_ok idle.1 d.1)

-- a lane that ended well had no look refused
well_looked : (turns : ℕ) (log : List Turn) (e : Ended) → IsEnd turns log e → (e ≡ end.Stopped) ⊎ (e ≡ end.PortEnd) → AreLooked log
well_looked turns log end.Stopped ending well = all_looked log ending.0
well_looked turns log end.PortEnd (before, t, is, calm, few, came, within) well = subst AreLooked (sym is) (last_looked before t calm came)
well_looked turns log end.PortFault ending well = elim well [ inl e ↦ absurd (cc) | inr e ↦ absurd (cc) ]
well_looked turns log end.CellFault ending well = elim well [ inl e ↦ absurd (cc) | inr e ↦ absurd (cc) ]
well_looked turns log (end.Above known newest) ending well = absurd ending
well_looked turns log end.Spent ending well = elim well [ inl e ↦ absurd (cc) | inr e ↦ absurd (cc) ]

well_lane : (t : Plan) (turns : ℕ) (maps : List Version) (w : ℕ) (result : Status) (x b c : LaneTold) → AreMaps (Some t) maps → IsIdle x b → IsWellDone turns maps w b c → IsLane w (Some t) maps result x c
well_lane t turns maps w result x b c good idle d =
    made_lane (Some t) maps [] result x b c w d.log (subst (AreMaps (Some t)) (sym (append-nil maps)) good) (λ ok. (refl, well_looked turns d.log d.ended d.ending d.well)) (inl refl) (subst (λ h. IsLaneRun replies h w 0 0 (entries_of replies.way d.log) (tries_of d.log)) (sym (append-nil maps)) d.run) d.told d.fates d.numbers d.notes idle d.port

pub all_well : (t : Plan) (turns : ℕ) (maps : List Version) (w n : ℕ) (result : Status) (xs bs cs : List LaneTold) → AreMaps (Some t) maps → AreIdle xs bs → AreWellDone turns maps w n bs cs → AreLanes w (Some t) maps result xs cs
all_well t turns maps w zero result xs bs cs good idle d = all_idle w (Some t) maps result xs cs good (subst (AreIdle xs) (sym d) idle)
all_well t turns maps w (suc n) result xs [] cs good idle d = absurd d
all_well t turns maps w (suc n) result xs (b ∷ bs) [] good idle d = absurd d
all_well t turns maps w (suc n) result [] (b ∷ bs) (c ∷ cs) good idle d = absurd (cc)
all_well t turns maps w (suc n) result (x ∷ xs) (b ∷ bs) (c ∷ cs) good idle d = (well_lane t turns maps w result x b c good idle.0 d.0, all_well t turns maps (w + 1) n result xs bs cs good idle.1 d.1)
