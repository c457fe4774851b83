-- What a world keeps over a commit.
use Rattle.std.proofs.Common.{◌≡◌, ◌⊎◌, ℕ, zero, suc, ◌+◌, ◌-◌, ◌<◌, All, List, [], ◌∷◌, ◌++◌, length, Option, Some, slice_get, get_or, replicate, reverse, refl, sym, ap, subst, ◌∙◌, arith, inl, inr, length-append}
use Rattle.map_model.specs.declared.change.Change.{Change}
use Rattle.map_model.specs.declared.change.Change.TheVariants.{Demand, Capacity}
use Rattle.map_model.specs.declared.lines.MapLines.{MapLines}
use Rattle.map_model.specs.Market.{IsSameShape, Market}
use Rattle.map_model.specs.Batch.{IsApplied, IsBatch, IsChange}
use Rattle.published_map.specs.Version.{IsVersion, Version}
use Rattle.lane_model.specs.Histories.{Follows}
use Rattle.lane_model.specs.Lawful.{AreKeptLanes, IsLawful}
use Rattle.lane_model.specs.Machine.{IsStep, LaneState, Machine, fresh}
use Rattle.lane_model.specs.Machine as machine
use Rattle.lane_model.specs.Replies.{replies}
use Rattle.lane_model.proofs.Keeps.{all_kept}
use Rattle.std.proofs.lemmas.List.{reverse-append}
use Rattle.serve_core.specs.declared.event.StepFault.{StepFault}
use Rattle.serve_core.specs.declared.event.Event.{Event}
use Rattle.serve_core.specs.declared.event.Event.TheVariants.{Commit, Tell, Take}
use Rattle.serve_core.specs.Events.{IsCommitOf, IsEventFor, IsRefused, RunsTo, Takes, newest_of}
use Rattle.serve_core.specs.Worlds.{IsWorld}

-- the last of a list with one more
pub last_get : {A : Type 0} (xs : List A) (x : A) → slice_get (xs ++ x ∷ []) (length xs) ≡ Some x
last_get [] x = refl
last_get (y ∷ xs) x = last_get xs x

-- an item of a list with one more is one of the list, or the last
pub one_of : {A : Type 0} (xs : List A) (x y : A) (n : ℕ) → slice_get (xs ++ x ∷ []) n ≡ Some y → (slice_get xs n ≡ Some y) ⊎ ((n ≡ length xs) × (x ≡ y))
one_of [] x y zero is = inr (refl, cc)
one_of [] x y (suc n) is = absurd (cc)
one_of (z ∷ xs) x y zero is = inl is
one_of (z ∷ xs) x y (suc n) is = elim (one_of xs x y n is) [ inl h ↦ inl h | inr h ↦ inr (ap suc h.0, h.1) ]

-- the newest of a history with one version more
pub newest_more : (h : List Version) (v : Version) → newest_of (h ++ v ∷ []) ≡ Some v
newest_more h v = let at : length (h ++ v ∷ []) - 1 ≡ length h = omega (arith, length-append h (v ∷ [])) in ap (λ n. slice_get (h ++ v ∷ []) n) at ∙ last_get h v

one_version : (o : Option Version) (v w : Version) → o ≡ Some v → o ≡ Some w → v ≡ w
one_version o v w h k = cc

-- a world with a version more, which a commit leads to
pub committed : (h : List Version) (m : Market) (lanes : List LaneState) (batch : List Change) (map : MapLines) (v : Version) → IsWorld h m lanes → IsCommitOf h batch map v → IsWorld (h ++ v ∷ []) v.market lanes
committed h m lanes batch map v w c =
    let old = c.0 in
    let next = c.2 in
    record {
      some = omega (arith, length-append h (v ∷ []));
      versions = λ n u is. elim (one_of h v u n is) [
        | inl here ↦ w.versions n u here
        | inr last ↦ (
          subst IsVersion last.1 next.version,
          ap (λ (x : Version). x.serial) (sym last.1) ∙ next.serial ∙ (let s = (w.versions (length h - 1) old c.1).1 in let l = last.0 in let some = w.some in omega (arith, s, l, some)),
        )
      ];
      newest_is = λ u is. ap (λ (x : Version). x.market) (one_version (newest_of (h ++ v ∷ [])) u v is (newest_more h v));
      few = w.few;
    }

-- a batch that is one for the newest version's market is one for that of the next
change_shape : (m m' : Market) → IsSameShape m m' → (c : Change) → IsChange m c → IsChange m' c
change_shape m m' s (Demand g d) h = let gs = s.groups in let there = h.0 in (omega (arith, gs, there), h.1, h.2)
change_shape m m' s (Capacity n c) h = let ns = s.nodes in let there = h.0 in (omega (arith, ns, there), h.1)

pub batch_shape : (m m' : Market) → IsSameShape m m' → (cs : List Change) → IsBatch m cs → IsBatch m' cs
batch_shape m m' s cs h = λ k d lt. change_shape m m' s (get_or cs k d) (h k d lt)

-- the version that was found is the newest
pub newest_found : (h ys : List Version) (n : ℕ) (old : Version) → ys ≡ h → n + 1 ≡ length h → slice_get ys n ≡ Some old → newest_of h ≡ Some old
newest_found h ys n old same e is = let at : length h - 1 ≡ n = omega (arith, e) in ap (λ k. slice_get h k) at ∙ ap (λ (zs : List Version). slice_get zs n) (sym same) ∙ is

-- the version that was made is the one that the commit adds
pub commit_of : (h : List Version) (m m' : Market) (lanes : List LaneState) (old v : Version) (n : ℕ) (batch : List Change) (map : MapLines) → IsWorld h m lanes → newest_of h ≡ Some old → n + 1 ≡ length h → IsApplied m batch m'
    → v ≡ record { serial = n + 1; market = m'; lines = map.lines.items; names = map.names.items; plan = old.plan } → IsVersion v → IsCommitOf h batch map v × (v.market ≡ m')
commit_of h m m' lanes old v n batch map w here e applied is good = (
  (
    old,
    here,
    record {
      serial = ap (λ (x : Version). x.serial) is ∙ (let s = (w.versions (length h - 1) old here).1 in omega (arith, s, e));
      plan = ap (λ (x : Version). x.plan) is;
      applied = subst (λ (b : Market). IsApplied old.market batch b) (sym (ap (λ (x : Version). x.market) is)) (subst (λ (a : Market). IsApplied a batch m') (sym (w.newest_is old here)) applied);
      version = good;
    },
    ap (λ (x : Version). x.lines) is,
    ap (λ (x : Version). x.names) is,
  ),
  ap (λ (x : Version). x.market) is,
)

-- an item that is there does not depend on what stands for one that is not
pub any_default : {A : Type 0} (xs : List A) (k : ℕ) (d e : A) → k < length xs → get_or xs k d ≡ get_or xs k e
any_default [] k d e lt = absurd (omega (arith, lt))
any_default (x ∷ xs) zero d e lt = refl
any_default (x ∷ xs) (suc k) d e lt = any_default xs k d e (omega (arith, lt))

-- lanes that took nothing are kept
fresh_kept : (v : Version) (n at : ℕ) → AreKeptLanes replies (v ∷ []) at (replicate n fresh)
fresh_kept v zero at = tt
fresh_kept v (suc n) at = ((refl, omega arith), omega arith, fresh_kept v n (at + 1))

pub opened_kept : (v : Version) (n : ℕ) → IsLawful replies Follows v (record { history = v ∷ []; lanes = replicate n fresh })
opened_kept v n = record { rest = []; history = refl; goes_on = tt; lanes = fresh_kept v n 0 }

-- an event for one market is one for any of its shape
event_shape : (m m' : Market) → IsSameShape m m' → (e : Event) → IsEventFor m e → IsEventFor m' e
event_shape m m' s (Commit batch map) h = batch_shape m m' s batch h
event_shape m m' s (Tell lane serial) h = tt
event_shape m m' s (Take lane octets from serial way) h = tt

events_shape : (m m' : Market) → IsSameShape m m' → (es : List Event) → All (IsEventFor m) es → All (IsEventFor m') es
events_shape m m' s es h = λ k d lt. event_shape m m' s (get_or es k d) (h k d lt)

-- events for the newest version stay so behind an event that was taken
pub still_for : (e : Event) (es : List Event) (m m' : Machine Version) → Takes e m m' → ((v : Version) → newest_of m.history ≡ Some v → All (IsEventFor v.market) es) → (v : Version) → newest_of m'.history ≡ Some v → All (IsEventFor v.market) es
still_for (Commit batch map) es m m' t h v is =
    let c = t.1.2 in
    let step : IsStep replies Follows (machine.commit t.1.0) m m' = subst (λ (x : machine.Event Version). IsStep replies Follows x m m') t.1.1 t.2 in
    let newest : newest_of m'.history ≡ Some t.1.0 = ap (λ (x : Machine Version). newest_of x.history) step.1 ∙ newest_more m.history t.1.0 in
    let same : t.1.0 ≡ v = one_version (newest_of m'.history) t.1.0 v newest is in
    subst (λ (w : Version). All (IsEventFor w.market) es) same (events_shape c.0.market t.1.0.market c.2.applied.shape es (h c.0 c.1))
still_for (Tell lane serial) es m m' t h v is =
    let step : IsStep replies Follows (machine.tell lane serial) m m' = subst (λ (x : machine.Event Version). IsStep replies Follows x m m') t.1 t.2 in h v (ap newest_of (sym step.1) ∙ is)
still_for (Take lane octets from serial way) es m m' t h v is =
    let step : IsStep replies Follows (machine.take lane (record { octets = octets; from = from }) serial way) m m' = subst (λ (x : machine.Event Version). IsStep replies Follows x m m') t.1 t.2 in h v (ap newest_of (sym step.0) ∙ is)

pub kept_as : (v : Version) (n : ℕ) (h : List Version) (lanes : List LaneState) → h ≡ v ∷ [] → lanes ≡ replicate n fresh → IsLawful replies Follows v (record { history = h; lanes = lanes })
kept_as v n h lanes a b = subst (λ (g : List Version). IsLawful replies Follows v (record { history = g; lanes = lanes })) (sym a) (subst (λ (ls : List LaneState). IsLawful replies Follows v (record { history = v ∷ []; lanes = ls })) (sym b) (opened_kept v n))

pub reverse_twice : {A : Type 0} (xs : List A) → reverse (reverse xs) ≡ xs
reverse_twice [] = refl
reverse_twice (x ∷ xs) = ap reverse (reverse-append (x ∷ []) xs) ∙ reverse-append (reverse xs) (x ∷ []) ∙ ap (λ ys. x ∷ ys) (reverse_twice xs)

-- the last event of a list that stands backwards comes first
pub first_of_reversed : {A : Type 0} (xs ys : List A) (x : A) → xs ≡ ys ++ x ∷ [] → reverse xs ≡ x ∷ reverse ys
first_of_reversed xs ys x is = ap reverse is ∙ reverse-append ys (x ∷ [])

-- a run that takes one event more
pub taken_more : (e : Event) (es : List Event) (m mid m' : Machine Version) (fault : Option StepFault) → Takes e m mid → RunsTo es mid m' fault → RunsTo (e ∷ es) m m' fault
taken_more e es m mid m' fault t r = inl (mid, t, r)

-- a run that is refused one
pub refused_here : (e : Event) (es : List Event) (m m' : Machine Version) (f : StepFault) → IsRefused e m f → m' ≡ m → RunsTo (e ∷ es) m m' (Some f)
refused_here e es m m' f r same = inr (f, refl, same, r)

-- one event keeps what the machine keeps
pub kept_step : (e : Event) (m m' : Machine Version) (first : Version) → Takes e m m' → IsLawful replies Follows first m → IsLawful replies Follows first m'
kept_step e m m' first t kept = all_kept replies Follows first (t.0 ∷ []) m m' (m', t.2, refl) kept
