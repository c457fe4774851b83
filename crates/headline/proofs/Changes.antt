-- Batches, histories, and what the lines of a feed come to.
use Rattle.std.proofs.Common.{◌≡◌, inl, inr, ℕ, zero, suc, ◌+◌, ◌-◌, List, [], ◌∷◌, ◌++◌, length, map, filter_map, slice_get, Option, None, Some, refl, ap, ap₂, sym, subst, ◌∙◌, arith, append_assoc, append-nil}
use Rattle.std.specs.Prelude.{unwrap_or}
use Rattle.std.specs.List.{cons_option, last_or}
use Rattle.std.proofs.lemmas.Option.{none-some, same_Some, slice_get_within}
use Rattle.addr_text.specs.declared.address.Addr.{Addr}
use Rattle.map_model.specs.declared.change.Change as code_change
use Rattle.map_model.specs.declared.change.Change.TheVariants as changes
use Rattle.map_model.specs.Batch.{IsApplied}
use Rattle.map_model.specs.Batch as code
use Rattle.map_model.specs.Market.{Market}
use Rattle.topology_text.specs.Plan.{IsPlan, Plan}
use Rattle.published_map.specs.Version.{IsVersion, Version}
use Rattle.demand_feed.specs.Task as feed
use Rattle.lane_model.specs.Machine.{GoesOn}
use Rattle.mapper.specs.Control.{AllCome, Course, before_commit, with_line, with_version}
use Rattle.mapper.specs.Control as control
use Rattle.mapper.specs.Texts as line_of
use Rattle.mapper.specs.Words.{reply_by}
use Rattle.drive.specs.Driven.{Succeeds}
use Rattle.glb.specs.Serve.{IsFirstOf}
use Rattle.headline.specs.Headline.{IsBestOf, IsFirst, IsHistory, IsNext, IsSet, last_of}
use Rattle.headline.specs.Runs.{IsCourse}
use Rattle.headline.specs.View.{Change, Group, Node, change, instance, line}
use Rattle.headline.specs.Runs as page
use Rattle.headline.specs.View as plain
use Rattle.headline.proofs.Lists.{In, in_left, in_right}
use Rattle.headline.proofs.Trees.{forest, forest_like}
use Rattle.headline.proofs.Good.{demand_is, node_of_page}
use Rattle.headline.proofs.Best.{best_is}
use Rattle.headline.proofs.Repaired.{repaired_is}
use Rattle.headline.proofs.Serving.{alike_is, first_version, one_of}

-- BATCHES

kept_same : (f : code_change.Change → Option ℕ) (g : Change → Option ℕ) → ((c : code_change.Change) → g (change c) ≡ f c) → (batch : List code_change.Change) → filter_map g (map change batch) ≡ filter_map f batch
kept_same f g same [] = refl
kept_same f g same (c ∷ batch) = ap₂ (λ (o : Option ℕ) (xs : List ℕ). cons_option o xs) (same c) (kept_same f g same batch)

demand_same : (g : ℕ) (c : code_change.Change) → plain.demand_by g (change c) ≡ code.demand_by g c
demand_same g (changes.Demand h units) = refl
demand_same g (changes.Capacity n units) = refl

capacity_same : (n : ℕ) (c : code_change.Change) → plain.capacity_by n (change c) ≡ code.capacity_by n c
capacity_same n (changes.Demand h units) = refl
capacity_same n (changes.Capacity o units) = refl

last_same : (f : code_change.Change → Option ℕ) (g : Change → Option ℕ) → ((c : code_change.Change) → g (change c) ≡ f c) → (batch : List code_change.Change) (old : ℕ) → last_of g (map change batch) old ≡ unwrap_or (last_or None (filter_map f batch)) old
last_same f g same batch old = ap (λ (xs : List ℕ). unwrap_or (last_or None xs) old) (kept_same f g same batch)

pub set_is : (m m' : Market) (batch : List code_change.Change) → IsApplied m batch m' → IsSet (instance m) (map change batch) (instance m')
set_is m m' batch a = record {
  alike = alike_is m m' a.shape;
  demands = λ g x y old new.
      let was = demand_is m g x old in
      let is = demand_is m' g y new in
      is.1 ∙ a.demands g was.0 ∙ ap (λ n. unwrap_or (code.last_demand batch g) n) (sym was.1) ∙ sym (last_same (code.demand_by g) (plain.demand_by g) (demand_same g) batch x.demand);
  capacities = λ n x y old new.
      let was = node_of_page m n x old in
      let is = node_of_page m' n y new in
      is.1 ∙ a.capacities n was.0 ∙ ap (λ k. unwrap_or (code.last_capacity batch n) k) (sym was.1) ∙ sym (last_same (code.capacity_by n) (plain.capacity_by n) (capacity_same n) batch x.capacity);
}

-- MAPS THAT FOLLOW

pub next_is : (v w : Version) (batch : List code_change.Change) → IsVersion v → control.IsNext v batch w → IsNext v (map change batch) w
next_is v w batch version n = record {
  numbers = set_is v.market w.market batch n.applied;
  repaired =
      let ok = forest v.market version.market in
      repaired_is v.market w.market ok n.applied.shape v.lines version.good.form version.good.feasible.demands (forest_like v.market w.market ok n.applied.shape) w.lines n.repaired n.local;
}

pub first_is : (t : Plan) (first : Version) → IsPlan t → IsFirstOf t first → IsFirst t first
first_is t first plan is = (is.0.market, subst (λ (m : Market). IsBestOf (instance m) (λ _. Unit {0}) (map line first.lines)) (sym is.0.market) (best_is t.market (forest t.market plan.market) first.lines is.0.best))

-- of versions, one behind another
abbrev AreVersions : List Version → Type 0
AreVersions h = (n : ℕ) (x : Version) → slice_get h n ≡ Some x → IsVersion x

abbrev Follow : List Version → Type 0
Follow h = (n : ℕ) (x y : Version) → slice_get h n ≡ Some x → slice_get h (n + 1) ≡ Some y → (batch : List Change) × IsNext x batch y

versions_more : (h : List Version) (v : Version) → AreVersions h → IsVersion v → AreVersions (h ++ v ∷ [])
versions_more h v all is n x at = elim (one_of h v x n at) [ inl old ↦ all n x old | inr new ↦ subst IsVersion new.1 is ]

follow_more : (h : List Version) (v : Version) → AreVersions h → Follow h → Succeeds h v → Follow (h ++ v ∷ [])
follow_more h v all follow next n x y at then = elim (one_of h v y (n + 1) then) [
  | inl old ↦ elim (one_of h v x n at) [
    | inl was ↦ follow n x y was old
    | inr new ↦ absurd (omega (arith, new.0, slice_get_within h (n + 1) y old))
  ]
  | inr new ↦ elim (one_of h v x n at) [
    | inl was ↦
        let place : length h - 1 ≡ n = omega (arith, new.0) in
        let last : next.0 ≡ x = same_Some next.0 x (sym next.2 ∙ subst (λ k. slice_get h k ≡ Some x) (sym place) was) in
        (map change next.1, subst (λ (w : Version). IsNext x (map change next.1) w) new.1 (subst (λ (o : Version). IsNext o (map change next.1) v) last (next_is next.0 v next.1 (all (length h - 1) next.0 next.2) next.3)))
    | inr late ↦ absurd (omega (arith, new.0, late.0))
  ]
]

pub all_follow : (h rest : List Version) → AreVersions h → Follow h → GoesOn Succeeds h rest → AreVersions (h ++ rest) × Follow (h ++ rest)
all_follow h [] all follow on = (subst AreVersions (sym (append-nil h)) all, subst Follow (sym (append-nil h)) follow)
all_follow h (v ∷ rest) all follow on =
    let r = all_follow (h ++ v ∷ []) rest (versions_more h v all on.0.4) (follow_more h v all follow on.0) on.1 in
    (subst AreVersions (append_assoc h (v ∷ []) rest) r.0, subst Follow (append_assoc h (v ∷ []) rest) r.1)

one_version : (first : Version) → IsVersion first → AreVersions (first ∷ [])
one_version first is zero x at = subst IsVersion (same_Some first x at) is
one_version first is (suc n) x at = absurd (none-some x at)

one_follows : (first : Version) → Follow (first ∷ [])
one_follows first n x y at then = absurd (none-some y (subst (λ k. slice_get (first ∷ []) k ≡ Some y) (plus n) then))
  where
    plus : (n : ℕ) → n + 1 ≡ suc n
    plus n = omega arith

-- the history of a run
pub history_is : (t : Plan) (first : Version) (rest : List Version) → IsPlan t → IsFirstOf t first → GoesOn Succeeds (first ∷ []) rest → AreVersions (first ∷ rest) × IsHistory (Some t) (first ∷ rest)
history_is t first rest plan is on =
    let all = all_follow (first ∷ []) rest (one_version first (first_version t first plan is)) (one_follows first) on in
    (all.0, (first_is t first plan is, all.1))

-- WHAT THE LINES OF A FEED COME TO

-- what some tasks add to a course
pub record Adds (v : Version) (ts : List feed.Task) (c d : Course) : Type 0 where
  pub maps : List Version
  pub lines : List (List ℕ)
  pub versions : d.versions ≡ c.versions ++ maps
  pub out : d.out ≡ c.out ++ lines
  pub course : IsCourse v ts maps lines

-- every version that is added is in the end
grows : (ts : List feed.Task) (c d : Course) → AllCome ts c d → (more : List Version) × (d.versions ≡ c.versions ++ more)
grows [] c d all = ([], ap (λ (x : Course). x.versions) all ∙ sym (append-nil c.versions))
grows (t ∷ ts) c d (mid, here, rest) =
    let r = grows ts mid d rest in
    let s = step t c mid here in
    (s.0 ++ r.0, r.1 ∙ ap (λ xs. xs ++ r.0) s.1 ∙ append_assoc c.versions s.0 r.0)
  where
    step : (t : feed.Task) (c mid : Course) → control.Comes t c mid → (more : List Version) × (mid.versions ≡ c.versions ++ more)
    step (feed.refused n why) c mid h = ([], ap (λ (x : Course). x.versions) h ∙ sym (append-nil c.versions))
    step (feed.batch batch) c mid (inl (v, next, h)) = (v ∷ [], ap (λ (x : Course). x.versions) h)
    step (feed.batch batch) c mid (inr h) = ([], ap (λ (x : Course). x.versions) h ∙ sym (append-nil c.versions))
    step feed.empty c mid h = ([], ap (λ (x : Course). x.versions) h ∙ sym (append-nil c.versions))
    step (feed.spoiled n) c mid h = ([], ap (λ (x : Course). x.versions) h ∙ sym (append-nil c.versions))
    step (feed.query a o) c mid h = ([], ap (λ (x : Course). x.versions) h ∙ sym (append-nil c.versions))
    step feed.totals c mid h = ([], ap (λ (x : Course). x.versions) h ∙ sym (append-nil c.versions))

-- a line more, and the same version
silent_step : (v : Version) (ts : List feed.Task) (c mid d : Course) (text : List ℕ) → mid.versions ≡ c.versions → mid.out ≡ c.out ++ text ∷ [] → Adds v ts mid d
    → (maps : List Version) × (rest : List (List ℕ)) × (d.versions ≡ c.versions ++ maps) × (d.out ≡ c.out ++ text ∷ rest) × IsCourse v ts maps rest
silent_step v ts c mid d text same put r = (r.maps, r.lines, r.versions ∙ ap (λ xs. xs ++ r.maps) same, r.out ∙ ap (λ xs. xs ++ r.lines) put ∙ append_assoc c.out (text ∷ []) r.lines, r.course)

answer_is : (v : Version) (a : Addr) (o : List ℕ) → line_of.answer v.serial (reply_by v a o) ≡ page.said_to v (feed.query a o)
unfolding reply_by
answer_is v a o = refl

pub course_is : (v : Version) (ts : List feed.Task) (c d : Course) → c.newest ≡ v → IsVersion v → ((x : Version) → In d.versions x → IsVersion x) → AllCome ts c d → Adds v ts c d
course_is v [] c d newest is all h = record { maps = []; lines = []; versions = ap (λ (x : Course). x.versions) h ∙ sym (append-nil c.versions); out = ap (λ (x : Course). x.out) h ∙ sym (append-nil c.out); course = (refl, refl) }
course_is v (feed.refused n why ∷ ts) c d newest is all (mid, h, rest) =
    let r = course_is v ts mid d (ap (λ (x : Course). x.newest) h ∙ newest) is all rest in
    let s = silent_step v ts c mid d (line_of.refused n why) (ap (λ (x : Course). x.versions) h) (ap (λ (x : Course). x.out) h) r in
    record { maps = s.0; lines = line_of.refused n why ∷ s.1; versions = s.2; out = s.3; course = inl (s.1, refl, s.4) }
course_is v (feed.batch batch ∷ ts) c d newest is all (mid, inr h, rest) =
    let r = course_is v ts mid d (ap (λ (x : Course). x.newest) h ∙ newest) is all rest in
    let s = silent_step v ts c mid d line_of.memory (ap (λ (x : Course). x.versions) h) (ap (λ (x : Course). x.out) h) r in
    record { maps = s.0; lines = line_of.memory ∷ s.1; versions = s.2; out = s.3; course = inl (s.1, refl, s.4) }
course_is v (feed.batch batch ∷ ts) c d newest is all (mid, inl (w, next, h), rest) =
    let g = grows ts mid d rest in
    let in_mid : mid.versions ≡ c.versions ++ w ∷ [] = ap (λ (x : Course). x.versions) h in
    let there : In d.versions w = subst (λ xs. In xs w) (sym (g.1 ∙ ap (λ xs. xs ++ g.0) in_mid)) (in_left (c.versions ++ w ∷ []) g.0 w (in_right c.versions (w ∷ []) w (inl refl))) in
    let r = course_is w ts mid d (ap (λ (x : Course). x.newest) h) (all w there) all rest in
    let next' : IsNext v (map change batch) w = next_is v w batch is (subst (λ (o : Version). control.IsNext o batch w) newest next) in
    record {
      maps = w ∷ r.maps;
      lines = line_of.published w.serial ∷ r.lines;
      versions = r.versions ∙ ap (λ xs. xs ++ r.maps) in_mid ∙ append_assoc c.versions (w ∷ []) r.maps;
      out = r.out ∙ ap (λ xs. xs ++ r.lines) (ap (λ (x : Course). x.out) h) ∙ append_assoc c.out (line_of.published w.serial ∷ []) r.lines;
      course = inr (batch, w, r.maps, r.lines, refl, refl, refl, next', r.course);
    }
course_is v (feed.empty ∷ ts) c d newest is all (mid, h, rest) =
    let r = course_is v ts mid d (ap (λ (x : Course). x.newest) h ∙ newest) is all rest in
    let s = silent_step v ts c mid d (line_of.published v.serial) (ap (λ (x : Course). x.versions) h) (ap (λ (x : Course). x.out) h ∙ ap (λ (o : Version). c.out ++ line_of.published o.serial ∷ []) newest) r in
    record { maps = s.0; lines = line_of.published v.serial ∷ s.1; versions = s.2; out = s.3; course = inl (s.1, refl, s.4) }
course_is v (feed.spoiled n ∷ ts) c d newest is all (mid, h, rest) =
    let r = course_is v ts mid d (ap (λ (x : Course). x.newest) h ∙ newest) is all rest in
    let s = silent_step v ts c mid d (line_of.spoiled n) (ap (λ (x : Course). x.versions) h) (ap (λ (x : Course). x.out) h) r in
    record { maps = s.0; lines = line_of.spoiled n ∷ s.1; versions = s.2; out = s.3; course = inl (s.1, refl, s.4) }
course_is v (feed.query a o ∷ ts) c d newest is all (mid, h, rest) =
    let r = course_is v ts mid d (ap (λ (x : Course). x.newest) h ∙ newest) is all rest in
    let s = silent_step v ts c mid d (page.said_to v (feed.query a o)) (ap (λ (x : Course). x.versions) h) (ap (λ (x : Course). x.out) h ∙ ap (λ (x : Version). c.out ++ line_of.answer x.serial (reply_by x a o) ∷ []) newest ∙ ap (λ (xs : List ℕ). c.out ++ xs ∷ []) (answer_is v a o)) r in
    record { maps = s.0; lines = page.said_to v (feed.query a o) ∷ s.1; versions = s.2; out = s.3; course = inl (s.1, refl, s.4) }
course_is v (feed.totals ∷ ts) c d newest is all (mid, h, rest) =
    let r = course_is v ts mid d (ap (λ (x : Course). x.newest) h ∙ newest) is all rest in
    let s = silent_step v ts c mid d (page.said_to v feed.totals) (ap (λ (x : Course). x.versions) h) (ap (λ (x : Course). x.out) h ∙ ap (λ (x : Version). c.out ++ page.said_to x feed.totals ∷ []) newest) r in
    record { maps = s.0; lines = page.said_to v feed.totals ∷ s.1; versions = s.2; out = s.3; course = inl (s.1, refl, s.4) }
