-- What a feed comes to is determined by the topology and its tasks, but for want of memory.
use Rattle.std.proofs.Common.{◌≡◌, ℕ, List, [], ◌∷◌, refl, sym, ap, ◌∙◌, subst, inl, inr, arith}
use Rattle.std.proofs.lemmas.List.Elements.{Contains-append_left, Contains-append_right}
use Rattle.map_model.specs.declared.change.Change.{Change}
use Rattle.map_model.specs.declared.lines.MapLine.{MapLine}
use Rattle.map_model.specs.declared.lines.NameLine.{NameLine}
use Rattle.map_model.specs.Market.{Market, IsMarket}
use Rattle.map_model.specs.Allocation.{names_of}
use Rattle.map_laws.proofs.Applied.{applied_one}
use Rattle.map_laws.proofs.Ends.{group_best_one}
use Rattle.map_repair.specs.Determined.{IsRepairedOf}
use Rattle.map_repair.proofs.Agree.{repaired_of_one}
use Rattle.topology_text.specs.Plan.{Plan}
use Rattle.demand_feed.specs.Task.{Task, refused, batch, empty, spoiled, query, totals}
use Rattle.published_map.specs.Version.{Version}
use Rattle.map_cell.specs.Ends.{PublisherState}
use Rattle.mapper.specs.Control.{AllCome, Comes, Course, IsNext, before_commit, start, with_version}
use Rattle.mapper.specs.Laws.{LackedMemory}
use Rattle.mapper.specs.Mappers.{IsFirst}
use Rattle.mapper.specs.Merged.{Publishes}
use Rattle.mapper.specs.Texts as text

version_is : (x y : Version) → x.serial ≡ y.serial → x.market ≡ y.market → x.lines ≡ y.lines → x.names ≡ y.names → x.plan ≡ y.plan → x ≡ y
version_is x y a b c d e =
    ap (λ (s : ℕ). record { serial = s; market = x.market; lines = x.lines; names = x.names; plan = x.plan }) a
    ∙ ap (λ (m : Market). record { serial = y.serial; market = m; lines = x.lines; names = x.names; plan = x.plan }) b
    ∙ ap (λ (ls : List MapLine). record { serial = y.serial; market = y.market; lines = ls; names = x.names; plan = x.plan }) c
    ∙ ap (λ (ns : List NameLine). record { serial = y.serial; market = y.market; lines = y.lines; names = ns; plan = x.plan }) d
    ∙ ap (λ (p : Plan). record { serial = y.serial; market = y.market; lines = y.lines; names = y.names; plan = p }) e

-- the version that a batch leads to is one
pub next_one : (old a b : Version) (changes : List Change) → IsNext old changes a → IsNext old changes b → a ≡ b
next_one old a b changes x y = version_is a b (x.serial ∙ sym y.serial) market lines (x.good.named ∙ ap (λ (m : Market). names_of m a.lines) market ∙ ap (names_of b.market) lines ∙ sym y.good.named) (x.plan ∙ sym y.plan)
  where
    market : a.market ≡ b.market
    market = applied_one old.market a.market b.market changes x.applied y.applied

    lines : a.lines ≡ b.lines
    lines = repaired_of_one old.market old.lines b.market a.lines b.lines y.applied.shape.groups (subst (λ (m : Market). IsRepairedOf old.market old.lines m a.lines) market x.repaired) y.repaired

-- and so are the versions that batches lead to
pub versions_one : (old : Version) (batches : List (List Change)) (vs ws : List Version) → Publishes old batches vs → Publishes old batches ws → vs ≡ ws
versions_one old [] [] [] x y = refl
versions_one old [] [] (w ∷ ws) x y = absurd y
versions_one old [] (v ∷ vs) ws x y = absurd x
versions_one old (changes ∷ batches) [] ws x y = absurd x
versions_one old (changes ∷ batches) (v ∷ vs) [] x y = absurd y
versions_one old (changes ∷ batches) (v ∷ vs) (w ∷ ws) x y =
    let e : v ≡ w = next_one old v w changes x.0 y.0 in
    let rest : vs ≡ ws = versions_one w batches vs ws (subst (λ (u : Version). Publishes u batches vs) e x.1) y.1 in
    ap (λ (u : Version). u ∷ vs) e ∙ ap (λ (us : List Version). w ∷ us) rest

-- the line that memory was wanting stays
said_still : (task : Task) (c d : Course) → Comes task c d → LackedMemory c → LackedMemory d
said_still (refused number why) c d e said = subst (λ (x : Course). LackedMemory x) (sym e) (Contains-append_left c.out (text.refused number why ∷ []) text.memory said)
said_still (batch changes) c d (inl (version, next, e)) said = subst (λ (x : Course). LackedMemory x) (sym e) (Contains-append_left c.out (text.published version.serial ∷ []) text.memory said)
said_still (batch changes) c d (inr e) said = subst (λ (x : Course). LackedMemory x) (sym e) (Contains-append_left c.out (text.memory ∷ []) text.memory said)
said_still empty c d e said = subst (λ (x : Course). LackedMemory x) (sym e) (Contains-append_left c.out (text.published c.newest.serial ∷ []) text.memory said)
said_still (spoiled lines) c d e said = subst (λ (x : Course). LackedMemory x) (sym e) (Contains-append_left c.out (text.spoiled lines ∷ []) text.memory said)
said_still (query addr octets) c d e said = subst (λ (x : Course). LackedMemory x) (sym e) (Contains-append_left c.out (_ ∷ []) text.memory said)
said_still totals c d e said = subst (λ (x : Course). LackedMemory x) (sym e) (Contains-append_left c.out (_ ∷ []) text.memory said)

all_still : (tasks : List Task) (c d : Course) → AllCome tasks c d → LackedMemory c → LackedMemory d
all_still [] c d e said = subst (λ (x : Course). LackedMemory x) (sym e) said
all_still (task ∷ tasks) c d (mid, first, rest) said = all_still tasks mid d rest (said_still task c mid first said)

-- one task comes to one course
pub comes_one : (task : Task) (c d e : Course) → Comes task c d → Comes task c e → (LackedMemory d → ⊥) → (LackedMemory e → ⊥) → d ≡ e
comes_one (refused number why) c d e x y quiet also_quiet = x ∙ sym y
comes_one (batch changes) c d e (inl (v, next, x)) (inl (w, also, y)) quiet also_quiet = x ∙ ap (λ (u : Version). with_version (before_commit c) u) (next_one c.newest v w changes next also) ∙ sym y
comes_one (batch changes) c d e (inr x) y quiet also_quiet = absurd (quiet (subst (λ (z : Course). LackedMemory z) (sym x) (Contains-append_right c.out (text.memory ∷ []) text.memory (0, omega arith, refl))))
comes_one (batch changes) c d e (inl x) (inr y) quiet also_quiet = absurd (also_quiet (subst (λ (z : Course). LackedMemory z) (sym y) (Contains-append_right c.out (text.memory ∷ []) text.memory (0, omega arith, refl))))
comes_one empty c d e x y quiet also_quiet = x ∙ sym y
comes_one (spoiled lines) c d e x y quiet also_quiet = x ∙ sym y
comes_one (query addr octets) c d e x y quiet also_quiet = x ∙ sym y
comes_one totals c d e x y quiet also_quiet = x ∙ sym y

-- so do tasks, one after another
pub all_come_one : (tasks : List Task) (c d e : Course) → AllCome tasks c d → AllCome tasks c e → (LackedMemory d → ⊥) → (LackedMemory e → ⊥) → d ≡ e
all_come_one [] c d e x y quiet also_quiet = x ∙ sym y
all_come_one (task ∷ tasks) c d e (a, first, rest) (b, also, more) quiet also_quiet =
    let mid : a ≡ b = comes_one task c a b first also (λ said. quiet (all_still tasks a d rest said)) (λ said. also_quiet (all_still tasks b e more said)) in
    all_come_one tasks b d e (subst (λ (x : Course). AllCome tasks x d) mid rest) more quiet also_quiet

-- two mappers that were opened for one topology have the same first version
pub first_one : (t : Plan) → IsMarket t.market → (a b : PublisherState) → IsFirst t a → IsFirst t b → a.newest ≡ b.newest
first_one t market a b x y =
    let e = group_best_one t.market market a.newest.lines b.newest.lines a.newest.names b.newest.names x.good y.good x.best y.best in
    version_is a.newest b.newest (x.serial ∙ sym y.serial) (x.market ∙ sym y.market) e.0 e.1 (x.plan ∙ sym y.plan)

-- So over the same tasks they come to the same courses, where neither said that memory was wanting: the same versions, the same texts of maps, the same lines and the same calls of the pace.
pub courses_one : (t : Plan) → IsMarket t.market → (a b : PublisherState) (tasks : List Task) (c d : Course) → IsFirst t a → IsFirst t b → AllCome tasks (start a.newest) c → AllCome tasks (start b.newest) d → (LackedMemory c → ⊥) → (LackedMemory d → ⊥) → c ≡ d
courses_one t market a b tasks c d x y all also quiet also_quiet =
    all_come_one tasks (start b.newest) c d (subst (λ (v : Version). AllCome tasks (start v) c) (first_one t market a b x y) all) also quiet also_quiet
