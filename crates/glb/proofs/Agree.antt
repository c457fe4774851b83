-- What `map` and `repair` write is determined by their files, and what `serve` publishes by its topology and its feed.
use Rattle.std.proofs.Common.{◌≡◌, ◌⊎◌, inl, inr, ℕ, ◌-◌, ◌<◌, ◌≤◌, true, false, List, [], ◌∷◌, ◌++◌, length, map, None, Some, append-nil, refl, sym, ap, ◌∙◌, subst}
use Rattle.std.specs.Prelude.{Option, slice_get, take}
use Rattle.std.specs.List.{concat}
use Rattle.std.proofs.lemmas.List.{append_cancel_left}
use Rattle.outside.specs.Faults.{BothTell, DeviceState}
use Rattle.outside.specs.Sink.{Written}
use Rattle.outside.specs.declared.pace.PaceCall.{PaceCall}
use Rattle.demand_feed.specs.Task.{Task, tasks}
use Rattle.demand_feed.specs.Lines.{lines_of}
use Rattle.published_map.specs.Version.{Version}
use Rattle.mapper.specs.Control.{AllCome, Course, IsNext, start}
use Rattle.mapper.specs.Feeding.{AllCame, IsFeed}
use Rattle.mapper.specs.Mappers.{IsFirst}
use Rattle.mapper.specs.Scenes.{IsPrinted, scene}
use Rattle.mapper.specs.Words.{map_text}
use Rattle.mapper.specs.Merged.{Publishes}
use Rattle.mapper.proofs.Agree.{all_come_one, first_one, versions_one}
use Rattle.lane_model.specs.Machine.{GoesOn}
use Rattle.drive.specs.Driven.{LentTold, Succeeds, scene_at}
use Rattle.drive.proofs.Growing.{last_appended}
use Rattle.drive.specs.Feeds.{AreFed}
use Rattle.demand_feed.specs.Runs.{HasRead, IsAll, StopsLast}
use Rattle.demand_feed.specs.declared.run.FeedEnd.TheVariants.{Ended}
use Rattle.demand_feed.proofs.Octets.{ended_of_octets, octets_one, tasks_stopped}
use Rattle.outside.specs.Source.{Fed}
use Rattle.glb.specs.Laws.{AreOctetsOf, CameBy, MapsAgree, RepairsAgree, ServesAgree, ServesCome, ServesPublish, ServesRepeat}
use Rattle.glb.specs.Served.{IsWellServed}
use Rattle.glb.specs.Told.{Surroundings}
use Rattle.glb.specs.Words.{Service}
use Rattle.map_model.specs.declared.change.Change.{Change}
use Rattle.map_model.specs.declared.lines.MapLine.{MapLine}
use Rattle.map_model.specs.declared.lines.NameLine.{NameLine}
use Rattle.map_model.specs.Allocation.{IsGood}
use Rattle.map_model.specs.Market.{Market}
use Rattle.map_laws.proofs.Applied.{applied_one}
use Rattle.map_laws.proofs.Ends.{group_best_one}
use Rattle.map_repair.specs.Resumed.{HasRepaired}
use Rattle.map_repair.proofs.Agree.{repaired_one}
use Rattle.topology_text.specs.Plan.{Plan}
use Rattle.map_text.specs.Reading.{Mapped}
use Rattle.map_text.specs.Writing.{text_of_map}

mapped_is : (x y : Mapped) → (x.lines ≡ y.lines) × (x.names ≡ y.names) → x ≡ y
mapped_is x y e = ap (λ (ls : List MapLine). record { lines = ls; names = x.names }) e.0 ∙ ap (λ (ns : List NameLine). record { lines = y.lines; names = ns }) e.1

-- two texts that are due to `map` for one topology are the same
pub map_one : MapsAgree
map_one t market a b (m, good, scratch, text) (n, also, afresh, other) =
    let e : m ≡ n = mapped_is m n (group_best_one t.market market m.lines n.lines m.names n.names good also scratch.counted.best afresh.counted.best) in
    text ∙ ap (λ (x : Mapped). text_of_map t x ∷ []) e ∙ sym other

-- and so are two that are due to `repair` for one topology, one map and the same changes
pub repair_one : RepairsAgree
repair_one t m changes a b x y = x.text ∙ ap (λ (z : Mapped). text_of_map t z ∷ []) same ∙ sym y.text
  where
    market : x.changed ≡ y.changed
    market = applied_one t.market x.changed y.changed changes x.applied y.applied

    same : x.repaired ≡ y.repaired
    same = mapped_is x.repaired y.repaired (repaired_one t.market m.lines y.changed x.repaired.lines y.repaired.lines x.repaired.names y.repaired.names 0 x.steps 0 y.steps y.applied.shape.groups
        (subst (λ (z : Market). HasRepaired t.market m.lines z x.repaired.lines 0 x.steps) market x.counted) y.counted (subst (λ (z : Market). IsGood z x.repaired.lines x.repaired.names) market x.good_again) y.good_again)

came_by : (turns : ℕ) (ask : Service) (before after : Surroundings) (w : IsWellServed turns ask before after) (is : List Task) (calls : Option (List PaceCall))
    → AllCame is (scene_at w.first (w.first ∷ []) w.started) (scene w.newest (w.first ∷ w.rest) after.lent.out.past after.lent.maps.past calls) → (c : Course) × CameBy turns ask before after w is c
came_by turns ask before after w is calls (c, all, at) = (
  c,
  record {
    all = all;
    history = at.history;
    out = subst (λ (o : DeviceState Written). BothTell o.past after.lent.out.past (IsPrinted c.out)) (ap (λ (l : LentTold). l.out) w.start.rest ∙ ap (λ (l : LentTold). l.out) w.place.rest) at.out;
    maps = subst (λ (h : List Version). BothTell before.lent.maps.past after.lent.maps.past (IsPrinted (map map_text h))) at.history w.texts;
  },
)

-- with one feed, what was worked is that feed's run
one_feed : (turns : ℕ) (ask : Service) (before after : Surroundings) (w : IsWellServed turns ask before after) → ask.more ≡ []
    → IsFeed w.topology turns Ended w.started.feed.past after.lent.feed.past (scene_at w.first (w.first ∷ []) w.started) (scene_at w.newest (w.first ∷ w.rest) after.lent)
one_feed turns ask before after w none =
    (subst (λ (names : List (List ℕ)). AreFed w.topology turns Ended w.started.feed (take (length names) w.started.more) after.lent.feed (take (length names) after.lent.more) (scene_at w.first (w.first ∷ []) w.started)
    (scene_at w.newest (w.first ∷ w.rest) after.lent)) none w.fed).0

-- what the feed tells is as it was before the cell was opened
feed_same : (turns : ℕ) (ask : Service) (before after : Surroundings) (w : IsWellServed turns ask before after) → w.started.feed.past ≡ before.lent.feed.past
feed_same turns ask before after w = ap (λ (l : LentTold). l.feed.past) w.start.rest ∙ ap (λ (l : LentTold). l.feed.past) w.place.rest

-- what is said of the tasks of all pieces that were read, to a `stop` or to the end, is said of those of their octets
ended_of_pieces : (t : Plan) (turns : ℕ) (pieces : List (List ℕ)) (before after : Option Fed) (P : List Task → Type 0)
    → (StopsLast pieces × (length pieces ≤ turns) × P (tasks t (lines_of false (concat pieces)))) ⊎ (IsAll (concat pieces) before after × (length pieces < turns) × P (tasks t (lines_of true (concat pieces))))
    → P (tasks t (lines_of true (concat pieces)))
ended_of_pieces t turns pieces before after P (inl (stops, few, came)) =
    subst P (tasks_stopped t (concat pieces) [] stops.1 ∙ ap (λ (bytes : List ℕ). tasks t (lines_of true bytes)) (append-nil (concat pieces))) came
ended_of_pieces t turns pieces before after P (inr (whole, few, came)) = came

-- pieces that were added to the same ones are the same
added_one : (xs : List (List ℕ)) (ps qs all : List (List ℕ)) → all ≡ xs ++ ps → all ≡ xs ++ qs → qs ≡ ps
added_one xs ps qs all p q = append_cancel_left xs qs ps (sym q ∙ p)

-- whatever is said of the tasks to which a run came that ended, is said of those of the octets that its feed tells
of_octets : (t : Plan) (turns : ℕ) (pieces : List (List ℕ)) (before after : Option Fed) (octets : List ℕ) (P : List Task → Type 0) → AreOctetsOf before after octets → BothTell before after (HasRead pieces)
    → (StopsLast pieces × (length pieces ≤ turns) × P (tasks t (lines_of false (concat pieces)))) ⊎ (IsAll (concat pieces) before after × (length pieces < turns) × P (tasks t (lines_of true (concat pieces))))
    → P (tasks t (lines_of true octets))
of_octets t turns pieces None after octets P are told ended = absurd are
of_octets t turns pieces (Some before) None octets P are told ended = absurd are
of_octets t turns pieces (Some before) (Some after) octets P (inl has) told ended =
    let all = ended_of_octets t turns pieces (Some before) (Some after) P told ended in
    subst (λ (o : List ℕ). P (tasks t (lines_of true o))) (octets_one (Some before) octets all.0 has all.1) all.2
of_octets t turns pieces (Some before) (Some after) octets P (inr (given, is, same)) told ended =
    let one : given ≡ pieces = added_one before.pieces pieces given after.pieces told.given is in
    subst (λ (o : List ℕ). P (tasks t (lines_of true o))) (sym (same ∙ ap concat one)) (ended_of_pieces t turns pieces (Some before) (Some after) P ended)

pub serves_come : ServesCome
serves_come turns ask before after w octets none are =
    let fed = one_feed turns ask before after w none in
    let all = of_octets w.topology turns fed.run.0 w.started.feed.past after.lent.feed.past octets
    (λ (ts : List Task). AllCame ts (scene_at w.first (w.first ∷ []) w.started) (scene w.newest (w.first ∷ w.rest) after.lent.out.past after.lent.maps.past fed.calls))
    (subst (λ (f : Option Fed). AreOctetsOf f after.lent.feed.past octets) (sym (feed_same turns ask before after w)) are) fed.run.1 fed.run.2 in
    came_by turns ask before after w (tasks w.topology (lines_of true octets)) fed.calls all

-- two runs over one topology have the same first version
first_same : (turns runs : ℕ) (ask other : Service) (before after then later : Surroundings) (x : IsWellServed turns ask before after) (y : IsWellServed runs other then later) → x.topology ≡ y.topology → x.first ≡ y.first
first_same turns runs ask other before after then later x y same =
    first_one y.topology y.is_plan.market (record { history = x.first ∷ []; newest = x.first }) (record { history = y.first ∷ []; newest = y.first }) (subst (λ (t : Plan). IsFirst t (record { history = x.first ∷ []; newest = x.first })) same x.is_first.0) y.is_first.0

pub serves_agree : ServesAgree
serves_agree turns runs ask other before after then later x y octets one also same are others =
    let a = serves_come turns ask before after x octets one are in
    let b = serves_come runs other then later y octets also others in
    let first = first_same turns runs ask other before after then later x y same in
    let ts = tasks y.topology (lines_of true octets) in
    let came : AllCome ts (start y.first) a.0 = subst (λ (v : Version). AllCome ts (start v) a.0) first (subst (λ (t : Plan). AllCome (tasks t (lines_of true octets)) (start x.first) a.0) same a.1.all) in
    (a.0, b.0, a.1, b.1, λ quiet also_quiet. (first, all_come_one ts (start y.first) a.0 b.0 came b.1.all quiet also_quiet))

some_one : (v w : Version) → Some v ≡ Some w → v ≡ w
some_one v w e = cc

-- a history that goes on is what some batches lead to
published_by : (h : List Version) (last : Version) (rest : List Version) → slice_get h (length h - 1) ≡ Some last → GoesOn Succeeds h rest → (batches : List (List Change)) × Publishes last batches rest
published_by h last [] at on = ([], tt)
published_by h last (v ∷ rest) at (next, on) =
    let more = published_by (h ++ v ∷ []) v rest (last_appended h v) on in
    let old : next.0 ≡ last = some_one next.0 last (sym next.2 ∙ at) in
    (next.1 ∷ more.0, (subst (λ (o : Version). IsNext o next.1 v) old next.3, more.1))

pub serves_publish : ServesPublish
serves_publish turns ask before after w = published_by (w.first ∷ []) w.first w.rest refl w.goes_on

pub serves_repeat : ServesRepeat
serves_repeat turns runs ask other before after then later x y batches same one also =
    let first : x.first ≡ y.first = first_same turns runs ask other before after then later x y same in
    (first, versions_one y.first batches x.rest y.rest (subst (λ (v : Version). Publishes v batches x.rest) first one) also)
