-- Of whatever run the program's promise holds, the headline does.
use Rattle.std.proofs.Common.{◌≡◌, ◌⊎◌, inl, inr, ℕ, suc, true, List, [], ◌∷◌, ◌++◌, length, slice_get, take, Option, None, Some, refl, ap, sym, subst, ◌∙◌, append-nil}
use Rattle.std.specs.List.{concat}
use Rattle.std.proofs.lemmas.List.Concat.{concat_is}
use Rattle.map_model.specs.Market.{Market, IsSameShape}
use Rattle.outside.specs.Faults.{BothTell}
use Rattle.outside.specs.Sink.{Written}
use Rattle.topology_text.specs.Plan.{IsPlan, Plan}
use Rattle.published_map.specs.Version.{IsVersion, Version}
use Rattle.map_model.specs.Allocation.{IsGood}
use Rattle.map_model.specs.Progress.{IsGroupBest}
use Rattle.map_text.specs.Reading.{Mapped}
use Rattle.place_counts.specs.Places.{places_text}
use Rattle.demand_feed.specs.Lines.{lines_of}
use Rattle.demand_feed.specs.Task.{tasks}
use Rattle.mapper.specs.Control.{Course, start}
use Rattle.map_repair.proofs.Agree as map_repair
use Rattle.big_run.specs.Runs.{IsWorldRun}
use Rattle.big_run.specs.Summary as world
use Rattle.big_run.specs.declared.summary.Summary.{Summary}
use Rattle.mapper.specs.Scenes.{IsCutBehind, IsPrinted}
use Rattle.mapper.specs.Words.{map_text}
use Rattle.drive.specs.Driven.{LentTold}
use Rattle.glb.specs.declared.status.Status.{Status}
use Rattle.glb.specs.declared.status.Status.TheVariants as status
use Rattle.glb.specs.Told.{Surroundings, outside_of}
use Rattle.glb.specs.Words.{Service, answer, check, lanes_of, large, map_from, places, repair, say, serve}
use Rattle.glb.specs.Files.{topology_file}
use Rattle.glb.specs.Datagram.{Datagram}
use Rattle.glb.specs.Answer.{IsAnsweredRun, answer_of, version_of}
use Rattle.glb.specs.Check.{IsCheckedRun}
use Rattle.glb.specs.Large.{IsSummedRun}
use Rattle.glb.specs.Places.{IsPlacesRun}
use Rattle.glb.proofs.Agree.{serves_come}
use Rattle.glb.specs.Map.{IsMappedRun}
use Rattle.glb.specs.Repair.{IsRepairedRun}
use Rattle.glb.specs.Texts as text
use Rattle.glb.specs.Serve.{IsFirstOf, IsFirstSession, IsPlaced, IsServeRun, IsServed, IsStarted, all_ready, then_failed}
use Rattle.glb.specs.Served.{IsWellServed}
use Rattle.headline.specs.Headline.{AreMaps, IsFirst, IsHistory, IsMap, IsStreamLane}
use Rattle.headline.specs.Runs.{ArePut, ArePutInPart, IsAnswering, IsChecking, IsFed, IsMapping, IsPlacing, IsRepairing, IsServing, Puts, PutsOut, Says, text_of}
use Rattle.headline.specs.Laws.{Promised}
use Rattle.headline.proofs.Lists.{In}
use Rattle.headline.proofs.Trees.{forest, forest_like}
use Rattle.headline.proofs.Best.{best_is}
use Rattle.headline.proofs.Repaired.{repaired_is}
use Rattle.headline.proofs.Changes.{course_is, history_is, set_is}
use Rattle.headline.proofs.Texts.{all_put, put_by, text_is}
use Rattle.headline.proofs.Streams.{IsStreamIdle, idle_streams, stream_done, stream_idle, stream_ready, stream_same, stream_shut, stream_well}
use Rattle.headline.proofs.Serving.{AreIdle, all_done, all_idle, all_maps, all_on, all_same, all_well, asked_idle, first_maps, map_like, opened_idle, placed_idle, tells_so}

-- SERVE

lanes_are : (a b : LentTold) → a.lanes ≡ b.lanes → AreIdle b.lanes a.lanes
lanes_are a b same = subst (AreIdle b.lanes) (sym same) (all_same b.lanes)

is_ok : (s : Status) → (s ≡ status.Ok) ⊎ (s ≡ status.Ok → ⊥)
is_ok status.Ok = inl refl
is_ok status.Usage = inr (λ h. cc)
is_ok status.Refused = inr (λ h. cc)
is_ok status.SourceFault = inr (λ h. cc)
is_ok status.SinkFault = inr (λ h. cc)
is_ok status.PortFault = inr (λ h. cc)
is_ok status.Spent = inr (λ h. cc)
is_ok status.NotGood = inr (λ h. cc)
is_ok status.NoMemory = inr (λ h. cc)
is_ok status.CellFault = inr (λ h. cc)

placed_stream : (ask : Service) (before placed : LentTold) → IsPlaced ask before placed → IsStreamIdle before.stream placed.stream
placed_stream ask before placed place = stream_same placed.stream before.stream (ap (λ (l : LentTold). l.stream) place.rest)

-- nothing came and nothing was replied
abbrev AreStill : LentTold → LentTold → Type 0
AreStill before after = AreIdle before.lanes after.lanes × IsStreamIdle before.stream after.stream

behind : (ask : Service) (before placed after : LentTold) → IsPlaced ask before placed → AreStill placed after → AreStill before after
behind ask before placed after place still = (
  all_on before.lanes placed.lanes after.lanes (placed_idle (lanes_of ask) before.lanes placed.lanes place.asked) still.0,
  idle_streams before.stream placed.stream after.stream (placed_stream ask before placed place) still.1,
)

-- all was opened
begun : (ask : Service) (first : Version) (before placed started : LentTold) → IsPlaced ask before placed → IsStarted ask first placed started → AreStill before started
begun ask first before placed started place start = behind ask before placed started place (opened_idle ask.listen (all_ready ask.workers) placed.lanes started.lanes start.opened, stream_ready ask.tcp placed.stream started.stream start.stream)

none_put : (b a : Option Written) → a ≡ b → BothTell b a (ArePut [])
none_put b a same = subst (λ x. BothTell b x (ArePut [])) (sym same) (by b)
  where
    by : (x : Option Written) → BothTell x x (ArePut [])
    by None = tt
    by (Some w) = sym (append-nil w.bytes)

either : (maps : List Version) (b a : Option Written) → BothTell b a (ArePut maps) → BothTell b a (λ x y. ArePut maps x y ⊎ ArePutInPart maps x y)
either maps b a h = tells_so b a (ArePut maps) (λ x y. ArePut maps x y ⊎ ArePutInPart maps x y) (λ x y p. inl p) h

-- no map was published
nothing : (ask : Service) (before after : Surroundings) (result : Status) → AreStill before.lent after.lent → after.lent.maps.past ≡ before.lent.maps.past → IsServing ask before after result
nothing ask before after result still same = record {
  topology = None;
  says = tt;
  maps = [];
  good = refl;
  history = refl;
  fed = λ ok. tt;
  put = either [] before.lent.maps.past after.lent.maps.past (none_put before.lent.maps.past after.lent.maps.past same);
  all_put = λ ok. none_put before.lent.maps.past after.lent.maps.past same;
  lanes = all_idle 0 None [] result before.lent.lanes after.lent.lanes refl still.0;
  stream = stream_idle ask.workers None [] result before.lent.stream after.lent.stream refl still.1;
}

-- one was, and no worker served
one : (ask : Service) (t : Plan) (first : Version) (before after : Surroundings) (result : Status) → Says topology_file before after ask.topology t → AreMaps (Some t) (first ∷ []) → IsHistory (Some t) (first ∷ []) → (result ≡ status.Ok → ⊥) → AreStill before.lent after.lent
    → BothTell before.lent.maps.past after.lent.maps.past (λ b a. ArePut (first ∷ []) b a ⊎ ArePutInPart (first ∷ []) b a) → IsServing ask before after result
one ask t first before after result says good history not_ok still put = record {
  topology = Some t;
  says = says;
  maps = first ∷ [];
  good = good;
  history = history;
  fed = λ ok. absurd (not_ok ok);
  put = put;
  all_put = λ ok. absurd (not_ok ok);
  lanes = all_idle 0 (Some t) (first ∷ []) result before.lent.lanes after.lent.lanes good still.0;
  stream = stream_idle ask.workers (Some t) (first ∷ []) result before.lent.stream after.lent.stream good still.1;
}

tail : List Version → List Version
tail [] = []
tail (x ∷ xs) = xs

same_tail : (x : Version) (xs ys : List Version) → x ∷ xs ≡ x ∷ ys → xs ≡ ys
unfolding tail
same_tail x xs ys h = ap tail h

-- what the one feed's lines came to
fed_is : (turns : ℕ) (ask : Service) (before after : Surroundings) (w : IsWellServed turns ask before after) → ((n : ℕ) (x : Version) → slice_get (w.first ∷ w.rest) n ≡ Some x → IsVersion x) → IsFed ask before after (Some w.topology) (w.first ∷ w.rest)
fed_is turns ask before after w all octets alone are =
    let r = serves_come turns ask before after w octets alone are in
    let c : Course = r.0 in
    let rest : c.versions ≡ w.rest = sym (same_tail w.first w.rest c.versions r.1.history) in
    let in_rest : (x : Version) → In c.versions x → IsVersion x = λ x i. let at = get_from w.rest x (subst (λ vs. In vs x) rest i) in all (suc at.0) x at.1 in
    let a = course_is w.first (tasks w.topology (lines_of true octets)) (start w.first) c refl (all 0 w.first refl) in_rest r.1.all in
    let versions : w.rest ≡ a.maps = sym rest ∙ a.versions in
    (w.first, a.maps, a.lines, ap (λ vs. w.first ∷ vs) versions, a.course, tells_so before.lent.out.past after.lent.out.past (IsPrinted c.out) (Puts (concat a.lines)) (λ b x p. p.bytes ∙ ap (λ (ls : List (List ℕ)). b.bytes ++ concat ls) a.out) r.1.out)
  where
    get_from : (xs : List Version) (x : Version) → In xs x → (n : ℕ) × (slice_get xs n ≡ Some x)
    get_from [] x i = absurd i
    get_from (y ∷ ys) x (inl e) = (0, ap (λ (z : Version). Some z) e)
    get_from (y ∷ ys) x (inr i) = let r = get_from ys x i in (suc r.0, r.1)

well : (turns : ℕ) (ask : Service) (before after : Surroundings) (result : Status) → IsWellServed turns ask before after → IsServing ask before after result
well turns ask before after result w =
    let good = all_maps w.topology (w.first ∷ []) w.rest (first_maps w.topology w.first w.is_plan w.is_first) w.goes_on in
    let still = begun ask w.first before.lent w.placed w.started w.place w.start in
    let history = history_is w.topology w.first w.rest w.is_plan w.is_first w.goes_on in
    let put = all_put (w.first ∷ w.rest) before.lent.maps.past after.lent.maps.past w.texts in
    record {
      topology = Some w.topology;
      says = w.says;
      maps = w.first ∷ w.rest;
      good = good;
      history = history.1;
      fed = λ ok. fed_is turns ask before after w history.0;
      put = either (w.first ∷ w.rest) before.lent.maps.past after.lent.maps.past put;
      all_put = λ ok. put;
      lanes = all_well w.topology turns (w.first ∷ w.rest) 0 ask.workers result before.lent.lanes w.started.lanes after.lent.lanes good still.0 w.lanes;
      stream = stream_well w.topology ask.tcp turns (w.first ∷ w.rest) ask.workers result before.lent.stream w.started.stream after.lent.stream good still.1 w.stream;
    }

served : (turns : ℕ) (ask : Service) (t : Plan) (first : Version) (before after : Surroundings) (placed started : LentTold) (result : Status) → IsPlan t → Says topology_file before after ask.topology t → (result ≡ status.Ok → ⊥) → IsPlaced ask before.lent placed → IsFirstOf t first → IsStarted ask first placed started
    → IsServed turns ask first started after.lent result → IsServing ask before after result
served turns ask t first before after placed started result plan says not_ok place is_first start s =
    let good = all_maps t (first ∷ []) s.driven.rest (first_maps t first plan is_first) s.driven.goes_on in
    let still = begun ask first before.lent placed started place start in
    record {
      topology = Some t;
      says = says;
      maps = first ∷ s.driven.rest;
      good = good;
      history = (history_is t first s.driven.rest plan is_first s.driven.goes_on).1;
      fed = λ ok. absurd (not_ok ok);
      put = put_by t turns (length ask.more) first s.driven.rest s.end before.lent placed started after.lent s.driven.newest (ap (λ (l : LentTold). l.maps) place.rest) start.put s.driven.feed;
      all_put = λ ok. absurd (not_ok ok);
      lanes = all_done t turns first s.driven.rest 0 result s.ends before.lent.lanes started.lanes after.lent.lanes is_first.0.plan good not_ok still.0 s.driven.lanes;
      stream = subst (λ n. IsStreamLane n (Some t) (first ∷ s.driven.rest) result before.lent.stream after.lent.stream) s.as_many (stream_done t turns first s.driven.rest (length s.ends) result before.lent.stream started.stream after.lent.stream s.stream_end is_first.0.plan good not_ok still.1 s.driven.stream);
    }

cut_first : (first : Version) (b a : Option Written) → BothTell b a (IsCutBehind [] (map_text first)) → BothTell b a (λ x y. ArePut (first ∷ []) x y ⊎ ArePutInPart (first ∷ []) x y)
cut_first first b a h = tells_so b a (IsCutBehind [] (map_text first)) (λ x y. ArePut (first ∷ []) x y ⊎ ArePutInPart (first ∷ []) x y)
    (λ x y p. inr ([], first, p.k, refl, p.bytes ∙ ap (λ xs. xs ++ take p.k (map_text first)) (append-nil x.bytes) ∙ ap (λ xs. x.bytes ++ take p.k xs) (text_is first))) h

session : (turns : ℕ) (ask : Service) (t : Plan) (first : Version) (before after : Surroundings) (placed : LentTold) (result : Status) → IsPlan t → Says topology_file before after ask.topology t → (result ≡ status.Ok → ⊥) → IsPlaced ask before.lent placed → IsFirstOf t first
    → IsFirstSession turns ask first placed after.lent result → IsServing ask before after result
session turns ask t first before after placed result plan says not_ok place is_first (inl shut) =
    let same = ap (λ (l : LentTold). l.maps.past) shut.rest ∙ ap (λ (l : LentTold). l.maps.past) place.rest in
    nothing ask before after result (behind ask before.lent placed after.lent place (elim shut.opened [
      | inl some ↦ (opened_idle ask.listen (then_failed some.0) placed.lanes after.lent.lanes some.2, stream_same after.lent.stream placed.stream some.3)
      | inr all ↦ (opened_idle ask.listen (all_ready ask.workers) placed.lanes after.lent.lanes all.0, stream_shut ask.tcp placed.stream after.lent.stream all.1)
    ])) same
session turns ask t first before after placed result plan says not_ok place is_first (inr (inl shut)) =
    let same = ap (λ (l : LentTold). l.maps.past) shut.rest ∙ ap (λ (l : LentTold). l.maps.past) place.rest in
    nothing ask before after result (behind ask before.lent placed after.lent place (opened_idle ask.listen (all_ready ask.workers) placed.lanes after.lent.lanes shut.opened, stream_ready ask.tcp placed.stream after.lent.stream shut.stream)) same
session turns ask t first before after placed result plan says not_ok place is_first (inr (inr (inl unput))) =
    one ask t first before after result says (first_maps t first plan is_first) (history_is t first [] plan is_first tt).1 not_ok
    (behind ask before.lent placed after.lent place (opened_idle ask.listen (all_ready ask.workers) placed.lanes after.lent.lanes unput.opened, stream_ready ask.tcp placed.stream after.lent.stream unput.stream))
    (subst (λ m. BothTell m after.lent.maps.past (λ x y. ArePut (first ∷ []) x y ⊎ ArePutInPart (first ∷ []) x y)) (ap (λ (l : LentTold). l.maps.past) place.rest) (cut_first first placed.maps.past after.lent.maps.past unput.cut))
session turns ask t first before after placed result plan says not_ok place is_first (inr (inr (inr (inl want)))) =
    one ask t first before after result says (first_maps t first plan is_first) (history_is t first [] plan is_first tt).1 not_ok (begun ask first before.lent placed after.lent place want.1)
    (subst (λ m. BothTell m after.lent.maps.past (λ x y. ArePut (first ∷ []) x y ⊎ ArePutInPart (first ∷ []) x y)) (ap (λ (l : LentTold). l.maps.past) place.rest) (either (first ∷ []) placed.maps.past after.lent.maps.past (all_put (first ∷ []) placed.maps.past after.lent.maps.past want.1.put)))
session turns ask t first before after placed result plan says not_ok place is_first (inr (inr (inr (inr (started, start, s))))) = served turns ask t first before after placed started result plan says not_ok place is_first start s

run : (turns : ℕ) (ask : Service) (before after : Surroundings) (result : Status) → (result ≡ status.Ok → ⊥) → IsServeRun turns ask before after result → IsServing ask before after result
run turns ask before after result not_ok (inl unread) =
    nothing ask before after result (lanes_are after.lent before.lent (ap (λ (l : LentTold). l.lanes) unread.rest), stream_same after.lent.stream before.lent.stream (ap (λ (l : LentTold). l.stream) unread.rest)) (ap (λ (l : LentTold). l.maps.past) unread.rest)
run turns ask before after result not_ok (inr (t, plan, says, inl unopened)) =
    nothing ask before after result (asked_idle unopened.asked.0 before.lent.lanes after.lent.lanes unopened.asked.2, stream_same after.lent.stream before.lent.stream (ap (λ (l : LentTold). l.stream) unopened.rest)) (ap (λ (l : LentTold). l.maps.past) unopened.rest)
run turns ask before after result not_ok (inr (t, plan, says, inr (placed, first, place, is_first, rest))) = session turns ask t first before after placed result plan says not_ok place is_first rest

-- THE OTHER COMMANDS

same_shape : (m : Market) → IsSameShape m m
same_shape m = record { groups = refl; nodes = refl; lists = λ g. refl; trees = λ n. refl; pools = λ n. refl }

one_piece : (pieces : List (List ℕ)) (xs : List ℕ) (b a : Option Written) → pieces ≡ xs ∷ [] → BothTell b a (IsPrinted pieces) → BothTell b a (Puts xs)
one_piece pieces xs b a is h = tells_so b a (IsPrinted pieces) (Puts xs) (λ x y p. p.bytes ∙ ap (λ zs. x.bytes ++ zs) (ap concat is ∙ concat_is (xs ∷ []) ∙ append-nil xs)) h

-- a good map for the numbers of its topology
own_map : (t : Plan) (x : Mapped) → IsPlan t → IsGood t.market x.lines x.names → IsMap t 0 (version_of t x)
own_map t x plan good = map_like t 0 (version_of t x) (forest t.market plan.market) (same_shape t.market) good refl refl

-- one that is mapped from scratch
own_first : (t : Plan) (x : Mapped) → IsPlan t → IsGroupBest t.market x.lines → IsFirst t (version_of t x)
own_first t x plan best = (refl, best_is t.market (forest t.market plan.market) x.lines best)

mapped : (topology : List ℕ) (before after : Surroundings) → IsMappedRun topology (outside_of before) (outside_of after) → IsMapping topology before after
mapped topology before after (t, pieces, plan, says, (x, good, scratch, is), put) =
    let v : Version = version_of t x in
    (v, (t, says, own_map t x plan good, own_first t x plan scratch.counted.best), one_piece pieces (text_of v) before.lent.out.past after.lent.out.past is put)

placed : (topology : List ℕ) (before after : Surroundings) → IsPlacesRun topology (outside_of before) (outside_of after) → IsPlacing topology before after
placed topology before after (t, pieces, plan, says, (x, good, best, is), put) =
    let v : Version = version_of t x in
    (v, (t, says, own_map t x plan good, own_first t x plan best), one_piece pieces (places_text v.market v.lines) before.lent.out.past after.lent.out.past is put)

checked : (topology m : List ℕ) (before after : Surroundings) → IsCheckedRun topology m (outside_of before) (outside_of after) → IsChecking topology m before after
checked topology m before after (t, x, plan, says, says_map, good, put) =
    (t, version_of t x, (says, (x, says_map, refl), own_map t x plan good), one_piece (text.good ∷ []) text.good before.lent.out.past after.lent.out.past refl put)

answered : (topology m : List ℕ) (d : Datagram) (before after : Surroundings) → IsAnsweredRun topology m d (outside_of before) (outside_of after) → IsAnswering topology m d before after
unfolding answer_of
answered topology m d before after (t, x, pieces, plan, says, says_map, r, put) =
    let v : Version = version_of t x in
    (t, v, (says, (x, says_map, refl), own_map t x plan r.good), one_piece pieces (text.answer (answer_of v d)) before.lent.out.past after.lent.out.past r.text put)

repaired : (topology m changes : List ℕ) (before after : Surroundings) → IsRepairedRun topology m changes (outside_of before) (outside_of after) → IsRepairing topology m changes before after
repaired topology m changes before after (t, old, c, pieces, plan, says, says_map, says_changes, r, put) =
    let v : Version = version_of t old in
    let w : Version = record { serial = 0; market = r.changed; lines = r.repaired.lines; names = r.repaired.names; plan = t } in
    let ok = forest t.market plan.market in
    let new = forest_like t.market r.changed ok r.applied.shape in
    let one = map_repair.repaired_is t.market old.lines r.changed r.repaired.lines 0 r.steps r.counted r.good_again.stable in (
      t,
      v,
      w,
      c,
      (says, (old, says_map, refl), own_map t old plan r.good),
      says_changes,
      map_like t 0 w new r.applied.shape r.good_again refl refl,
      record {
        numbers = set_is t.market r.changed c r.applied;
        repaired = repaired_is t.market r.changed ok r.applied.shape old.lines r.good.form r.good.feasible.demands new r.repaired.lines one r.local;
      },
      one_piece pieces (text_of w) before.lent.out.past after.lent.out.past r.text put,
    )

summed : (n : ℕ) (before after : Surroundings) → IsSummedRun n before after → (s : Summary) × IsWorldRun n s × PutsOut (concat (world.lines_of s)) before after
summed n before after (s, is, put) = (s, is, tells_so before.lent.out.past after.lent.out.past (IsPrinted (world.lines_of s)) (Puts (concat (world.lines_of s))) (λ x y p. p.bytes) put)

pub promised : Promised
promised turns None before after result p = tt
promised turns (Some (serve ask)) before after result p = elim (is_ok result) [
  | inl ok ↦ well turns ask before after result (p.good ok)
  | inr not_ok ↦ run turns ask before after result not_ok p.run
]
promised turns (Some (large groups)) before after result p = λ ok. summed groups before after (p.good ok)
promised turns (Some (say (map_from topology))) before after result p = λ ok. mapped topology before after (p.good ok)
promised turns (Some (say (places topology))) before after result p = λ ok. placed topology before after (p.good ok)
promised turns (Some (say (check topology m))) before after result p = λ ok. checked topology m before after (p.good ok)
promised turns (Some (say (answer topology m d))) before after result p = λ ok. answered topology m d before after (p.good ok)
promised turns (Some (say (repair topology m changes))) before after result p = λ ok. repaired topology m changes before after (p.good ok)
