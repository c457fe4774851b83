-- The texts of the maps that a run publishes.
use Rattle.std.proofs.Common.{◌≡◌, ◌⊎◌, inl, inr, ℕ, List, [], ◌∷◌, ◌++◌, map, take, flat_map, Option, Some, refl, ap, ap₂, sym, subst, ◌∙◌, append_assoc, append-nil}
use Rattle.std.specs.List.{concat}
use Rattle.std.proofs.lemmas.List.{map-append}
use Rattle.std.proofs.lemmas.List.Concat.{concat_is}
use Rattle.outside.specs.Faults.{BothTell, DeviceState}
use Rattle.outside.specs.Sink.{Written}
use Rattle.outside.specs.Source.{Fed}
use Rattle.topology_text.specs.Plan.{Plan}
use Rattle.demand_feed.specs.Task.{Task, refused, batch, empty, spoiled, query, totals}
use Rattle.demand_feed.specs.declared.run.FeedEnd.{FeedEnd}
use Rattle.demand_feed.specs.declared.run.FeedEnd.TheVariants as ends
use Rattle.demand_feed.specs.declared.sent.Item.{Item}
use Rattle.demand_feed.specs.declared.sent.What.{What}
use Rattle.demand_feed.specs.declared.sent.What.TheVariants as what
use Rattle.published_map.specs.Version.{Version}
use Rattle.mapper.specs.Control.{AllCome, Comes, Course, start}
use Rattle.mapper.specs.Feeding.{AllCame, IsFeedRun, WasCut}
use Rattle.mapper.specs.Feeds.{AllWorked, WorkWasCut, first_end}
use Rattle.mapper.specs.Items.{AllWork, WorksAs}
use Rattle.mapper.specs.Scenes.{IsAt, IsCutAt, IsCutBehind, IsPrinted, Scene, scene}
use Rattle.mapper.specs.Words.{map_text}
use Rattle.drive.specs.Driven.{LentTold}
use Rattle.outside.specs.Source.{Fed}
use Rattle.drive.specs.Feeds.{AreFed}
use Rattle.glb.specs.Feeds.{with_feeds}
use Rattle.headline.specs.Runs.{ArePut, ArePutInPart, text_of}
use Rattle.headline.proofs.Serving.{tells_on, tells_so}

pub text_is : (v : Version) → map_text v ≡ text_of v
unfolding map_text
text_is v = refl

texts_are : (vs : List Version) → concat (map map_text vs) ≡ flat_map text_of vs
texts_are vs = concat_is (map map_text vs) ∙ go vs
  where
    go : (vs : List Version) → flat_map (λ x. x) (map map_text vs) ≡ flat_map text_of vs
    go [] = refl
    go (v ∷ vs) = ap₂ (λ xs ys. xs ++ ys) (text_is v) (go vs)

pub all_put : (vs : List Version) (b a : Option Written) → BothTell b a (IsPrinted (map map_text vs)) → BothTell b a (ArePut vs)
all_put vs b a h = tells_so b a (IsPrinted (map map_text vs)) (ArePut vs) (λ x y p. p.bytes ∙ ap (λ xs. x.bytes ++ xs) (texts_are vs)) h

-- WHAT TASKS AND ITEMS COME TO

-- a course has the texts of its versions
abbrev HasTexts : Course → Type 0
HasTexts c = c.maps ≡ map map_text c.versions

one_texts : (task : Task) (c d : Course) → HasTexts c → Comes task c d → HasTexts d
one_texts (refused number why) c d texts h = rw h texts
one_texts empty c d texts h = rw h texts
one_texts (spoiled lines) c d texts h = rw h texts
one_texts (query addr octets) c d texts h = rw h texts
one_texts totals c d texts h = rw h texts
one_texts (batch changes) c d texts (inr h) = rw h texts
one_texts (batch changes) c d texts (inl h) = rw h.2 (ap (λ ts. ts ++ map_text h.0 ∷ []) texts ∙ sym (map-append map_text c.versions (h.0 ∷ [])))

all_texts : (tasks : List Task) (c d : Course) → HasTexts c → AllCome tasks c d → HasTexts d
all_texts [] c d texts h = rw h texts
all_texts (i ∷ is) c d texts h = all_texts is h.0 d (one_texts i c h.0 texts h.1) h.2

works_texts : (mark : Option ℕ) (w : What) (c d : Course) → HasTexts c → WorksAs mark w c d → HasTexts d
works_texts mark (what.Refused number why) c d texts h = rw h texts
works_texts mark (what.Commit []) c d texts h = rw h texts
works_texts mark (what.Commit (change ∷ changes)) c d texts (inl h) = rw h.2 (ap (λ ts. ts ++ map_text h.0 ∷ []) texts ∙ sym (map-append map_text c.versions (h.0 ∷ [])))
works_texts mark (what.Commit (change ∷ changes)) c d texts (inr h) = rw h texts
works_texts mark what.Memory c d texts h = rw h texts
works_texts mark what.Empty c d texts h = rw h texts
works_texts mark (what.Lines lines) c d texts h = rw h texts
works_texts mark (what.Ask addr octets) c d texts h = rw h texts
works_texts mark what.Show c d texts h = rw h texts
works_texts mark (what.End end) c d texts h = rw h texts

all_work_texts : (items : List Item) (c d : Course) → HasTexts c → AllWork items c d → HasTexts d
all_work_texts [] c d texts h = rw h texts
all_work_texts (x ∷ xs) c d texts h = all_work_texts xs h.0 d (works_texts (Some x.feeder) x.what c h.0 texts h.1) h.2

-- WHAT A RUN OF FEEDS COMES TO

-- all was put, or the last put failed
data Came (before after : Scene) : Type 0 where
  told : (c : Course) → HasTexts c → IsAt before c after → Came before after
  cut : (c d : Course) → HasTexts c → HasTexts d → IsCutAt before c d after → Came before after

came_all : (tasks : List Task) (before after : Scene) → AllCame tasks before after → Came before after
came_all tasks before after (c, come, at) = told c (all_texts tasks (start before.newest) c refl come) at

came_cut : (tasks : List Task) (before after : Scene) → WasCut tasks before after → Came before after
came_cut tasks before after (done, task, later, c, d, parts, come, last, at) = let texts = all_texts done (start before.newest) c refl come in cut c d texts (one_texts task c d texts last) at

came_run : (t : Plan) (turns : ℕ) (end : FeedEnd) (fed then : Option Fed) (before after : Scene) → IsFeedRun t turns end fed then before after → Came before after
came_run t turns ends.Ended fed then before after (pieces, read, inl h) = came_all _ before after h.2
came_run t turns ends.Ended fed then before after (pieces, read, inr h) = came_all _ before after h.2
came_run t turns ends.SourceFault fed then before after (pieces, read, h) = came_all _ before after h.2
came_run t turns ends.Spent fed then before after (pieces, read, h) = came_all _ before after h.2
came_run t turns ends.SinkFault fed then before after (pieces, read, inl h) = came_cut _ before after h.2
came_run t turns ends.SinkFault fed then before after (pieces, read, inr h) = came_cut _ before after h.2
came_run t turns ends.NoMemory fed then before after (pieces, read, h) = absurd h

-- the versions and the texts of a run, which the pace has no part in
record Shown (before after : Scene) : Type 0 where
  versions : List Version
  history : after.history ≡ before.history ++ versions
  put : BothTell before.maps after.maps (λ b a. ArePut versions b a ⊎ ArePutInPart versions b a)

split_last : (f : Version → List ℕ) (ds : List Version) (xs : List (List ℕ)) (x : List ℕ) → map f ds ≡ xs ++ x ∷ [] → (whole : List Version) × (last : Version) × (ds ≡ whole ++ last ∷ []) × (map f whole ≡ xs) × (f last ≡ x)
split_last f [] [] x h = absurd (cc)
split_last f [] (y ∷ ys) x h = absurd (cc)
split_last f (d ∷ []) [] x h = ([], d, refl, refl, cc)
split_last f (d ∷ e ∷ ds) [] x h = absurd (cc)
split_last f (d ∷ ds) (y ∷ ys) x h = let r = split_last f ds ys x (cc) in (d ∷ r.0, r.1, ap (λ vs. d ∷ vs) r.2, let first : f d ≡ y = cc in ap₂ (λ a others. a ∷ others) first r.3, r.4)

shown : (before after : Scene) → Came before after → Shown before after
shown before after (told c texts at) = record {
  versions = c.versions;
  history = at.history;
  put = tells_so before.maps after.maps (IsPrinted c.maps) (λ b a. ArePut c.versions b a ⊎ ArePutInPart c.versions b a) (λ b a p. inl (p.bytes ∙ ap (λ xs. b.bytes ++ xs) (ap concat texts ∙ texts_are c.versions))) at.maps;
}
shown before after (cut c d texts more at) = record {
  versions = d.versions;
  history = at.history;
  put = elim at.puts [
    | inl out ↦ tells_so before.maps after.maps (IsPrinted d.maps) (λ b a. ArePut d.versions b a ⊎ ArePutInPart d.versions b a) (λ b a p. inl (p.bytes ∙ ap (λ xs. b.bytes ++ xs) (ap concat more ∙ texts_are d.versions))) out.maps
    | inr maps ↦ let s = split_last map_text d.versions c.maps maps.text (sym more ∙ maps.last) in
        tells_so before.maps after.maps (IsCutBehind c.maps maps.text) (λ b a. ArePut d.versions b a ⊎ ArePutInPart d.versions b a)
        (λ b a p. inr (s.0, s.1, p.k, s.2, p.bytes ∙ append_assoc b.bytes (concat c.maps) (take p.k maps.text) ∙ ap (λ xs. b.bytes ++ xs) (ap₂ (λ xs ys. xs ++ take p.k ys) (ap concat (sym s.3) ∙ texts_are s.0) (sym s.4 ∙ text_is s.1)))) maps.maps
  ];
}

shown_fed : (t : Plan) (turns : ℕ) (end : FeedEnd) (fed then : DeviceState Fed) (more past : List (DeviceState Fed)) (before after : Scene) → AreFed t turns end fed more then past before after → Shown before after
shown_fed t turns end fed then [] past before after f = let s = shown before (record after { pace = f.0.calls }) (came_run t turns end fed.past then.past before (record after { pace = f.0.calls }) f.0.run) in record { versions = s.versions; history = s.history; put = s.put }
shown_fed t turns end fed then (m ∷ more) past before after f = let s = shown before (record after { pace = f.run.calls }) (came f.run.ended) in record { versions = s.versions; history = s.history; put = s.put }
  where
    came : ((end ≡ first_end f.items) × AllWorked f.items before (record after { pace = f.run.calls })) ⊎ ((end ≡ ends.SinkFault) × WorkWasCut f.items before (record after { pace = f.run.calls })) → Came before (record after { pace = f.run.calls })
    came (inl h) = told h.1.course (all_work_texts f.items (start before.newest) h.1.course refl h.1.works) h.1.told
    came (inr h) = let texts = all_work_texts h.1.done (start before.newest) h.1.course refl h.1.works in cut h.1.course h.1.next texts (works_texts (Some h.1.item.feeder) h.1.item.what h.1.course h.1.next texts h.1.last) h.1.cut

tail_is : (first : Version) (rest versions : List Version) → first ∷ rest ≡ (first ∷ []) ++ versions → versions ≡ rest
tail_is first rest versions h = cc

-- from before the first text on
put_more : (first : Version) (rest : List Version) (a b c : Written) → IsPrinted (map_text first ∷ []) a b → ArePut rest b c ⊎ ArePutInPart rest b c → ArePut (first ∷ rest) a c ⊎ ArePutInPart (first ∷ rest) a c
put_more first rest a b c one more = elim more [
  | inl all ↦ inl (all ∙ ap (λ xs. xs ++ flat_map text_of rest) begins ∙ append_assoc a.bytes (text_of first) (flat_map text_of rest))
  | inr part ↦ inr (
    first ∷ part.0,
    part.1,
    part.2,
    ap (λ vs. first ∷ vs) part.3,
    part.4 ∙ ap (λ xs. xs ++ (flat_map text_of part.0 ++ take part.2 (text_of part.1))) begins
        ∙ append_assoc a.bytes (text_of first) (flat_map text_of part.0 ++ take part.2 (text_of part.1)) ∙ ap (λ xs. a.bytes ++ xs) (sym (append_assoc (text_of first) (flat_map text_of part.0) (take part.2 (text_of part.1)))),
  )
]
  where
    begins : b.bytes ≡ a.bytes ++ text_of first
    begins = one.bytes ∙ ap (λ xs. a.bytes ++ xs) (texts_are (first ∷ []) ∙ append-nil (text_of first))

pub put_by : (t : Plan) (turns count : ℕ) (first : Version) (rest : List Version) (end : FeedEnd) (before placed started after : LentTold) (newest : Version) → placed.maps ≡ before.maps → BothTell placed.maps.past started.maps.past (IsPrinted (map_text first ∷ []))
    → AreFed first.plan turns end (with_feeds count started).feed (with_feeds count started).more (with_feeds count after).feed (with_feeds count after).more (scene first (first ∷ []) started.out.past started.maps.past started.pace.past) (scene newest (first ∷ rest) after.out.past after.maps.past after.pace.past)
    → BothTell before.maps.past after.maps.past (λ b a. ArePut (first ∷ rest) b a ⊎ ArePutInPart (first ∷ rest) b a)
put_by t turns count first rest end before placed started after newest same put fed =
    let s = shown_fed first.plan turns end (with_feeds count started).feed (with_feeds count after).feed (with_feeds count started).more (with_feeds count after).more (scene first (first ∷ []) started.out.past started.maps.past started.pace.past) (scene newest (first ∷ rest) after.out.past after.maps.past after.pace.past) fed in
    let versions = tail_is first rest s.versions s.history in
    let rest_put = subst (λ vs. BothTell started.maps.past after.maps.past (λ b a. ArePut vs b a ⊎ ArePutInPart vs b a)) versions s.put in
    subst (λ (m : DeviceState Written). BothTell m.past after.maps.past (λ b a. ArePut (first ∷ rest) b a ⊎ ArePutInPart (first ∷ rest) b a)) same
    (tells_on placed.maps.past started.maps.past after.maps.past (IsPrinted (map_text first ∷ [])) (λ b a. ArePut rest b a ⊎ ArePutInPart rest b a) (λ b a. ArePut (first ∷ rest) b a ⊎ ArePutInPart (first ∷ rest) b a) (λ x y z p q. put_more first rest x y z p q) put rest_put)
