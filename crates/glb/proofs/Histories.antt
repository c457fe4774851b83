-- The texts that a feed puts on the maps are those of the versions that it publishes.
use Rattle.std.proofs.Common.{◌≡◌, inl, inr, ℕ, ◌+◌, List, [], ◌∷◌, ◌++◌, length, length-append, map, refl, ap, sym, ◌∙◌, subst, append_assoc, arith}
use Rattle.std.specs.Prelude.{Option}
use Rattle.std.specs.List.{concat}
use Rattle.std.proofs.lemmas.List.{map-append}
use Rattle.std.proofs.lemmas.List.Folds.{concat-append}
use Rattle.outside.specs.Faults.{BothTell, DeviceState, raised}
use Rattle.outside.specs.Sink.{Written}
use Rattle.outside.specs.Source.{Fed}
use Rattle.topology_text.specs.Plan.{Plan}
use Rattle.demand_feed.specs.Task.{Task, refused, batch, empty, spoiled, query, totals}
use Rattle.demand_feed.specs.declared.run.FeedEnd.TheVariants as feed
use Rattle.demand_feed.proofs.Tellings.{tell_trans}
use Rattle.published_map.specs.Version.{Version}
use Rattle.mapper.specs.Control.{AllCome, Comes, Course, start}
use Rattle.mapper.specs.Feeding.{AllCame, IsFeedRun}
use Rattle.mapper.specs.Scenes.{IsAt, IsPrinted, Scene}
use Rattle.mapper.specs.Words.{map_text}
use Rattle.drive.specs.Feeds.{AreFed}
use Rattle.glb.proofs.Several.{all_work_texts, together_worked}

one_texts : (task : Task) (c d : Course) → c.maps ≡ map map_text c.versions → Comes task c d → d.maps ≡ map map_text d.versions
one_texts (refused number why) c d texts h = rw h texts
one_texts empty c d texts h = rw h texts
one_texts (spoiled lines) c d texts h = rw h texts
one_texts (query addr octets) c d texts h = rw h texts
one_texts totals c d texts h = rw h texts
one_texts (batch changes) c d texts (inr h) = rw h texts
one_texts (batch changes) c d texts (inl h) = rw h.2 (ap (λ ts. ts ++ map_text h.0 ∷ []) texts ∙ sym (map-append map_text c.versions (h.0 ∷ [])))

all_texts : (tasks : List Task) (c d : Course) → c.maps ≡ map map_text c.versions → AllCome tasks c d → d.maps ≡ map map_text d.versions
all_texts [] c d texts h = rw h texts
all_texts (i ∷ is) c d texts h = all_texts is h.0 d (one_texts i c h.0 texts h.1) h.2

-- what a run over a feed came to at its end
course_of : (t : Plan) (turns : ℕ) (fed then : Option Fed) (before after : Scene) → IsFeedRun t turns feed.Ended fed then before after → (tasks : List Task) × AllCame tasks before after
course_of t turns fed then before after (pieces, read, inl h) = (_, h.2)
course_of t turns fed then before after (pieces, read, inr h) = (_, h.2)

more_printed : (ps qs : List (List ℕ)) (a b c : Written) → IsPrinted ps a b → IsPrinted qs b c → IsPrinted (ps ++ qs) a c
more_printed ps qs a b c r s = record {
  bytes = s.bytes ∙ ap (λ xs. xs ++ concat qs) r.bytes ∙ append_assoc a.bytes (concat ps) (concat qs) ∙ ap (λ xs. a.bytes ++ xs) (sym (concat-append ps qs));
  puts = s.puts ∙ ap (λ n. raised n (length qs)) r.puts ∙ raised_both a.puts (length ps) (length qs) ∙ ap (raised a.puts) (sym (length-append ps qs));
}
  where
    raised_both : (a m n : ℕ) → raised (raised a m) n ≡ raised a (m + n)
    raised_both a m n = omega arith

tail_is : (first : Version) (rest versions : List Version) → first ∷ rest ≡ (first ∷ []) ++ versions → rest ≡ versions
tail_is first rest versions h = cc

-- the first text, and those of a course that is told
course_texts : (first : Version) (rest : List Version) (maps : Option Written) (before after : Scene) (c : Course) → before.history ≡ first ∷ [] → after.history ≡ first ∷ rest → BothTell maps before.maps (IsPrinted (map_text first ∷ [])) → c.maps ≡ map map_text c.versions
    → IsAt before c after → BothTell maps after.maps (IsPrinted (map map_text (first ∷ rest)))
course_texts first rest maps before after c old new put worked at =
    let rest_is : rest ≡ c.versions = tail_is first rest c.versions (sym new ∙ at.history ∙ ap (λ h. h ++ c.versions) old) in
    let texts : c.maps ≡ map map_text rest = worked ∙ ap (map map_text) (sym rest_is) in
    subst (λ ts. BothTell maps after.maps (IsPrinted (map_text first ∷ ts))) texts
    (tell_trans maps before.maps after.maps (IsPrinted (map_text first ∷ [])) (IsPrinted c.maps) (IsPrinted (map_text first ∷ c.maps)) put at.maps (more_printed (map_text first ∷ []) c.maps))

-- the first text, and those of feeds that ended
pub texts_of : (t : Plan) (turns : ℕ) (fed then : DeviceState Fed) (more past : List (DeviceState Fed)) (first : Version) (rest : List Version) (maps : Option Written) (before after : Scene) → before.history ≡ first ∷ [] → after.history ≡ first ∷ rest
    → BothTell maps before.maps (IsPrinted (map_text first ∷ [])) → AreFed t turns feed.Ended fed more then past before after → BothTell maps after.maps (IsPrinted (map map_text (first ∷ rest)))
texts_of t turns fed then [] past first rest maps before after old new put run =
    let came = course_of t turns fed.past then.past before (record after { pace = run.0.calls }) run.0.run in
    let c = came.1.0 in
    course_texts first rest maps before (record after { pace = run.0.calls }) c old new put (all_texts came.0 (start before.newest) c refl came.1.1) came.1.2
texts_of t turns fed then (m ∷ more) past first rest maps before after old new put run =
    let worked = together_worked t turns fed then (m ∷ more) past before after run in
    course_texts first rest maps before (record after { pace = run.run.calls }) worked.course old new put (all_work_texts run.items (start before.newest) worked.course refl worked.works) worked.told
