-- Courses, one task more.
use Rattle.std.proofs.Common.{◌≡◌, ◌≢◌, ◌⊎◌, inl, inr, ℕ, List, [], ◌∷◌, ◌++◌, append_assoc, append-nil, refl, ap, sym, subst, ◌∙◌}
use Rattle.std.specs.Prelude.{Option}
use Rattle.outside.specs.Faults.{BothTell}
use Rattle.outside.specs.Sink.{IsPut, Written}
use Rattle.outside.specs.declared.pace.PaceCall.{PaceCall}
use Rattle.outside.specs.declared.sink.Put.{Put}
use Rattle.outside.specs.declared.sink.Put.TheVariants as put
use Rattle.map_model.specs.declared.change.Change.{Change}
use Rattle.published_map.specs.Version.{Version}
use Rattle.mapper.specs.Words.{map_text}
use Rattle.mapper.specs.Texts as text
use Rattle.mapper.specs.Control.{Course, IsNext, start, with_line}
use Rattle.mapper.specs.Items.{CommitWorks, with_published}
use Rattle.mapper.specs.Texts.{marked}
use Rattle.mapper.specs.Scenes.{IsAt, IsCutInMaps, IsCutInOut, IsPrinted, Scene, scene}
use Rattle.mapper.specs.Coming.{BothPut, Came}
use Rattle.demand_feed.proofs.Tellings.{tell_self}
use Rattle.mapper.proofs.Tellings.{paced_none, printed_cut, printed_more, printed_none}

-- a put of a line
pub said_at : (result : Put) (before : Scene) (base c : Course) (v : Version) (h : List Version) (out o maps : Option Written) (pace : Option (List PaceCall)) (line : List ℕ)
    → base.out ≡ c.out → base.maps ≡ c.maps → IsAt before c (scene v h out maps pace) → BothTell out o (IsPut result line) → Came result before base (λ d. d ≡ with_line c line) (scene v h o maps pace)
said_at put.Done before base c v h out o maps pace line eo em at p = (
  with_line c line,
  refl,
  record {
    newest = at.newest;
    history = at.history;
    maps = at.maps;
    pace = at.pace;
    out = printed_more c.out line before.out out o at.out p;
  },
)
said_at put.Failed before base c v h out o maps pace line eo em at p = (
  with_line c line,
  refl,
  record {
    newest = at.newest;
    history = at.history;
    pace = at.pace;
    puts = inl (record {
      line = line;
      last = ap (λ xs. xs ++ line ∷ []) (sym eo);
      out = rw eo (printed_cut c.out line before.out out o at.out p);
      maps = at.maps;
    });
  },
)

-- a publish, with its two puts
pub published_at : (mark : Option ℕ) (result : Put) (before : Scene) (base c : Course) (changes : List Change) (v w : Version) (h k : List Version) (out o maps m : Option Written) (pace : Option (List PaceCall))
    → base.out ≡ c.out → base.maps ≡ c.maps → IsAt before c (scene v h out maps pace) → IsNext v changes w → k ≡ h ++ w ∷ [] → BothPut result (map_text w) (marked mark (text.published w.serial)) maps m out o
    → Came result before base (CommitWorks mark changes c) (scene w k o m pace)
published_at mark put.Done before base c changes v w h k out o maps m pace eo em at next grown p = (
  with_published mark c w,
  inl (w, subst (λ old. IsNext old changes w) at.newest next, refl),
  record {
    newest = refl;
    history = grown ∙ ap (λ xs. xs ++ w ∷ []) at.history ∙ append_assoc before.history c.versions (w ∷ []);
    out = printed_more c.out (marked mark (text.published w.serial)) before.out out o at.out p.1;
    maps = printed_more c.maps (map_text w) before.maps maps m at.maps p.0;
    pace = at.pace;
  },
)
published_at mark put.Failed before base c changes v w h k out o maps m pace eo em at next grown p = (
  with_published mark c w,
  inl (w, subst (λ old. IsNext old changes w) at.newest next, refl),
  record {
    newest = refl;
    history = grown ∙ ap (λ xs. xs ++ w ∷ []) at.history ∙ append_assoc before.history c.versions (w ∷ []);
    pace = at.pace;
    puts = go p;
  },
)
  where
    go : (BothTell maps m (IsPut put.Done (map_text w)) × BothTell out o (IsPut put.Failed (marked mark (text.published w.serial)))) ⊎ (BothTell maps m (IsPut put.Failed (map_text w)) × (o ≡ out))
        → IsCutInOut before base (with_published mark c w) (scene w k o m pace) ⊎ IsCutInMaps before base (with_published mark c w) (scene w k o m pace)
    go (inl q) = inl (record {
      line = marked mark (text.published w.serial);
      last = ap (λ xs. xs ++ marked mark (text.published w.serial) ∷ []) (sym eo);
      out = rw eo (printed_cut c.out (marked mark (text.published w.serial)) before.out out o at.out q.1);
      maps = printed_more c.maps (map_text w) before.maps maps m at.maps q.0;
    })
    go (inr q) = inr (record {
      text = map_text w;
      last = ap (λ xs. xs ++ map_text w ∷ []) (sym em);
      out = rw (eo, q.1) at.out;
      maps = rw em (printed_cut c.maps (map_text w) before.maps maps m at.maps q.0);
    })

-- ahead of all lines
pub starts_at : (s : Scene) → IsAt s (start s.newest) s
starts_at s = record {
  newest = refl;
  history = sym (append-nil s.history);
  out = tell_self s.out (IsPrinted []) printed_none;
  maps = tell_self s.maps (IsPrinted []) printed_none;
  pace = paced_none s.pace;
}

-- a weaker end
pub came_map : (result : Put) (before : Scene) (base : Course) (To Via : Course → Type 0) (s : Scene) → ((d : Course) → To d → Via d) → Came result before base To s → Came result before base Via s
came_map put.Done before base To Via s f (d, to, at) = (d, f d to, at)
came_map put.Failed before base To Via s f (d, to, at) = (d, f d to, at)

-- what came where no put failed
pub came_done : (result : Put) (before : Scene) (base : Course) (To : Course → Type 0) (s : Scene) → result ≢ put.Failed → Came result before base To s → (d : Course) × To d × IsAt before d s
came_done put.Done before base To s whole h = h
came_done put.Failed before base To s whole h = absurd (whole refl)
