-- Items worked one after another, as a merged control text.
use Rattle.std.proofs.Common.{◌≡◌, inl, inr, ℕ, zero, suc, ◌+◌, Bool, true, false, cond, List, [], ◌∷◌, ◌++◌, map, take, filter, append_assoc, append-nil, refl, ap, sym, subst, ◌∙◌, arith}
use Rattle.std.proofs.lemmas.List.Sums.{sum_by-append}
use Rattle.std.specs.Prelude.{Option, Some, slice_get}
use Rattle.std.specs.List.{cons_option}
use Rattle.map_model.specs.declared.change.Change.{Change}
use Rattle.demand_feed.specs.declared.sent.Item.{Item}
use Rattle.demand_feed.specs.declared.sent.What.{What}
use Rattle.demand_feed.specs.declared.sent.What.TheVariants as what
use Rattle.published_map.specs.Version.{Version}
use Rattle.mapper.specs.Control.{Course, IsNext}
use Rattle.mapper.specs.Words.{reply_by, totals_of}
use Rattle.mapper.specs.Texts as text
use Rattle.mapper.specs.Merged.{Entry, IsMerged, Publishes, Speaks, SpeaksAs, batches_of, changes_of, has_line, newest_at, raises_in, spoken}
use Rattle.mapper.specs.Texts.{mark_of}
use Rattle.mapper.specs.Items.{AllWork, WorksAs}

-- what comes of items, from one course to another
abbrev pub Merges : List Item → Course → Course → Type 0
Merges items c d = (log : List Entry) × (vs : List Version) × IsMerged c.newest items log vs × (d.versions ≡ c.versions ++ vs) × (d.out ≡ c.out ++ map spoken log)

abbrev entry : Item → List ℕ → Bool → Entry
entry x line raises = record { item = x; line = line; raises = raises }

one_more : (n : ℕ) → 1 + n ≡ suc n
one_more n = omega arith

same_of : (a b : Entry) → Some a ≡ Some b → a ≡ b
same_of a b e = cc

with_line_in : (x : Item) (xs : List Item) (log : List Entry) → has_line x.what ≡ true → map (λ (e : Entry). e.item) log ≡ filter (λ (y : Item). has_line y.what) xs → x ∷ map (λ (e : Entry). e.item) log ≡ filter (λ (y : Item). has_line y.what) (x ∷ xs)
with_line_in x xs log has h = ap (λ is. x ∷ is) h ∙ ap (λ b. cond b (x ∷ filter (λ (y : Item). has_line y.what) xs) (filter (λ (y : Item). has_line y.what) xs)) (sym has)

-- the first line says this, and publishes nothing
quiet : (v : Version) (x : Item) (line : List ℕ) (xs : List Item) (log : List Entry) (vs : List Version) → has_line x.what ≡ true → Speaks v (entry x line false) → IsMerged v xs log vs → IsMerged v (x ∷ xs) (entry x line false ∷ log) vs
quiet v x line xs log vs has says h = record { entries = with_line_in x xs log has h.entries; published = h.published; lines = go }
  where
    go : (i : ℕ) (e : Entry) → slice_get (entry x line false ∷ log) i ≡ Some e → Speaks (newest_at v vs (raises_in (take i (entry x line false ∷ log)))) e
    go zero e is = subst (λ (f : Entry). Speaks v f) (same_of (entry x line false) e is) says
    go (suc i) e is = let n : raises_in (take (suc i) (entry x line false ∷ log)) ≡ raises_in (take i log) = omega arith in subst (λ k. Speaks (newest_at v vs k) e) (sym n) (h.lines i e is)

-- the first line publishes a version
loud : (v w : Version) (x : Item) (changes : List Change) (line : List ℕ) (xs : List Item) (log : List Entry) (vs : List Version) → has_line x.what ≡ true → changes_of x.what ≡ Some changes → Speaks v (entry x line true) → IsNext v changes w → IsMerged w xs log vs
    → IsMerged v (x ∷ xs) (entry x line true ∷ log) (w ∷ vs)
loud v w x changes line xs log vs has commit says next h = record {
  entries = with_line_in x xs log has h.entries;
  published = subst (λ (o : Option (List Change)). Publishes v (cons_option o (batches_of log)) (w ∷ vs)) (sym commit) (next, h.published);
  lines = go;
}
  where
    go : (i : ℕ) (e : Entry) → slice_get (entry x line true ∷ log) i ≡ Some e → Speaks (newest_at v (w ∷ vs) (raises_in (take i (entry x line true ∷ log)))) e
    go zero e is = subst (λ (f : Entry). Speaks v f) (same_of (entry x line true) e is) says
    go (suc i) e is = let m : raises_in (take (suc i) (entry x line true ∷ log)) ≡ 1 + raises_in (take i log) = sum_by-append (λ (f : Entry). cond f.raises 1 0) (entry x line true ∷ []) (take i log) in let n : raises_in (take (suc i) (entry x line true ∷ log)) ≡ suc (raises_in (take i log)) = m ∙ one_more (raises_in (take i log)) in subst (λ k. Speaks (newest_at v (w ∷ vs) k) e) (sym n) (h.lines i e is)

quiet_step : (x : Item) (xs : List Item) (c mid d : Course) (line : List ℕ) → has_line x.what ≡ true → SpeaksAs c.newest x.what (entry x line false)
    → mid.newest ≡ c.newest → mid.versions ≡ c.versions → mid.out ≡ c.out ++ (mark_of x.feeder ++ line) ∷ [] → Merges xs mid d → Merges (x ∷ xs) c d
quiet_step x xs c mid d line has says newest versions out r = (
  entry x line false ∷ r.0,
  r.1,
  quiet c.newest x line xs r.0 r.1 has says (subst (λ v. IsMerged v xs r.0 r.1) newest r.2),
  r.3 ∙ ap (λ l. l ++ r.1) versions,
  r.4 ∙ ap (λ l. l ++ map spoken r.0) out ∙ append_assoc c.out ((mark_of x.feeder ++ line) ∷ []) (map spoken r.0),
)

loud_step : (x : Item) (xs : List Item) (c mid d : Course) (change : Change) (changes : List Change) (w : Version) → has_line x.what ≡ true → x.what ≡ what.Commit (change ∷ changes) → IsNext c.newest (change ∷ changes) w
    → mid.newest ≡ w → mid.versions ≡ c.versions ++ w ∷ [] → mid.out ≡ c.out ++ (mark_of x.feeder ++ text.published w.serial) ∷ [] → Merges xs mid d → Merges (x ∷ xs) c d
loud_step x xs c mid d change changes w has is next newest versions out r = (
  entry x (text.published w.serial) true ∷ r.0,
  w ∷ r.1,
  loud c.newest w x (change ∷ changes) (text.published w.serial) xs r.0 r.1 has (ap changes_of is) (subst (λ k. SpeaksAs c.newest k (entry x (text.published w.serial) true)) (sym is) (inl (ap text.published next.serial, refl))) next (subst (λ v. IsMerged v xs r.0 r.1) newest r.2),
  r.3 ∙ ap (λ l. l ++ r.1) versions ∙ append_assoc c.versions (w ∷ []) r.1,
  r.4 ∙ ap (λ l. l ++ map spoken r.0) out ∙ append_assoc c.out ((mark_of x.feeder ++ text.published w.serial) ∷ []) (map spoken r.0),
)

end_step : (x : Item) (xs : List Item) (c mid d : Course) → has_line x.what ≡ false → mid ≡ c → Merges xs mid d → Merges (x ∷ xs) c d
end_step x xs c mid d has same r =
    let s : Merges xs c d = subst (λ k. Merges xs k d) same r in (
      s.0,
      s.1,
      record {
        entries = s.2.entries ∙ ap (λ b. cond b (x ∷ filter (λ (y : Item). has_line y.what) xs) (filter (λ (y : Item). has_line y.what) xs)) (sym has);
        published = s.2.published;
        lines = s.2.lines;
      },
      s.3,
      s.4,
    )

step : (x : Item) (xs : List Item) (c mid d : Course) (w : What) → x.what ≡ w → WorksAs (Some x.feeder) w c mid → Merges xs mid d → Merges (x ∷ xs) c d
step x xs c mid d (what.Refused number why) is h r = quiet_step x xs c mid d (text.refused number why) (ap has_line is) (subst (λ k. SpeaksAs c.newest k (entry x (text.refused number why) false)) (sym is) (refl, refl)) (ap (λ k. k.newest) h) (ap (λ k. k.versions) h) (ap (λ k. k.out) h) r
step x xs c mid d (what.Commit []) is h r = quiet_step x xs c mid d (text.published c.newest.serial) (ap has_line is) (subst (λ k. SpeaksAs c.newest k (entry x (text.published c.newest.serial) false)) (sym is) (refl, refl)) (ap (λ k. k.newest) h) (ap (λ k. k.versions) h) (ap (λ k. k.out) h) r
step x xs c mid d (what.Commit (change ∷ changes)) is (inl h) r = loud_step x xs c mid d change changes h.0 (ap has_line is) is h.1 (ap (λ k. k.newest) h.2) (ap (λ k. k.versions) h.2) (ap (λ k. k.out) h.2) r
step x xs c mid d (what.Commit (change ∷ changes)) is (inr h) r = quiet_step x xs c mid d text.memory (ap has_line is) (subst (λ k. SpeaksAs c.newest k (entry x text.memory false)) (sym is) (inr (refl, refl))) (ap (λ k. k.newest) h) (ap (λ k. k.versions) h) (ap (λ k. k.out) h) r
step x xs c mid d what.Memory is h r = quiet_step x xs c mid d text.memory (ap has_line is) (subst (λ k. SpeaksAs c.newest k (entry x text.memory false)) (sym is) (refl, refl)) (ap (λ k. k.newest) h) (ap (λ k. k.versions) h) (ap (λ k. k.out) h) r
step x xs c mid d what.Empty is h r = quiet_step x xs c mid d (text.published c.newest.serial) (ap has_line is) (subst (λ k. SpeaksAs c.newest k (entry x (text.published c.newest.serial) false)) (sym is) (refl, refl)) (ap (λ k. k.newest) h) (ap (λ k. k.versions) h) (ap (λ k. k.out) h) r
step x xs c mid d (what.Lines lines) is h r = quiet_step x xs c mid d (text.spoiled lines) (ap has_line is) (subst (λ k. SpeaksAs c.newest k (entry x (text.spoiled lines) false)) (sym is) (refl, refl)) (ap (λ k. k.newest) h) (ap (λ k. k.versions) h) (ap (λ k. k.out) h) r
step x xs c mid d (what.Ask addr octets) is h r = quiet_step x xs c mid d (text.answer c.newest.serial (reply_by c.newest addr octets.items)) (ap has_line is) (subst (λ k. SpeaksAs c.newest k (entry x (text.answer c.newest.serial (reply_by c.newest addr octets.items)) false)) (sym is) (refl, refl)) (ap (λ k. k.newest) h) (ap (λ k. k.versions) h) (ap (λ k. k.out) h) r
step x xs c mid d what.Show is h r = quiet_step x xs c mid d (text.show c.newest.serial (totals_of c.newest)) (ap has_line is) (subst (λ k. SpeaksAs c.newest k (entry x (text.show c.newest.serial (totals_of c.newest)) false)) (sym is) (refl, refl)) (ap (λ k. k.newest) h) (ap (λ k. k.versions) h) (ap (λ k. k.out) h) r
step x xs c mid d (what.End end) is h r = end_step x xs c mid d (ap has_line is) h r

-- whatever the course was, what items come to is a merged text from its newest version on
pub merges : (items : List Item) (c d : Course) → AllWork items c d → Merges items c d
merges [] c d h = ([], [], record { entries = refl; published = tt; lines = λ i e is. cc }, ap (λ k. k.versions) h ∙ sym (append-nil c.versions), ap (λ k. k.out) h ∙ sym (append-nil c.out))
merges (x ∷ xs) c d h = step x xs c h.0 d x.what refl h.1 (merges xs h.0 d h.2)
