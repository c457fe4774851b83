-- The batches of each feeder in a merged text.
use Rattle.std.proofs.Common.{◌≡◌, ℕ, zero, suc, ◌==◌, Bool, true, false, true≢false, cond, List, [], ◌∷◌, map, filter, refl, ap, sym, ◌∙◌}
use Rattle.std.specs.Prelude.{Option, None, Some, is_some, slice_get, take}
use Rattle.std.specs.List.{cons_option}
use Rattle.map_model.specs.declared.change.Change.{Change}
use Rattle.demand_feed.specs.declared.sent.Item.{Item}
use Rattle.demand_feed.specs.declared.sent.What.{What}
use Rattle.demand_feed.specs.declared.sent.What.TheVariants as what
use Rattle.published_map.specs.Version.{Version}
use Rattle.feed_queue.specs.Items.{only, sent_by}
use Rattle.mapper.specs.Merged.{Entry, IsMerged, SpeaksAs, batches_of, changes_of, has_line, newest_at, raises_in}
use Rattle.mapper.specs.Given.{AreGiven, answers_of, commits_of, is_commit, kept, of_feeder}

-- only a batch raises the serial
commit_of : (v : Version) (w : What) (e : Entry) → SpeaksAs v w e → e.raises ≡ true → is_commit w ≡ true
commit_of v (what.Refused number why) e h r = absurd (true≢false (sym r ∙ h.1))
commit_of v (what.Commit []) e h r = absurd (true≢false (sym r ∙ h.1))
commit_of v (what.Commit (change ∷ changes)) e h r = refl
commit_of v what.Memory e h r = absurd (true≢false (sym r ∙ h.1))
commit_of v what.Empty e h r = absurd (true≢false (sym r ∙ h.1))
commit_of v (what.Lines lines) e h r = absurd (true≢false (sym r ∙ h.1))
commit_of v (what.Ask addr octets) e h r = absurd (true≢false (sym r ∙ h.1))
commit_of v what.Show e h r = absurd (true≢false (sym r ∙ h.1))
commit_of v (what.End end) e h r = absurd h

abbrev MayRaise : Entry → Type 0
MayRaise e = e.raises ≡ true → is_commit e.item.what ≡ true

abbrev EachMay : List Entry → Type 0
EachMay [] = Unit {0}
EachMay (e ∷ es) = MayRaise e × EachMay es

each_may : (log : List Entry) → ((i : ℕ) (e : Entry) → slice_get log i ≡ Some e → MayRaise e) → EachMay log
each_may [] f = tt
each_may (e ∷ es) f = (f zero e refl, each_may es (λ i. f (suc i)))

of_may : (k : ℕ) (log : List Entry) → EachMay log → EachMay (of_feeder k log)
of_may k [] h = tt
of_may k (e ∷ es) h = go (e.item.feeder == k) (of_may k es h.1)
  where
    go : (b : Bool) → EachMay (of_feeder k es) → EachMay (cond b (e ∷ of_feeder k es) (of_feeder k es))
    go true r = (h.0, r)
    go false r = r

abbrev whats : List Entry → List What
whats log = map (λ (e : Entry). e.item.what) log

given : (es : List Entry) → EachMay es → batches_of es ≡ kept (answers_of es) (commits_of (map (λ (e : Entry). e.item.what) es))
given [] h = refl
given (e ∷ es) h = go e.raises (changes_of e.item.what) h.0 (given es h.1)
  where
    go : (b : Bool) (o : Option (List Change)) → (b ≡ true → is_some o ≡ true) → batches_of es ≡ kept (answers_of es) (commits_of (map (λ (e : Entry). e.item.what) es))
        → cons_option (cond b o None) (batches_of es) ≡ kept (map (λ (e : Entry). e.raises) (cond (is_some o) (record { item = e.item; line = e.line; raises = b } ∷ filter (λ (e : Entry). is_commit e.item.what) es) (filter (λ (e : Entry). is_commit e.item.what) es))) (cons_option o (commits_of (map (λ (e : Entry). e.item.what) es)))
    go true (Some changes) may r = ap (λ xs. changes ∷ xs) r
    go true None may r = absurd (true≢false (sym (may refl)))
    go false (Some changes) may r = r
    go false None may r = r

-- what the entries of a feeder are
whats_are : (k : ℕ) (log : List Entry) → whats (of_feeder k log) ≡ sent_by k (map (λ (e : Entry). e.item) log)
whats_are k [] = refl
whats_are k (e ∷ es) = go (e.item.feeder == k) (whats_are k es)
  where
    items : List Item
    items = map (λ (f : Entry). f.item) es

    go : (b : Bool) → whats (of_feeder k es) ≡ sent_by k items → whats (cond b (e ∷ of_feeder k es) (of_feeder k es)) ≡ map (λ (x : Item). x.what) (cond b (e.item ∷ only k items) (only k items))
    go true r = ap (λ ws. e.item.what ∷ ws) r
    go false r = r

no_line : (w : What) → has_line w ≡ false → changes_of w ≡ None
no_line (what.Refused number why) h = cc
no_line (what.Commit changes) h = cc
no_line what.Memory h = cc
no_line what.Empty h = cc
no_line (what.Lines lines) h = cc
no_line (what.Ask addr octets) h = cc
no_line what.Show h = cc
no_line (what.End end) h = refl

-- an end is no batch
commits_are : (k : ℕ) (items : List Item) → commits_of (sent_by k (filter (λ (x : Item). has_line x.what) items)) ≡ commits_of (sent_by k items)
commits_are k [] = refl
commits_are k (x ∷ xs) = go (has_line x.what) (no_line x.what) (commits_are k xs)
  where
    lines : List Item
    lines = filter (λ (y : Item). has_line y.what) xs

    with_one : (b : Bool) → commits_of (sent_by k lines) ≡ commits_of (sent_by k xs) → commits_of (map (λ (y : Item). y.what) (cond b (x ∷ only k lines) (only k lines))) ≡ commits_of (map (λ (y : Item). y.what) (cond b (x ∷ only k xs) (only k xs)))
    with_one true r = ap (λ cs. cons_option (changes_of x.what) cs) r
    with_one false r = r

    without : (b : Bool) → changes_of x.what ≡ None → commits_of (sent_by k lines) ≡ commits_of (sent_by k xs) → commits_of (sent_by k lines) ≡ commits_of (map (λ (y : Item). y.what) (cond b (x ∷ only k xs) (only k xs)))
    without true none r = r ∙ sym (ap (λ o. cons_option o (commits_of (sent_by k xs))) none)
    without false none r = r

    go : (b : Bool) → (b ≡ false → changes_of x.what ≡ None) → commits_of (sent_by k lines) ≡ commits_of (sent_by k xs) → commits_of (sent_by k (cond b (x ∷ lines) lines)) ≡ commits_of (sent_by k (x ∷ xs))
    go true none r = with_one (x.feeder == k) r
    go false none r = without (x.feeder == k) (none refl) r

pub gives : (first : Version) (items : List Item) (log : List Entry) (vs : List Version) → IsMerged first items log vs → AreGiven items log
gives first items log vs h k =
    given (of_feeder k log) (of_may k log (each_may log (λ i e is. commit_of (newest_at first vs (raises_in (take i log))) e.item.what e (h.lines i e is))))
    ∙ ap (kept (answers_of (of_feeder k log))) (ap commits_of (whats_are k log ∙ ap (sent_by k) h.entries) ∙ commits_are k items)
