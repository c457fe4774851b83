-- Several feeds: how one of them ended, by the end of all, and what their items come to.
use Rattle.std.proofs.Common.{◌≡◌, ◌⊎◌, inl, inr, ℕ, zero, suc, ◌+◌, ◌<◌, ◌≤◌, ◌==◌, eq-eqb, Bool, true, false, cond, List, [], ◌∷◌, ◌++◌, length, map, refl, ap, sym, subst, ◌∙◌, arith}
use Rattle.std.specs.Prelude.{Option, Some, ◌||◌, if◌then◌else◌}
use Rattle.std.specs.List.{filter, list_any}
use Rattle.std.proofs.lemmas.List.{map-append}
use Rattle.outside.specs.Faults.{BothTell, DeviceState}
use Rattle.outside.specs.Source.{Fed}
use Rattle.topology_text.specs.Plan.{Plan}
use Rattle.demand_feed.specs.declared.run.FeedEnd.{FeedEnd}
use Rattle.demand_feed.specs.declared.run.FeedEnd.TheVariants as ends
use Rattle.demand_feed.specs.declared.sent.Item.{Item}
use Rattle.demand_feed.specs.declared.sent.What.{What}
use Rattle.demand_feed.specs.declared.sent.What.TheVariants as what
use Rattle.feed_queue.specs.Feeder.{HasSent, IsSentOf}
use Rattle.feed_queue.specs.Items.{sent_by}
use Rattle.feed_queue.specs.Whole.{EndsLast, is_end}
use Rattle.feed_queue.proofs.Wholes.{runs_end_last}
use Rattle.mapper.specs.Control.{Course}
use Rattle.mapper.specs.Feeds.{AllWorked, first_end, has_one, is_spent_end, is_source_fault, is_no_memory}
use Rattle.mapper.specs.Feeding.{IsFeed}
use Rattle.mapper.specs.Items.{AllWork, WorksAs}
use Rattle.mapper.specs.Scenes.{Scene}
use Rattle.mapper.specs.Words.{map_text}
use Rattle.demand_feed.specs.Runs.{HasRead}
use Rattle.drive.specs.Feeds.{AreFed, AreFedTogether, AreSent}
use Rattle.glb.specs.Causes.{AnyFeed, HasGiven, HasFeedGiven}
use Rattle.glb.proofs.Loads.{tell_weaker}

same_number : (n : ℕ) → (n == n) ≡ true
same_number n = eq-eqb n n refl

-- where some item is such, so is one of what some feeder sent
one_sent : (test : What → Bool) (items : List Item) → has_one test items ≡ true → (k : ℕ) × (list_any test (sent_by k items) ≡ true)
one_sent test [] h = absurd (cc)
one_sent test (x ∷ xs) h = go (test x.what) refl (one_sent test xs)
  where
    first : (b : Bool) → (x.feeder == x.feeder) ≡ b → b ≡ true → test x.what ≡ true → list_any test (map (λ (y : Item). y.what) (cond b (x ∷ filter (λ (y : Item). y.feeder == x.feeder) xs) (filter (λ (y : Item). y.feeder == x.feeder) xs))) ≡ true
    first true is t e = ap (λ (b : Bool). b || list_any test (map (λ (y : Item). y.what) (filter (λ (y : Item). y.feeder == x.feeder) xs))) e
    first false is t e = absurd (cc)

    behind : (k : ℕ) (b : Bool) → list_any test (sent_by k xs) ≡ true → list_any test (map (λ (y : Item). y.what) (cond b (x ∷ filter (λ (y : Item). y.feeder == k) xs) (filter (λ (y : Item). y.feeder == k) xs))) ≡ true
    behind k true e = either (test x.what) e
      where
        either : (c : Bool) → list_any test (sent_by k xs) ≡ true → (c || list_any test (sent_by k xs)) ≡ true
        either true e = refl
        either false e = e
    behind k false e = e

    go : (b : Bool) → test x.what ≡ b → (has_one test xs ≡ true → (k : ℕ) × (list_any test (sent_by k xs) ≡ true)) → (k : ℕ) × (list_any test (sent_by k (x ∷ xs)) ≡ true)
    go true is others = (x.feeder, first (x.feeder == x.feeder) refl (same_number x.feeder) is)
    go false is others =
        let rest : has_one test xs ≡ true = subst (λ (b : Bool). (b || has_one test xs) ≡ true) is h in
        let more = others rest in
        (more.0, behind more.0 (x.feeder == more.0) more.1)

-- where ends alone are such, and an end is last alone, the last one is such
last_is : (test : What → Bool) (ahead : List What) (last : What) → ((w : What) → test w ≡ true → is_end w ≡ true) → EndsLast (ahead ++ last ∷ []) → list_any test (ahead ++ last ∷ []) ≡ true → test last ≡ true
last_is test [] last ends h some = only (test last) some
  where
    only : (b : Bool) → (b || false) ≡ true → b ≡ true
    only true e = refl
    only false e = e
last_is test (w ∷ []) last ends h some = last_is test [] last ends h.1 (behind (test w) refl some)
  where
    behind : (b : Bool) → test w ≡ b → (b || list_any test (last ∷ [])) ≡ true → list_any test (last ∷ []) ≡ true
    behind true is e = let end = ends w is in let other = h.0 in absurd (cc)
    behind false is e = e
last_is test (w ∷ v ∷ ahead) last ends h some = last_is test (v ∷ ahead) last ends h.1 (behind (test w) refl some)
  where
    behind : (b : Bool) → test w ≡ b → (b || list_any test (v ∷ ahead ++ last ∷ [])) ≡ true → list_any test (v ∷ ahead ++ last ∷ []) ≡ true
    behind true is e = let end = ends w is in let other = h.0 in absurd (cc)
    behind false is e = e

spent_ends : (w : What) → is_spent_end w ≡ true → is_end w ≡ true
spent_ends (what.End end) h = refl
spent_ends (what.Commit changes) h = absurd (cc)
spent_ends what.Empty h = absurd (cc)
spent_ends (what.Lines lines) h = absurd (cc)
spent_ends what.Memory h = absurd (cc)
spent_ends (what.Ask addr octets) h = absurd (cc)
spent_ends what.Show h = absurd (cc)
spent_ends (what.Refused number why) h = absurd (cc)

is_that : (end : FeedEnd) → is_spent_end (what.End end) ≡ true → end ≡ ends.Spent
is_that ends.Spent h = refl
is_that ends.Ended h = absurd (cc)
is_that ends.SourceFault h = absurd (cc)
is_that ends.SinkFault h = absurd (cc)
is_that ends.NoMemory h = absurd (cc)

-- a feed that was read was opened under no further name meanwhile
read_meanwhile : (pieces : List (List ℕ)) (x y : Option Fed) → BothTell x y (HasRead pieces) → BothTell x y (λ b c. HasRead pieces (record b { names = c.names }) c)
read_meanwhile pieces x y h = tell_weaker (HasRead pieces) (λ b c. HasRead pieces (record b { names = c.names }) c) x y
    (λ b c r. record { left = r.left; given = r.given; shortest = r.shortest; sizes = r.sizes; names = refl }) h

-- a feed whose feeder sent that its turns were taken gave as many pieces
spent_given : (t : Plan) (turns : ℕ) (fed fed' : Option Fed) (sent : List What) → HasSent t turns fed fed' sent → list_any is_spent_end sent ≡ true → HasGiven turns fed fed'
spent_given t turns fed fed' sent h some = go (unfold HasSent in h)
  where
    go : ((end : FeedEnd) × IsSentOf t turns end fed fed' sent) ⊎ ((sent ≡ what.End ends.NoMemory ∷ []) × (fed' ≡ fed)) → HasGiven turns fed fed'
    go (inl (end, s)) =
        let last : EndsLast (s.whats ++ what.End end ∷ []) = subst EndsLast s.sent_is (runs_end_last t turns fed fed' sent h) in
        let is : end ≡ ends.Spent = is_that end (last_is is_spent_end s.whats (what.End end) spent_ends last (subst (λ (ws : List What). list_any is_spent_end ws ≡ true) s.sent_is some)) in
        given end is s
      where
        given : (e : FeedEnd) → e ≡ ends.Spent → IsSentOf t turns e fed fed' sent → HasGiven turns fed fed'
        given ends.Spent is r = (r.run.0, read_meanwhile r.run.0 fed fed' r.run.1, r.run.2.0, r.run.2.1)
        given ends.Ended is r = absurd (cc)
        given ends.SourceFault is r = absurd (cc)
        given ends.SinkFault is r = absurd (cc)
        given ends.NoMemory is r = absurd (cc)
    go (inr (is, same)) = let some' : list_any is_spent_end (what.End ends.NoMemory ∷ []) ≡ true = subst (λ (ws : List What). list_any is_spent_end ws ≡ true) is some in absurd (cc)

-- one of these feeds gave as many pieces as there are turns
any_gave : (t : Plan) (turns n k : ℕ) (sent : ℕ → List What) (before after : List (DeviceState Fed)) → AreSent t turns n sent before after → k < length before → list_any is_spent_end (sent (n + k)) ≡ true → AnyFeed (length before) (HasFeedGiven turns) before after
any_gave t turns n k sent [] after h lt some = absurd (omega (arith, lt))
any_gave t turns n zero sent (b ∷ before) (c ∷ after) h lt some = inl (spent_given t turns b.past c.past (sent n) h.0 (subst (λ (i : ℕ). list_any is_spent_end (sent i) ≡ true) (omega arith) some))
any_gave t turns n (suc k) sent (b ∷ before) (c ∷ after) h lt some = inr (any_gave t turns (n + 1) k sent before after h.1 (omega (arith, lt)) (subst (λ (i : ℕ). list_any is_spent_end (sent i) ≡ true) (omega arith) some))
any_gave t turns n k sent (b ∷ before) [] h lt some = absurd h

-- the first end is that of turns only where one of them is
first_spent : (items : List Item) → ends.Spent ≡ first_end items → has_one is_spent_end items ≡ true
first_spent items h = go (has_one is_source_fault items) (has_one is_spent_end items) (has_one is_no_memory items) h
  where
    go : (a b c : Bool) → ends.Spent ≡ (if a then ends.SourceFault else if b then ends.Spent else if c then ends.NoMemory else ends.Ended) → b ≡ true
    go true b c h = absurd (cc)
    go false true c h = refl
    go false false true h = absurd (cc)
    go false false false h = absurd (cc)

-- a number is below another or not
among : (k n : ℕ) → (k < n) ⊎ (n ≤ k)
among k zero = inr (omega arith)
among zero (suc n) = inl (omega arith)
among (suc k) (suc n) = elim (among k n) [ inl h ↦ inl (omega (arith, h)) | inr h ↦ inr (omega (arith, h)) ]

-- several feeds of which one took all its turns
together_gave : (t : Plan) (turns : ℕ) (end : FeedEnd) (feed feed' : DeviceState Fed) (more after : List (DeviceState Fed)) (start stop : Scene) → end ≡ ends.Spent → AreFedTogether t turns end feed feed' more after start stop → AnyFeed (length (feed ∷ more)) (HasFeedGiven turns) (feed ∷ more) (feed' ∷ after)
together_gave t turns end feed feed' more after start stop is f = go (elim f.run.ended [ inl h ↦ sym is ∙ h.0 | inr h ↦ let clash : ends.Spent ≡ ends.SinkFault = sym is ∙ h.0 in absurd (cc) ])
  where
    go : ends.Spent ≡ first_end f.items → AnyFeed (length (feed ∷ more)) (HasFeedGiven turns) (feed ∷ more) (feed' ∷ after)
    go h =
        let one = one_sent is_spent_end f.items (first_spent f.items h) in
        by_number one.0 one.1
      where
        by_number : (k : ℕ) → list_any is_spent_end (sent_by k f.items) ≡ true → AnyFeed (length (feed ∷ more)) (HasFeedGiven turns) (feed ∷ more) (feed' ∷ after)
        by_number k some = elim (among k (length (feed ∷ more))) [
          | inl lt ↦ any_gave t turns 0 k f.sent (feed ∷ more) (feed' ∷ after) f.feeds lt (subst (λ (i : ℕ). list_any is_spent_end (f.sent i) ≡ true) (omega arith) (subst (λ (ws : List What). list_any is_spent_end ws ≡ true) (f.whole k lt) some))
          | inr ge ↦ let none : list_any is_spent_end [] ≡ true = subst (λ (ws : List What). list_any is_spent_end ws ≡ true) (f.others k ge) some in absurd (cc)
        ]

-- what a run by items puts on the maps
works_texts : (mark : Option ℕ) (w : What) (c d : Course) → c.maps ≡ map map_text c.versions → WorksAs mark w c d → d.maps ≡ map map_text d.versions
works_texts mark (what.Refused number why) c d texts h = rw h texts
works_texts mark (what.Commit []) c d texts h = rw h texts
works_texts mark (what.Commit (change ∷ changes)) c d texts (inl h) = rw h.2 (ap (λ ts. ts ++ map_text h.0 ∷ []) texts ∙ sym (map-append map_text c.versions (h.0 ∷ [])))
works_texts mark (what.Commit (change ∷ changes)) c d texts (inr h) = rw h texts
works_texts mark what.Memory c d texts h = rw h texts
works_texts mark what.Empty c d texts h = rw h texts
works_texts mark (what.Lines lines) c d texts h = rw h texts
works_texts mark (what.Ask addr octets) c d texts h = rw h texts
works_texts mark what.Show c d texts h = rw h texts
works_texts mark (what.End end) c d texts h = rw h texts

pub all_work_texts : (items : List Item) (c d : Course) → c.maps ≡ map map_text c.versions → AllWork items c d → d.maps ≡ map map_text d.versions
all_work_texts [] c d texts h = rw h texts
all_work_texts (x ∷ xs) c d texts h = all_work_texts xs h.0 d (works_texts (Some x.feeder) x.what c h.0 texts h.1) h.2

-- what came of several feeds that ended
pub together_worked : (t : Plan) (turns : ℕ) (feed feed' : DeviceState Fed) (more after : List (DeviceState Fed)) (start stop : Scene) → (f : AreFedTogether t turns ends.Ended feed feed' more after start stop) → AllWorked f.items start (record stop { pace = f.run.calls })
together_worked t turns feed feed' more after start stop f = elim f.run.ended [ inl h ↦ h.1 | inr h ↦ let clash = h.0 in absurd (cc) ]

-- what a run over a feed gave that was spent
given_of : (t : Plan) (turns : ℕ) (end : FeedEnd) (fed fed' : Option Fed) (before after : Scene) → end ≡ ends.Spent → IsFeed t turns end fed fed' before after → HasGiven turns fed fed'
given_of t turns ends.Spent fed fed' before after is f = (f.run.0, read_meanwhile f.run.0 fed fed' f.run.1, f.run.2.0, f.run.2.1)
given_of t turns ends.Ended fed fed' before after is f = absurd (cc)
given_of t turns ends.SourceFault fed fed' before after is f = absurd (cc)
given_of t turns ends.SinkFault fed fed' before after is f = absurd (cc)
given_of t turns ends.NoMemory fed fed' before after is f = absurd (cc)

-- where turns were spent, a feed took them
pub fed_given : (t : Plan) (turns : ℕ) (end : FeedEnd) (feed feed' : DeviceState Fed) (more after : List (DeviceState Fed)) (start stop : Scene) → end ≡ ends.Spent
    → AreFed t turns end feed more feed' after start stop → HasFeedGiven turns feed feed' ⊎ AnyFeed (length more) (HasFeedGiven turns) more after
fed_given t turns end feed feed' [] after start stop is h = inl (given_of t turns end feed.past feed'.past start stop is h.0)
fed_given t turns end feed feed' (m ∷ more) after start stop is h = together_gave t turns end feed feed' (m ∷ more) after start stop is h
