-- Several feeds: what their feeders sent was worked, all of it, and what the end of a run says of each of them.
use Rattle.std.proofs.Common.{◌≡◌, ◌≢◌, ◌⊎◌, inl, inr, ℕ, zero, suc, ◌+◌, ◌<◌, ◌≤◌, ◌==◌, ◌||◌, Bool, true, false, true≢false, if◌then◌else◌, cond, List, [], ◌∷◌, ◌++◌, All, map, length, eq-eqb, refl, ap, sym, subst, ◌∙◌, append_assoc, arith}
use Rattle.std.proofs.lemmas.Bool.{cases_lt}
use Rattle.std.specs.List.{list_any, range_with_len}
use Rattle.std.proofs.lemmas.List.{length-map}
use mathlib.Core.List.{IsPrefix}
use Rattle.atomic_table.specs.Seated.{TableId}
use Rattle.outside.specs.Faults.{DeviceState, Rose}
use Rattle.outside.specs.Source.{Fed}
use Rattle.topology_text.specs.Plan.{Plan}
use Rattle.demand_feed.specs.declared.run.FeedEnd.{FeedEnd}
use Rattle.demand_feed.specs.declared.run.FeedEnd.TheVariants as ends
use Rattle.demand_feed.specs.declared.sent.Item.{Item}
use Rattle.demand_feed.specs.declared.sent.What.{What}
use Rattle.demand_feed.specs.declared.sent.What.TheVariants as what
use Rattle.feed_queue.specs.Ends.{FeederState, TakerState, fresh_feeder, with_item}
use Rattle.feed_queue.specs.Feeder.{EndsWith, HasSent}
use Rattle.feed_queue.specs.Items.{AreTaken, only, sent_by}
use Rattle.feed_queue.specs.Whole.{EndsLast, ends_in, is_end}
use Rattle.feed_queue.proofs.Sendings.{has_sent_none}
use Rattle.feed_queue.proofs.Wholes.{all_is_taken, runs_end_last}
use Rattle.mapper.specs.Feeds.{AreFeeds, HasMerged, HaveEnded, first_end, has_one, is_no_memory, is_source_fault, is_spent_end}
use Rattle.mapper.specs.Scenes.{Scene}
use Rattle.drive.specs.All.{AllRan}
use Rattle.drive.specs.Feeds.{AllStand, AnyRose, AreFed, AreFedTogether, AreSent, AreTied, NoneFell}
use Rattle.drive.specs.Read.{IsRead}

-- what the feeder at that place sent
abbrev pub sent_at : List FeederState → ℕ → List What
sent_at [] k = []
sent_at (g ∷ gs) zero = g.sent
sent_at (g ∷ gs) (suc k) = sent_at gs k

-- feeders by their numbers, from k on
abbrev pub AreNumbered : ℕ → List FeederState → Type 0
AreNumbered k [] = Unit {0}
AreNumbered k (g ∷ gs) = (g.feeder ≡ k) × AreNumbered (k + 1) gs

-- of each a beginning of what it sent was taken, and it sent its end last
abbrev pub AreBegun : List Item → List FeederState → Type 0
AreBegun taken [] = Unit {0}
AreBegun taken (g ∷ gs) = (IsPrefix (sent_by g.feeder taken) g.sent × EndsLast g.sent) × AreBegun taken gs

-- how feeds were read
abbrev pub Reads : {T : Type 0} → Plan → ℕ → (T → DeviceState Fed) → T → T → FeederState → FeederState → Type 0
Reads t turns told x y f g = IsRead t turns (told x) (told y) f g

abbrev pub tells : {T : Type 0} → (T → DeviceState Fed) → List T → List (DeviceState Fed)
tells told xs = map told xs

-- a feed that was given up: nothing was read of it, and its feeder sent this end alone
pub given_up : (t : Plan) (turns : ℕ) (feed : DeviceState Fed) (f g : FeederState) → f.sent ≡ [] → g ≡ with_item f (what.End ends.NoMemory) → IsRead t turns feed feed f g
given_up t turns feed f g unused is =
    let sent : g.sent ≡ what.End ends.NoMemory ∷ [] = ap (λ (s : FeederState). s.sent) is ∙ ap (λ (ws : List What). ws ++ what.End ends.NoMemory ∷ []) unused in record {
      same = (ap (λ (s : FeederState). s.queue) is, ap (λ (s : FeederState). s.feeder) is);
      sent = has_sent_none t turns feed.past g.sent sent;
      source = λ e. absurd (no_fault e.0 (sym sent ∙ e.1));
      later = omega arith;
      stays = λ none. refl;
    }
  where
    no_fault : (ahead : List What) → what.End ends.NoMemory ∷ [] ≡ ahead ++ what.End ends.SourceFault ∷ [] → ⊥
    no_fault [] e = cc
    no_fault (w ∷ []) e = cc
    no_fault (w ∷ v ∷ ws) e = cc

all_cons : {A : Type 0} (P : A → Type 0) (x : A) (xs : List A) → P x → All P xs → All P (x ∷ xs)
all_cons P x xs p q zero d l = p
all_cons P x xs p q (suc k) d l = q k d (omega (arith, l))

-- none of a queue's feeders has sent anything
pub fresh_all : (queue : TableId) (k n : ℕ) → All (λ (f : FeederState). f.sent ≡ []) (map (fresh_feeder queue) (range_with_len k n))
fresh_all queue k zero = λ i d l. absurd (omega (arith, l))
fresh_all queue k (suc n) = all_cons (λ (f : FeederState). f.sent ≡ []) (fresh_feeder queue k) (map (fresh_feeder queue) (range_with_len (k + 1) n)) refl (fresh_all queue (k + 1) n)

module _ {T : Type 0} (t : Plan) (turns : ℕ) (told : T → DeviceState Fed) where
  -- each has its number
  pub numbered : (queue : TableId) (k n : ℕ) (xs ys : List T) (fs gs : List FeederState) → fs ≡ map (fresh_feeder queue) (range_with_len k n) → AllRan (Reads t turns told) xs ys fs gs → AreNumbered k gs
  numbered queue k zero xs ys [] [] e r = tt
  numbered queue k zero xs ys [] (g ∷ gs) e r = none xs ys r
    where
      none : (xs ys : List T) → AllRan (Reads t turns told) xs ys [] (g ∷ gs) → AreNumbered k (g ∷ gs)
      none [] [] r = absurd r
      none [] (y ∷ ys) r = absurd r
      none (x ∷ xs) [] r = absurd r
      none (x ∷ xs) (y ∷ ys) r = absurd r
  numbered queue k zero xs ys (f ∷ fs) gs e r = absurd cc
  numbered queue k (suc n) xs ys [] gs e r = absurd cc
  numbered queue k (suc n) [] [] (f ∷ fs) gs e r = absurd r
  numbered queue k (suc n) [] (y ∷ ys) (f ∷ fs) gs e r = absurd r
  numbered queue k (suc n) (x ∷ xs) [] (f ∷ fs) gs e r = absurd r
  numbered queue k (suc n) (x ∷ xs) (y ∷ ys) (f ∷ fs) [] e r = absurd r
  numbered queue k (suc n) (x ∷ xs) (y ∷ ys) (f ∷ fs) (g ∷ gs) e r =
      let first : f ≡ fresh_feeder queue k = cc e in
      let rest : fs ≡ map (fresh_feeder queue) (range_with_len (k + 1) n) = cc e in
      (r.0.same.1 ∙ ap (λ (s : FeederState). s.feeder) first, numbered queue (k + 1) n xs ys fs gs rest r.1)

  -- they are of one queue
  pub queues : (queue : TableId) (k n : ℕ) (xs ys : List T) (fs gs : List FeederState) → fs ≡ map (fresh_feeder queue) (range_with_len k n) → AllRan (Reads t turns told) xs ys fs gs → All (λ (g : FeederState). g.queue ≡ queue) gs
  queues queue k n xs ys [] [] e r = λ i d l. absurd (omega (arith, l))
  queues queue k n [] [] [] (g ∷ gs) e r = absurd r
  queues queue k n [] (y ∷ ys) [] (g ∷ gs) e r = absurd r
  queues queue k n (x ∷ xs) [] [] (g ∷ gs) e r = absurd r
  queues queue k n (x ∷ xs) (y ∷ ys) [] (g ∷ gs) e r = absurd r
  queues queue k zero xs ys (f ∷ fs) gs e r = absurd cc
  queues queue k (suc n) [] [] (f ∷ fs) gs e r = absurd r
  queues queue k (suc n) [] (y ∷ ys) (f ∷ fs) gs e r = absurd r
  queues queue k (suc n) (x ∷ xs) [] (f ∷ fs) gs e r = absurd r
  queues queue k (suc n) (x ∷ xs) (y ∷ ys) (f ∷ fs) [] e r = absurd r
  queues queue k (suc n) (x ∷ xs) (y ∷ ys) (f ∷ fs) (g ∷ gs) e r =
      let first : f ≡ fresh_feeder queue k = cc e in
      let rest : fs ≡ map (fresh_feeder queue) (range_with_len (k + 1) n) = cc e in
      all_cons (λ (x : FeederState). x.queue ≡ queue) g gs (r.0.same.0 ∙ ap (λ (s : FeederState). s.queue) first) (queues queue (k + 1) n xs ys fs gs rest r.1)

  -- what each sent is told of it by its number
  pub all_sent : (k : ℕ) (sent : ℕ → List What) (xs ys : List T) (fs gs : List FeederState) → ((i : ℕ) → sent (k + i) ≡ sent_at gs i) → AllRan (Reads t turns told) xs ys fs gs → AreSent t turns k sent (tells told xs) (tells told ys)
  all_sent k sent [] [] [] [] same r = tt
  all_sent k sent [] [] [] (g ∷ gs) same r = absurd r
  all_sent k sent [] [] (f ∷ fs) gs same r = absurd r
  all_sent k sent [] (y ∷ ys) fs gs same r = absurd r
  all_sent k sent (x ∷ xs) [] fs gs same r = absurd r
  all_sent k sent (x ∷ xs) (y ∷ ys) [] gs same r = absurd r
  all_sent k sent (x ∷ xs) (y ∷ ys) (f ∷ fs) [] same r = absurd r
  all_sent k sent (x ∷ xs) (y ∷ ys) (f ∷ fs) (g ∷ gs) same r =
      let here : k ≡ k + 0 = omega arith in
      let first : sent k ≡ g.sent = ap sent here ∙ same 0 in (
        subst (λ (ws : List What). HasSent t turns (told x).past (told y).past ws) (sym first) r.0.sent,
        all_sent (k + 1) sent xs ys fs gs (λ i. let n : k + 1 + i ≡ k + suc i = omega arith in ap sent n ∙ same (suc i)) r.1,
      )

  -- of each a beginning was taken
  pub all_begun : (taken : List Item) (xs ys : List T) (fs gs : List FeederState) → All (λ (g : FeederState). IsPrefix (sent_by g.feeder taken) g.sent) gs → AllRan (Reads t turns told) xs ys fs gs → AreBegun taken gs
  all_begun taken [] [] [] [] begun r = tt
  all_begun taken [] [] [] (g ∷ gs) begun r = absurd r
  all_begun taken [] [] (f ∷ fs) gs begun r = absurd r
  all_begun taken [] (y ∷ ys) fs gs begun r = absurd r
  all_begun taken (x ∷ xs) [] fs gs begun r = absurd r
  all_begun taken (x ∷ xs) (y ∷ ys) [] gs begun r = absurd r
  all_begun taken (x ∷ xs) (y ∷ ys) (f ∷ fs) [] begun r = absurd r
  all_begun taken (x ∷ xs) (y ∷ ys) (f ∷ fs) (g ∷ gs) begun r =
      ((begun 0 g (omega arith), runs_end_last t turns (told x).past (told y).past g.sent r.0.sent), all_begun taken xs ys fs gs (λ k d l. begun (suc k) d (omega (arith, l))) r.1)

  -- no count fell
  pub none_fell : (xs ys : List T) (fs gs : List FeederState) → AllRan (Reads t turns told) xs ys fs gs → NoneFell (tells told xs) (tells told ys)
  none_fell [] [] fs gs r = refl
  none_fell [] (y ∷ ys) fs gs r = absurd r
  none_fell (x ∷ xs) [] fs gs r = absurd r
  none_fell (x ∷ xs) (y ∷ ys) [] gs r = absurd r
  none_fell (x ∷ xs) (y ∷ ys) (f ∷ fs) [] r = absurd r
  none_fell (x ∷ xs) (y ∷ ys) (f ∷ fs) (g ∷ gs) r = (r.0.later, none_fell xs ys fs gs r.1)

  -- each end that is a fault of its source is tied to its own count
  pub all_tied : (k : ℕ) (sent : ℕ → List What) (xs ys : List T) (fs gs : List FeederState) → ((i : ℕ) → sent (k + i) ≡ sent_at gs i) → AllRan (Reads t turns told) xs ys fs gs → AreTied k sent (tells told xs) (tells told ys)
  all_tied k sent [] [] fs gs same r = refl
  all_tied k sent [] (y ∷ ys) fs gs same r = absurd r
  all_tied k sent (x ∷ xs) [] fs gs same r = absurd r
  all_tied k sent (x ∷ xs) (y ∷ ys) [] gs same r = absurd r
  all_tied k sent (x ∷ xs) (y ∷ ys) (f ∷ fs) [] same r = absurd r
  all_tied k sent (x ∷ xs) (y ∷ ys) (f ∷ fs) (g ∷ gs) same r =
      let here : k ≡ k + 0 = omega arith in
      let first : sent k ≡ g.sent = ap sent here ∙ same 0 in (
        record {
          rose = λ e. r.0.source (subst (λ (ws : List What). EndsWith ws ends.SourceFault) first e);
          stays = λ none. r.0.stays (λ e. none (subst (λ (ws : List What). EndsWith ws ends.SourceFault) (sym first) e));
        },
        all_tied (k + 1) sent xs ys fs gs (λ i. let n : k + 1 + i ≡ k + suc i = omega arith in ap sent n ∙ same (suc i)) r.1,
      )

  -- each feed has its feeder
  pub lengths : (xs ys : List T) (fs gs : List FeederState) → AllRan (Reads t turns told) xs ys fs gs → length gs ≡ length xs
  lengths [] [] [] [] r = refl
  lengths [] [] [] (g ∷ gs) r = absurd r
  lengths [] [] (f ∷ fs) gs r = absurd r
  lengths [] (y ∷ ys) fs gs r = absurd r
  lengths (x ∷ xs) [] fs gs r = absurd r
  lengths (x ∷ xs) (y ∷ ys) [] gs r = absurd r
  lengths (x ∷ xs) (y ∷ ys) (f ∷ fs) [] r = absurd r
  lengths (x ∷ xs) (y ∷ ys) (f ∷ fs) (g ∷ gs) r = ap suc (lengths xs ys fs gs r.1)

  -- a feed whose feeder's end was a fault of its source
  pub any_rose : (xs ys : List T) (fs gs : List FeederState) (k : ℕ) → EndsWith (sent_at gs k) ends.SourceFault → AllRan (Reads t turns told) xs ys fs gs → AnyRose (tells told xs) (tells told ys)
  any_rose [] [] [] [] k e r = absurd (nothing e.0 e.1)
    where
      nothing : (ahead : List What) → [] ≡ ahead ++ what.End ends.SourceFault ∷ [] → ⊥
      nothing [] e = cc
      nothing (w ∷ ws) e = cc
  any_rose [] [] [] (g ∷ gs) k e r = absurd r
  any_rose [] [] (f ∷ fs) gs k e r = absurd r
  any_rose [] (y ∷ ys) fs gs k e r = absurd r
  any_rose (x ∷ xs) [] fs gs k e r = absurd r
  any_rose (x ∷ xs) (y ∷ ys) [] gs k e r = absurd r
  any_rose (x ∷ xs) (y ∷ ys) (f ∷ fs) [] k e r = absurd r
  any_rose (x ∷ xs) (y ∷ ys) (f ∷ fs) (g ∷ gs) zero e r = inl (r.0.source e)
  any_rose (x ∷ xs) (y ∷ ys) (f ∷ fs) (g ∷ gs) (suc k) e r = inr (any_rose xs ys fs gs k e r.1)

  -- none of them has ended so
  pub all_stand : (xs ys : List T) (fs gs : List FeederState) → ((k : ℕ) → ¬ EndsWith (sent_at gs k) ends.SourceFault) → AllRan (Reads t turns told) xs ys fs gs → AllStand (tells told xs) (tells told ys)
  all_stand [] [] fs gs none r = refl
  all_stand [] (y ∷ ys) fs gs none r = absurd r
  all_stand (x ∷ xs) [] fs gs none r = absurd r
  all_stand (x ∷ xs) (y ∷ ys) [] gs none r = absurd r
  all_stand (x ∷ xs) (y ∷ ys) (f ∷ fs) [] none r = absurd r
  all_stand (x ∷ xs) (y ∷ ys) (f ∷ fs) (g ∷ gs) none r =
      let first : (told y).faults ≡ (told x).faults = r.0.stays (none 0) in
      let rest = all_stand xs ys fs gs (λ k. none (suc k)) r.1 in
      cc (first, rest)

-- of the feeder at a place, by its number
place : (taken : List Item) (k : ℕ) (gs : List FeederState) → AreNumbered k gs → AreBegun taken gs → (i : ℕ) → i < length gs → IsPrefix (sent_by (k + i) taken) (sent_at gs i) × EndsLast (sent_at gs i)
place taken k [] n b i l = absurd (omega (arith, l))
place taken k (g ∷ gs) n b zero l =
    let is : g.feeder ≡ k + 0 = n.0 ∙ omega arith in
    (subst (λ (j : ℕ). IsPrefix (sent_by j taken) g.sent) is b.0.0, b.0.1)
place taken k (g ∷ gs) n b (suc i) l =
    let r = place taken (k + 1) gs n.1 b.1 i (omega (arith, l)) in
    let is : k + 1 + i ≡ k + suc i = omega arith in
    (subst (λ (j : ℕ). IsPrefix (sent_by j taken) (sent_at gs i)) is r.0, r.1)

-- all that feeders sent was taken
pub all_whole : (groups nodes : ℕ) (taken : List Item) (gs : List FeederState) → AreTaken groups nodes (length gs) taken → AreNumbered 0 gs → AreBegun taken gs → ends_in taken ≡ length gs → (k : ℕ) → k < length gs → sent_by k taken ≡ sent_at gs k
all_whole groups nodes taken gs are n b all = all_is_taken groups nodes (length gs) taken (sent_at gs) are (λ k l. let r = place taken 0 gs n b k l in let z : 0 + k ≡ k = omega arith in (subst (λ (j : ℕ). IsPrefix (sent_by j taken) (sent_at gs k)) z r.0, r.1)) all

-- a fault of a source among what was sent
abbrev pub has_fault : List What → Bool
has_fault ws = list_any is_source_fault ws

or_left : (a b : Bool) → a ≡ true → a || b ≡ true
or_left true b e = refl
or_left false b e = absurd (true≢false (sym e))

or_right : (a b : Bool) → b ≡ true → a || b ≡ true
or_right true b e = refl
or_right false b e = e

or_one : (a b : Bool) → a || b ≡ true → (a ≡ true) ⊎ (b ≡ true)
or_one true b e = inl refl
or_one false b e = inr e

is_fault : (w : What) → is_source_fault w ≡ true → w ≡ what.End ends.SourceFault
is_fault (what.Refused number why) e = absurd (true≢false (sym e))
is_fault (what.Commit changes) e = absurd (true≢false (sym e))
is_fault what.Memory e = absurd (true≢false (sym e))
is_fault what.Empty e = absurd (true≢false (sym e))
is_fault (what.Lines lines) e = absurd (true≢false (sym e))
is_fault (what.Ask addr octets) e = absurd (true≢false (sym e))
is_fault what.Show e = absurd (true≢false (sym e))
is_fault (what.End ends.Ended) e = absurd (true≢false (sym e))
is_fault (what.End ends.SourceFault) e = refl
is_fault (what.End ends.SinkFault) e = absurd (true≢false (sym e))
is_fault (what.End ends.Spent) e = absurd (true≢false (sym e))
is_fault (what.End ends.NoMemory) e = absurd (true≢false (sym e))

-- among those of one feeder it is among all
any_in : (k : ℕ) (items : List Item) → has_fault (sent_by k items) ≡ true → has_one is_source_fault items ≡ true
any_in k [] e = e
any_in k (x ∷ xs) e = go (any_in k xs) (x.feeder == k) e
  where
    first : (has_fault (sent_by k xs) ≡ true → has_one is_source_fault xs ≡ true) → (is_source_fault x.what ≡ true) ⊎ (has_fault (sent_by k xs) ≡ true) → has_one is_source_fault (x ∷ xs) ≡ true
    first rest (inl h) = or_left (is_source_fault x.what) (has_one is_source_fault xs) h
    first rest (inr h) = or_right (is_source_fault x.what) (has_one is_source_fault xs) (rest h)

    go : (has_fault (sent_by k xs) ≡ true → has_one is_source_fault xs ≡ true) → (b : Bool) → has_fault (map (λ (y : Item). y.what) (cond b (x ∷ only k xs) (only k xs))) ≡ true → has_one is_source_fault (x ∷ xs) ≡ true
    go rest true h = first rest (or_one (is_source_fault x.what) (has_fault (sent_by k xs)) h)
    go rest false h = or_right (is_source_fault x.what) (has_one is_source_fault xs) (rest h)

-- among all it is among those of some feeder
one_in : (items : List Item) → has_one is_source_fault items ≡ true → (k : ℕ) × (has_fault (sent_by k items) ≡ true)
one_in [] e = absurd (true≢false (sym e))
one_in (x ∷ xs) e = pick (one_in xs) (or_one (is_source_fault x.what) (has_one is_source_fault xs) e)
  where
    here : (b : Bool) → b ≡ true → is_source_fault x.what ≡ true → has_fault (map (λ (y : Item). y.what) (cond b (x ∷ only x.feeder xs) (only x.feeder xs))) ≡ true
    here true same h = or_left (is_source_fault x.what) (has_fault (sent_by x.feeder xs)) h
    here false same h = absurd (true≢false (sym same))

    later : (k : ℕ) (b : Bool) → has_fault (sent_by k xs) ≡ true → has_fault (map (λ (y : Item). y.what) (cond b (x ∷ only k xs) (only k xs))) ≡ true
    later k true h = or_right (is_source_fault x.what) (has_fault (sent_by k xs)) h
    later k false h = h

    pick : (has_one is_source_fault xs ≡ true → (k : ℕ) × (has_fault (sent_by k xs) ≡ true)) → (is_source_fault x.what ≡ true) ⊎ (has_one is_source_fault xs ≡ true) → (k : ℕ) × (has_fault (sent_by k (x ∷ xs)) ≡ true)
    pick rest (inl h) = (x.feeder, here (x.feeder == x.feeder) (eq-eqb x.feeder x.feeder refl) h)
    pick rest (inr h) = let r = rest h in (r.0, later r.0 (x.feeder == r.0) r.1)

-- what has its end last has no fault of a source ahead of that
fault_last : (ws : List What) → EndsLast ws → has_fault ws ≡ true → EndsWith ws ends.SourceFault
fault_last [] h e = absurd h
fault_last (w ∷ []) h e = one (or_one (is_source_fault w) false e)
  where
    one : (is_source_fault w ≡ true) ⊎ (false ≡ true) → EndsWith (w ∷ []) ends.SourceFault
    one (inl f) = ([], ap (λ (v : What). v ∷ []) (is_fault w f))
    one (inr f) = absurd (true≢false (sym f))
fault_last (w ∷ v ∷ ws) h e = one (fault_last (v ∷ ws) h.1) (or_one (is_source_fault w) (has_fault (v ∷ ws)) e)
  where
    one : (has_fault (v ∷ ws) ≡ true → EndsWith (v ∷ ws) ends.SourceFault) → (is_source_fault w ≡ true) ⊎ (has_fault (v ∷ ws) ≡ true) → EndsWith (w ∷ v ∷ ws) ends.SourceFault
    one rest (inl f) = absurd (true≢false (sym (ap is_end (is_fault w f)) ∙ h.0))
    one rest (inr f) = let r = rest f in (w ∷ r.0, ap (λ (us : List What). w ∷ us) r.1)

fault_of : (ahead : List What) → has_fault (ahead ++ what.End ends.SourceFault ∷ []) ≡ true
fault_of [] = refl
fault_of (w ∷ ws) = or_right (is_source_fault w) (has_fault (ws ++ what.End ends.SourceFault ∷ [])) (fault_of ws)

first_fault : (items : List Item) → first_end items ≡ ends.SourceFault → has_one is_source_fault items ≡ true
first_fault items e = go (has_one is_source_fault items) (has_one is_spent_end items) (has_one is_no_memory items) e
  where
    go : (a b c : Bool) → (if a then ends.SourceFault else if b then ends.Spent else if c then ends.NoMemory else ends.Ended) ≡ ends.SourceFault → a ≡ true
    go true b c e = refl
    go false true c e = absurd cc
    go false false true e = absurd cc
    go false false false e = absurd cc

no_fault : (items : List Item) → first_end items ≢ ends.SourceFault → has_one is_source_fault items ≡ false
no_fault items n = go (has_one is_source_fault items) (has_one is_spent_end items) (has_one is_no_memory items) n
  where
    go : (a b c : Bool) → (if a then ends.SourceFault else if b then ends.Spent else if c then ends.NoMemory else ends.Ended) ≢ ends.SourceFault → a ≡ false
    go true b c n = absurd (n refl)
    go false b c n = refl

-- all that feeders sent was taken, each sent its end last, and there are no others
pub record AreWhole (items : List Item) (gs : List FeederState) : Type 0 where
  pub whole : (k : ℕ) → k < length gs → sent_by k items ≡ sent_at gs k
  pub others : (k : ℕ) → length gs ≤ k → sent_by k items ≡ []
  pub last : (k : ℕ) → k < length gs → EndsLast (sent_at gs k)

pub whole_of : (groups nodes : ℕ) (taken : List Item) (gs : List FeederState) → AreTaken groups nodes (length gs) taken → AreNumbered 0 gs → AreBegun taken gs → ends_in taken ≡ length gs → AreWhole taken gs
whole_of groups nodes taken gs are n b all = record {
  whole = all_whole groups nodes taken gs are n b all;
  others = are.none;
  last = λ k l. (place taken 0 gs n b k l).1;
}

-- where a run ended by a fault of a source, one of the feeders has ended so
pub fault_at : (items : List Item) (gs : List FeederState) (end : FeedEnd) (start stop : Scene) → AreWhole items gs → HaveEnded end items start stop → end ≡ ends.SourceFault → (k : ℕ) × (k < length gs) × EndsWith (sent_at gs k) ends.SourceFault
fault_at items gs end start stop w (inr sink) is = absurd (apart (sym sink.0 ∙ is))
  where
    apart : ends.SinkFault ≢ ends.SourceFault
    apart e = cc
fault_at items gs end start stop w (inl first) is = go (cases_lt k.0 (length gs))
  where
    k : (k : ℕ) × (has_fault (sent_by k items) ≡ true)
    k = one_in items (first_fault items (sym first.0 ∙ is))

    go : (k.0 < length gs) ⊎ (length gs ≤ k.0) → (k : ℕ) × (k < length gs) × EndsWith (sent_at gs k) ends.SourceFault
    go (inl l) = (k.0, l, fault_last (sent_at gs k.0) (w.last k.0 l) (sym (ap has_fault (w.whole k.0 l)) ∙ k.1))
    go (inr past) = absurd (true≢false (sym k.1 ∙ ap has_fault (w.others k.0 past)))

-- where it did not, and no put failed, none of them has
pub none_at : (items : List Item) (gs : List FeederState) (end : FeedEnd) (start stop : Scene) → AreWhole items gs → HaveEnded end items start stop → end ≢ ends.SourceFault → end ≢ ends.SinkFault → (k : ℕ) → ¬ EndsWith (sent_at gs k) ends.SourceFault
none_at items gs end start stop w (inr sink) is put k e = absurd (put sink.0)
none_at items gs end start stop w (inl first) is put k e = go (cases_lt k (length gs))
  where
    has : has_fault (sent_at gs k) ≡ true
    has = ap has_fault e.1 ∙ fault_of e.0

    none : has_one is_source_fault items ≡ false
    none = no_fault items (λ same. is (first.0 ∙ same))

    past_is : (gs : List FeederState) (k : ℕ) → length gs ≤ k → sent_at gs k ≡ []
    past_is [] k l = refl
    past_is (g ∷ gs) zero l = absurd (omega (arith, l))
    past_is (g ∷ gs) (suc k) l = past_is gs k (omega (arith, l))

    go : (k < length gs) ⊎ (length gs ≤ k) → ⊥
    go (inl l) = true≢false (sym (any_in k items (ap has_fault (w.whole k l) ∙ has)) ∙ none)
    go (inr past) = true≢false (sym has ∙ ap has_fault (past_is gs k past))

-- the first feed and further ones, each with its feeder
module _ {T : Type 0} (t : Plan) (turns : ℕ) (told : T → DeviceState Fed) (groups nodes : ℕ) (queue : TableId) (a b : DeviceState Fed) (f g : FeederState) (xs ys : List T) (fs gs : List FeederState) (taken : List Item)
    (first : IsRead t turns a b f g) (first_is : f ≡ fresh_feeder queue 0) (read : AllRan (Reads t turns told) xs ys fs gs) (fresh : fs ≡ map (fresh_feeder queue) (range_with_len 1 (length xs)))
    (are : AreTaken groups nodes (1 + length xs) taken) (began : IsPrefix (sent_by g.feeder taken) g.sent) (begun : All (λ (x : FeederState). IsPrefix (sent_by x.feeder taken) x.sent) gs) (ended : ends_in taken ≡ 1 + length xs) where
  size : length (g ∷ gs) ≡ 1 + length xs
  size = let n = lengths t turns told xs ys fs gs read in omega (arith, n)

  pub all_of : AreWhole taken (g ∷ gs)
  all_of =
      let zero_is : g.feeder ≡ 0 = first.same.1 ∙ ap (λ (s : FeederState). s.feeder) first_is in
      whole_of groups nodes taken (g ∷ gs) (subst (λ (n : ℕ). AreTaken groups nodes n taken) (sym size) are) (zero_is, numbered t turns told queue 1 (length xs) xs ys fs gs fresh read)
      ((began, runs_end_last t turns a.past b.past g.sent first.sent), all_begun t turns told taken xs ys fs gs begun read) (ended ∙ sym size)

  pub together : (end : FeedEnd) (start stop : Scene) → AreFeeds (1 + length xs) end taken start stop → (end ≢ ends.SinkFault → HasMerged taken start stop)
      → AreFedTogether t turns end a b (tells told xs) (tells told ys) start stop
  together end start stop run merged =
      let w = all_of in
      let tellers : length (tells told xs) ≡ length xs = length-map _ _ in
      let count : 1 + length xs ≡ suc (length (tells told xs)) = omega (arith, tellers) in record {
        sent = sent_at (g ∷ gs);
        items = taken;
        feeds = (first.sent, all_sent t turns told 1 (sent_at (g ∷ gs)) xs ys fs gs (λ k. let n : 1 + k ≡ suc k = omega arith in ap (sent_at (g ∷ gs)) n) read);
        tied = (record { rose = first.source; stays = first.stays }, all_tied t turns told 1 (sent_at (g ∷ gs)) xs ys fs gs (λ k. let n : 1 + k ≡ suc k = omega arith in ap (sent_at (g ∷ gs)) n) read);
        run = subst (λ (n : ℕ). AreFeeds n end taken start stop) count run;
        merged = merged;
        whole = λ k l. w.whole k (omega (arith, l, count, size));
        others = λ k l. w.others k (omega (arith, l, count, size));
      }

  pub source_rose : (end : FeedEnd) (start stop : Scene) → AreFeeds (1 + length xs) end taken start stop → end ≡ ends.SourceFault → Rose a.faults b.faults ⊎ AnyRose (tells told xs) (tells told ys)
  source_rose end start stop run is = go k.0 k.2
    where
      k : (k : ℕ) × (k < length (g ∷ gs)) × EndsWith (sent_at (g ∷ gs) k) ends.SourceFault
      k = fault_at taken (g ∷ gs) end start (record stop { pace = run.calls }) all_of run.ended is

      go : (k : ℕ) → EndsWith (sent_at (g ∷ gs) k) ends.SourceFault → Rose a.faults b.faults ⊎ AnyRose (tells told xs) (tells told ys)
      go zero e = inl (first.source e)
      go (suc k) e = inr (any_rose t turns told xs ys fs gs k e read)

  pub sources_stand : (end : FeedEnd) (start stop : Scene) → AreFeeds (1 + length xs) end taken start stop → end ≢ ends.SourceFault → end ≢ ends.SinkFault → (b.faults ≡ a.faults) × AllStand (tells told xs) (tells told ys)
  sources_stand end start stop run is put =
      let none = none_at taken (g ∷ gs) end start (record stop { pace = run.calls }) all_of run.ended is put in
      (first.stays (none 0), all_stand t turns told xs ys fs gs (λ k. none (suc k)) read)

-- one feed more than none
pub are_fed : (t : Plan) (turns : ℕ) (end : FeedEnd) (feed feed_after : DeviceState Fed) (more more_after : List (DeviceState Fed)) (start stop : Scene) → more ≢ []
    → AreFedTogether t turns end feed feed_after more more_after start stop → AreFed t turns end feed more feed_after more_after start stop
are_fed t turns end feed feed_after [] more_after start stop some f = absurd (some refl)
are_fed t turns end feed feed_after (m ∷ more) more_after start stop some f = f

-- a beginning of what it sent was taken
abbrev pub Begins : List Item → FeederState → Type 0
Begins taken f = IsPrefix (sent_by f.feeder taken) f.sent

-- one more was taken back, and all
pub back_more : (taken : List Item) (all left front done : List FeederState) (f : FeederState) → all ≡ left ++ done → left ≡ front ++ f ∷ [] → Begins taken f → All (Begins taken) done → (more : List FeederState) × (all ≡ front ++ more) × All (Begins taken) more
back_more taken all left front done f e w b h = (f ∷ done, e ∙ ap (λ (l : List FeederState). l ++ done) w ∙ append_assoc front (f ∷ []) done, all_cons (Begins taken) f done b h)

pub back_all : (taken : List Item) (all left done : List FeederState) → all ≡ left ++ done → left ≡ [] → All (Begins taken) done → All (Begins taken) all
back_all taken all left done e none h = subst (λ (l : List FeederState). All (Begins taken) l) (sym (e ∙ ap (λ (l : List FeederState). l ++ done) none)) h

-- what is said of several feeds behind their run
pub record AreRun (t : Plan) (turns : ℕ) (end : FeedEnd) (a b : DeviceState Fed) (before after : List (DeviceState Fed)) (start stop : Scene) : Type 0 where
  pub fed : AreFedTogether t turns end a b before after start stop
  pub source : end ≡ ends.SourceFault → Rose a.faults b.faults ⊎ AnyRose before after
  pub stays : end ≢ ends.SourceFault → end ≢ ends.SinkFault → (b.faults ≡ a.faults) × AllStand before after
  pub later : (a.faults ≤ b.faults) × NoneFell before after

-- from what was lent ahead of it, and what was told by who took all and was given the feeders back
pub several : {T : Type 0} (t p : Plan) (turns : ℕ) (told : T → DeviceState Fed) (groups nodes : ℕ) (a b : DeviceState Fed) (f g : FeederState) (xs ys : List T) (fs gs : List FeederState) (opened given now : TakerState) (end : FeedEnd) (start stop : Scene)
    → t ≡ p → given ≡ now → now.feeders ≡ opened.feeders → opened.feeders ≡ 1 + length xs → f ≡ fresh_feeder opened.queue 0 → fs ≡ map (fresh_feeder opened.queue) (range_with_len 1 (length xs))
    → IsRead t turns a b f g → AllRan (Reads t turns told) xs ys fs gs → AreTaken groups nodes given.feeders given.taken → Begins given.taken g → All (Begins given.taken) gs
    → AreFeeds opened.feeders end now.taken start stop → (end ≢ ends.SinkFault → HasMerged now.taken start stop) → AreRun p turns end a b (tells told xs) (tells told ys) start stop
several {T = T} t p turns told groups nodes a b f g xs ys fs gs opened given now end start stop plan same count size first_is fresh first read are began begun run merged =
    let are' : AreTaken groups nodes (1 + length xs) now.taken = subst (λ (n : ℕ). AreTaken groups nodes n now.taken) (count ∙ size) (subst (λ (x : TakerState). AreTaken groups nodes x.feeders x.taken) same are) in
    let began' : IsPrefix (sent_by g.feeder now.taken) g.sent = subst (λ (x : TakerState). Begins x.taken g) same began in
    let begun' : All (λ (x : FeederState). IsPrefix (sent_by x.feeder now.taken) x.sent) gs = subst (λ (x : TakerState). All (Begins x.taken) gs) same begun in
    let run' : AreFeeds (1 + length xs) end now.taken start stop = subst (λ (n : ℕ). AreFeeds n end now.taken start stop) size run in
    let all = together t turns told groups nodes opened.queue a b f g xs ys fs gs now.taken first first_is read fresh are' began' begun' run'.all end start stop run' merged in
    let all' = subst (λ (x : Plan). AreFedTogether x turns end a b (tells told xs) (tells told ys) start stop) plan all in record {
      fed = all';
      source = source_rose t turns told groups nodes opened.queue a b f g xs ys fs gs now.taken first first_is read fresh are' began' begun' run'.all end start stop run';
      stays = sources_stand t turns told groups nodes opened.queue a b f g xs ys fs gs now.taken first first_is read fresh are' began' begun' run'.all end start stop run';
      later = (first.later, none_fell t turns told xs ys fs gs read);
    }

-- as many are told of as there are
pub some_told : {T : Type 0} (tell : T → DeviceState Fed) (xs : List T) → xs ≢ [] → map tell xs ≢ []
some_told tell [] some e = some refl
some_told tell (x ∷ xs) some e = cc

-- what is left alone
pub all_same : (xs : List (DeviceState Fed)) → NoneFell xs xs
all_same [] = refl
all_same (x ∷ xs) = (omega arith, all_same xs)

pub no_more : {T : Type 0} (xs : List T) → length xs ≡ 0 → xs ≡ []
no_more [] e = refl
no_more (x ∷ xs) e = absurd (omega (arith, e))
