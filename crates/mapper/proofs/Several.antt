-- Items worked, one more.
use Rattle.std.proofs.Common.{◌≡◌, ◌≢◌, ℕ, ◌+◌, ◌<◌, ◌≤◌, ◌^◌, ◌-◌, List, [], ◌∷◌, ◌++◌, append_assoc, refl, ap, sym, subst, ◌∙◌, arith}
use Rattle.demand_feed.specs.declared.sent.Item.{Item}
use Rattle.feed_queue.specs.Items.{AreTaken, batches, whats_of}
use Rattle.feed_queue.proofs.Lists.{few_in_all}
use Rattle.mapper.specs.Control.{Course, start}
use Rattle.mapper.specs.Scenes.{IsAt, IsCutAt, Scene}
use Rattle.outside.specs.Faults.{BothTell}
use Rattle.mapper.specs.Scenes.{IsPrinted}
use Rattle.mapper.proofs.Courses.{starts_at}
use Rattle.mapper.proofs.Merging.{merges}
use Rattle.mapper.proofs.Giving.{gives}
use Rattle.mapper.specs.Feeds.{AllWorked, HasMerged, WorkWasCut}
use Rattle.mapper.specs.Items.{AllWork, Works}

work_more : (items : List Item) (x : Item) (c k d : Course) → AllWork items c k → Works x k d → AllWork (items ++ x ∷ []) c d
work_more [] x c k d h w = (d, subst (λ j. Works x j d) h w, refl)
work_more (y ∷ ys) x c k d h w = (h.0, h.1, work_more ys x h.0 k d h.2 w)

-- one item more was worked
pub all_next : (items all : List Item) (x : Item) (before now then : Scene) → all ≡ items ++ x ∷ [] → AllWorked items before now → ((k : Course) → IsAt before k now → (d : Course) × Works x k d × IsAt before d then) → AllWorked all before then
all_next items all x before now then is h f =
    let r = f h.course h.told in
    record { course = r.0; works = subst (λ xs. AllWork xs (start before.newest) r.0) (sym is) (work_more items x (start before.newest) h.course r.0 h.works r.1); told = r.2 }

-- or a put of it failed
pub cut_next : (items all : List Item) (x : Item) (before now then : Scene) → all ≡ items ++ x ∷ [] → AllWorked items before now → ((k : Course) → IsAt before k now → (d : Course) × Works x k d × IsCutAt before k d then) → WorkWasCut all before then
cut_next items all x before now then is h f =
    let r = f h.course h.told in
    record { done = items; item = x; later = []; course = h.course; next = r.0; parts = is; works = h.works; last = r.1; cut = r.2 }

-- ahead of all items
pub all_none : (items : List Item) (now : Scene) → items ≡ [] → AllWorked items now now
all_none items now is = subst (λ xs. AllWorked xs now now) (sym is) (record { course = start now.newest; works = refl; told = starts_at now })

-- items behind the one that was cut
pub cut_more : (items later all : List Item) (before now : Scene) → all ≡ items ++ later → WorkWasCut items before now → WorkWasCut all before now
cut_more items later all before now is h = record {
  done = h.done;
  item = h.item;
  later = h.later ++ later;
  course = h.course;
  next = h.next;
  parts = is ∙ ap (λ l. l ++ later) h.parts ∙ append_assoc h.done (h.item ∷ h.later) later;
  works = h.works;
  last = h.last;
  cut = h.cut;
}

-- there is always room for one serial more
pub serial_left : (groups nodes feeders : ℕ) (taken : List Item) (first now : ℕ) → AreTaken groups nodes feeders taken → first < 2 ^ 63 → now ≤ first + batches (whats_of taken) → now < 2 ^ 64 - 1
serial_left groups nodes feeders taken first now h low is = omega (arith, few_in_all groups nodes feeders taken h, low, is)

-- not all have ended, so one more may
pub count_next : (count feeders found next now : ℕ) → count ≤ feeders → count ≢ found → found ≡ feeders → next ≤ count + 1 → now ≡ feeders → next ≤ now
count_next count feeders found next now le other is up same = omega (arith, le, other, is, up, same)

-- what came of all items is a merged text
pub merged_of : (items : List Item) (before after then : Scene) → AllWorked items before after → then.history ≡ after.history → then.out ≡ after.out → HasMerged items before then
merged_of items before after then h history out =
    let m = merges items (start before.newest) h.course h.works in
    record {
      log = m.0;
      vs = m.1;
      merged = m.2;
      given = gives before.newest items m.0 m.1 m.2;
      history = history ∙ h.told.history ∙ ap (λ l. before.history ++ l) m.3;
      out = rw out (subst (λ (ls : List (List ℕ)). BothTell before.out after.out (IsPrinted ls)) m.4 h.told.out);
    }
