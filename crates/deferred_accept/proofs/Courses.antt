-- A run between two proposals: what it has kept so far, and how proposals and turns carry it on.
use Rattle.std.proofs.Common.{◌≡◌, ℕ, ◌+◌, ◌-◌, ◌^◌, ◌<◌, ◌≤◌, ◌==◌, Bool, false, List, length, All, slice_index, sym, ap, ◌∙◌, subst, inl, inr, arith}
use Rattle.std.proofs.lemmas.List.Elements.{All-nil}
use Rattle.map_model.specs.declared.instance.Offer.{Offer}
use Rattle.map_model.specs.Market.{Market}
use Rattle.evict.specs.declared.freed.Eviction.{Eviction}
use Rattle.evict.specs.Standing.{IsReady, Standing}
use Rattle.deferred_accept.specs.Runs.{HasProposed, HasRun, IsSkip, IsWaiting, WantsBefore, offered}
use Rattle.deferred_accept.specs.Spreading.{HoldsWork}
use Rattle.deferred_accept.specs.Turning.{HasTurned}
use Rattle.deferred_accept.specs.Work.{CoversRest, HasOffered, HasStepped, IsDueOffer, gave_any, worth}
use Rattle.deferred_accept.proofs.Many.{added_few, proposed_many, run_many, spread_many, wants_many, worth_many}
use Rattle.deferred_accept.proofs.Past.{wants_step}
use Rattle.deferred_accept.proofs.Proposed.{proposed_more, proposed_none, proposed_skip}
use Rattle.deferred_accept.proofs.Skips.{can_offer, run_skip, spread_skip, waited_skip, wants_skip, worth_skip}
use Rattle.deferred_accept.proofs.Turns.{counted_step, run_step, waited, worth_less}
use Rattle.deferred_accept.proofs.Within.{IsSpreading, spread_start, spread_step}

-- what a run has kept, from its start to a state, with the counter at both
pub record IsCourse (m : Market) (start now : Standing) (before after : ℕ) : Type 0 where
  pub run : HasRun m start now
  pub counted : after + worth m now ≤ before + worth m start
  pub proposed : HasProposed m start now before after
  pub wanted : WantsBefore m start → WantsBefore m now
  pub spread : (trees : ℕ → Bool) → HoldsWork m trees start → IsSpreading m trees start now before after

-- its start
pub course_start : (m : Market) (start : Standing) (before : ℕ) → IsReady m start → IsCourse m start start before before
course_start m start before ready = record {
  run = record { ready = ready; pointers = λ h l. omega arith; through = λ h k o l. omega arith };
  counted = omega arith;
  proposed = proposed_none m start before;
  wanted = λ w. w;
  spread = λ trees work. spread_start m trees start before work;
}

-- whole rounds of a circle
pub course_turned : (m : Market) (start old new : Standing) (before was now : ℕ) → IsCourse m start old before was → HasTurned m old new was now → IsCourse m start new before now
course_turned m start old new before was now course turned =
    let few = added_few was turned.count now turned.small turned.counted in
    let ready = course.run.ready in
    record {
      run = run_many m turned.count start old new course.run turned.proposals;
      counted = omega (arith, few.1, worth_many m turned.count old new ready turned.proposals, course.counted);
      proposed = proposed_many m turned.count start old new before was now course.proposed turned.proposals turned.counted;
      wanted = λ w. wants_many m turned.count old new ready turned.proposals (course.wanted w);
      spread = λ trees work. spread_many m trees turned.count start old new before was now ready (course.spread trees work) turned.proposals few.1;
    }

-- an offer is due after them as before
pub due_turned : (m : Market) (old new : Standing) (before after : ℕ) (o : Offer) → HasTurned m old new before after → IsDueOffer m old o → IsDueOffer m new o
due_turned m old new before after o turned due =
    let units : slice_index new.free o.group.0 ≡ slice_index old.free o.group.0 = ap (λ (xs : List ℕ). slice_index xs o.group.0) turned.free in
    let place : slice_index new.pointers o.group.0 ≡ slice_index old.pointers o.group.0 = ap (λ (xs : List ℕ). slice_index xs o.group.0) turned.pointers in
    record { waiting = record { group = due.waiting.group; free = omega (arith, due.waiting.free); place = omega (arith, due.waiting.place) }; pointer = due.pointer ∙ sym place }

-- and the list of work covers the same
pub rest_turned : (m : Market) (old new : Standing) (before after g : ℕ) (work : List Bool) → HasTurned m old new before after → CoversRest m old g work → CoversRest m new g work
rest_turned m old new before after g work turned covered = record { count = covered.count; waiting = λ h w. covered.waiting h (waits h w) }
  where
    waits : (h : ℕ) → IsWaiting m new h → IsWaiting m old h
    waits h w =
        let units : slice_index new.free h ≡ slice_index old.free h = ap (λ (xs : List ℕ). slice_index xs h) turned.free in
        let place : slice_index new.pointers h ≡ slice_index old.pointers h = ap (λ (xs : List ℕ). slice_index xs h) turned.pointers in
        record { group = w.group; free = omega (arith, w.free); place = omega (arith, w.place) }

-- the worth of a state has not risen by them
pub worth_turned : (m : Market) (old new : Standing) (before after : ℕ) → IsReady m old → HasTurned m old new before after → worth m new ≤ worth m old
worth_turned m old new before after ready turned = omega (arith, worth_many m turned.count old new ready turned.proposals)

-- a place that is skipped
course_skip : (m : Market) (start old new : Standing) (before was : ℕ) → IsCourse m start old before was → IsSkip m old new → IsCourse m start new before was
course_skip m start old new before was course skip =
    let ready = course.run.ready in
    record {
      run = run_skip m start old new course.run skip;
      counted = omega (arith, worth_skip m old new ready skip, course.counted);
      proposed = proposed_skip m start old new before was course.proposed skip;
      wanted = λ w. wants_skip m old new ready skip (course.wanted w);
      spread = λ trees work. spread_skip m trees start old new before was ready (course.spread trees work) skip;
    }

-- one proposal
course_offered : (m : Market) (start old new : Standing) (g : ℕ) (freed : List Eviction) (before was now : ℕ) → IsCourse m start old before was → HasOffered m old new g freed was now → IsCourse m start new before now
course_offered m start old new g freed before was now course made =
    let k : ℕ = slice_index old.pointers g in
    let units : ℕ = offered m old g in
    let can = can_offer m old g course.run.ready made.waiting in
    let less = worth_less m old new g k units freed can made.put made.some in
    record {
      run = run_step m start old new g k units freed course.run can made.put;
      counted = counted_step before (worth m start) was now (worth m old) (worth m new) (was == 2 ^ 64 - 1) made.counted less course.counted;
      proposed = proposed_more m start old new g freed before was now course.proposed made;
      wanted = λ w. wants_step m old new g k units freed can made.put (course.wanted w);
      spread = λ trees work. spread_step m trees start old new g k units freed before was now (was == 2 ^ 64 - 1) (course.spread trees work) can made.put made.waiting made.some made.counted;
    }

-- one step
pub course_step : (m : Market) (start old new : Standing) (g : ℕ) (freed : List Eviction) (before was now : ℕ) → IsCourse m start old before was → HasStepped m old new g freed was now → IsCourse m start new before now
course_step m start old new g freed before was now course (inl s) = subst (λ n. IsCourse m start new before n) (sym s.same) (course_skip m start old new before was course s.skip)
course_step m start old new g freed before was now course (inr made) = course_offered m start old new g freed before was now course made

-- and that lowers the worth of the state
pub worth_step : (m : Market) (old new : Standing) (g : ℕ) (freed : List Eviction) (was now : ℕ) → IsReady m old → HasStepped m old new g freed was now → worth m new < worth m old
worth_step m old new g freed was now ready (inl s) = worth_skip m old new ready s.skip
worth_step m old new g freed was now ready (inr made) = worth_less m old new g (slice_index old.pointers g) (offered m old g) freed (can_offer m old g ready made.waiting) made.put made.some

-- the groups that gave up units are there
pub groups_step : (m : Market) (old new : Standing) (g : ℕ) (freed : List Eviction) (was now : ℕ) → HasStepped m old new g freed was now → All (λ (e : Eviction). e.offer.group.0 < length m.groups) freed
groups_step m old new g freed was now (inl s) = subst (λ es. All (λ (e : Eviction). e.offer.group.0 < length m.groups) es) (sym s.nothing) (All-nil (λ (e : Eviction). e.offer.group.0 < length m.groups))
groups_step m old new g freed was now (inr made) = λ i d l. (made.put.evictions i d l).offer.group

-- and a group that waits then waited before, or gave up units
pub waited_step : (m : Market) (old new : Standing) (g : ℕ) (freed : List Eviction) (was now : ℕ) → IsReady m old → HasStepped m old new g freed was now → (h : ℕ) → IsWaiting m new h → gave_any freed h ≡ false → IsWaiting m old h
waited_step m old new g freed was now ready (inl s) h w none = waited_skip m old new ready s.skip h w
waited_step m old new g freed was now ready (inr made) h w none = waited m old new g (slice_index old.pointers g) (offered m old g) freed made.put h w none
