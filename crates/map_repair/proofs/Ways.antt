-- Both ways to the new map come to what is promised.
use Rattle.std.proofs.Common.{◌≡◌, ◌⊎◌, ◌+◌, ℕ, Bool, List, MatchOption, OnOk, Option, None, Some, Result, Ok, Err, slice_index, refl, sym, ◌∙◌, subst, inl, inr, arith}
use Rattle.std.proofs.lemmas.Bool.{cases_lt}
use Rattle.map_model.specs.declared.lines.MapLine.{MapLine}
use Rattle.map_model.specs.Market.{Market, IsMarket, IsSameShape}
use Rattle.map_model.specs.Allocation.{IsStable, names_of}
use Rattle.map_model.specs.Progress.{IsEnded, IsGroupBest}
use Rattle.map_model.proofs.Shapes.{shape_trans}
use Rattle.evict.specs.Standing.{IsReady, Standing}
use Rattle.evict.proofs.Shaped.{AreLines-shape}
use Rattle.reopen.specs.Cutting.{CanCut}
use Rattle.reopen.specs.Rolling.{IsRolledBack}
use Rattle.deferred_accept.specs.Runs.{HasProposed, HasRun, WantsBefore}
use Rattle.deferred_accept.specs.Spreading.{HoldsWork, StaysInside}
use Rattle.deferred_accept.proofs.Finished.{finished}
use Rattle.move_up.specs.Moved.{IsMoved}
use Rattle.map_repair.specs.Marks.{is_on}
use Rattle.map_repair.specs.Determined.{IsCutFor}
use Rattle.map_repair.specs.Repaired.{IsStateOf, IsWithinSpread, IsWithinTwiceSpread}
use Rattle.map_repair.specs.Resumed.{HasGoneBack, HasMovedUp, HasResumed, HasThrown}
use Rattle.map_repair.specs.Ways.{HasRunOut, IsResumed, IsThrown}
use Rattle.map_repair.proofs.Agree.{resumed_is}
use Rattle.map_repair.proofs.Middle.{IsMiddle, IsReopened, can_roll_back, kept, reopened_back, state_of}
use Rattle.map_repair.proofs.Spread.{stays_local, stays_within}

-- what holds where there is none
pub when_none : {X A : Type 0} (B : X → Type 0) (o : Option X) → o ≡ None → MatchOption o A B → A
when_none {A = A} B o none m = subst (λ t. MatchOption t A B) none m

-- and of the one that there is
pub when_some : {X : Type 0} (A : Type 0) (B : X → Type 0) (o : Option X) (x : X) → o ≡ Some x → MatchOption o A B → B x
when_some A B o x some m = subst (λ t. MatchOption t A B) some m

-- a state of a good map may be cut for other numbers
pub can_cut : (old new : Market) (s : Standing) → IsMarket new → IsSameShape old new → IsStateOf old s → CanCut new s
can_cut old new s market shape of = record {
  market = market;
  whole = of.ready.whole;
  shape = shape_trans s.market old new of.ready.shape shape;
  form = AreLines-shape old new shape s.lines of.ready.resumable.form;
  count = of.ready.resumable.free_for ∙ sym shape.groups;
}

-- What was moved is opened in marked trees alone.
pub reopened_moved : (m : Market) (marks : List Bool) (from to : Standing) → IsMoved m marks from to → IsReady m to → WantsBefore m to → IsReopened m marks from to
reopened_moved m marks from to moved ready wanted = record {
  ready = ready;
  wanted = wanted;
  units = λ test off. moved.units test off;
  pointers = λ g l off. elim (cases_lt (slice_index to.pointers g) (slice_index from.pointers g)) [
    | inr kept ↦ omega (arith, kept, moved.pointers g l)
    | inl less ↦ absurd (omega (arith, moved.back g (slice_index to.pointers g) l less (λ j low. off j (omega (arith, low, less)))))
  ];
}

-- what was resumed behind a try that was thrown away
pub after_try : (old : Market) (lines : List MapLine) (new : Market) (to : Standing) (before tried after : ℕ) → HasThrown old lines new before tried → HasResumed old lines new to tried tried after → HasResumed old lines new to before tried after
after_try old lines new to before tried after thrown r = record { thrown = thrown; begun = r.begun; can_go_back = r.can_go_back; way = r.way }

-- With those that were thrown away the proposals are within twice the bound.
pub within_twice : (old : Market) (lines : List MapLine) (new : Market) (before thrown after : ℕ) → IsWithinSpread old lines new 0 thrown → IsWithinSpread old lines new (before + thrown) after → IsWithinTwiceSpread old lines new before after
within_twice old lines new before thrown after vain made = λ trees all. omega (arith, vain trees all, made trees all)

-- what a run says where memory was not wanting
pub run_out : {X E : Type 0} (r : Result X E) (m : Market) (from to : Standing) (before after : ℕ) → OnOk r (HasRun m from to) → OnOk r (IsEnded m to.pointers to.free) → OnOk r (WantsBefore m from → WantsBefore m to) → OnOk r (HasProposed m from to before after)
    → OnOk r ((trees : ℕ → Bool) → HoldsWork m trees from → StaysInside m trees from to before after) → OnOk r (HasRunOut m from to before after)
run_out (Ok x) m from to before after run ended wanted proposed inside = record { run = run; ended = ended; wanted = wanted; proposed = proposed; inside = inside }
run_out (Err e) m from to before after run ended wanted proposed inside = tt

module _ (old new : Market) (s mid : Standing) (marks : List Bool) (k : IsMiddle old new s mid marks) (final : Standing) (before after : ℕ) where
  begun : IsCutFor old s.lines new
  begun = record {
    from = s;
    of_map = k.of;
    holds = refl;
    marks = marks;
    reached = λ root on. k.reached.least root on;
    all_reached = λ root is. is (λ n. is_on marks n) k.reached.closed;
    cut = mid;
    is_cut = k.cut;
  }

  counted_by : HasGoneBack new marks mid final before after ⊎ HasMovedUp new marks mid final before after → HasResumed old s.lines new final before before after
  unfolding begun
  counted_by way = record { thrown = inl refl; begun = begun; can_go_back = can_roll_back old new s mid marks k; way = way }

  -- A run to the end from a state that was opened in marked trees alone.
  resumed_by : (opened : Standing) → IsReopened new marks mid opened → HasRunOut new opened final before after → HasGoneBack new marks mid final before after ⊎ HasMovedUp new marks mid final before after → IsResumed old s.lines new final before after
  resumed_by opened ro r way =
      let stable : IsStable new final.lines = (finished new final (names_of new final.lines) r.run.ready r.ended refl).stable in
      let counted : HasResumed old s.lines new final before before after = counted_by way in
      record {
        of_map = state_of old new s mid marks k opened ro final r.run r.ended r.wanted;
        ended = r.ended;
        kept = kept old new s mid marks k opened ro final r.run;
        local = stays_local old new s mid marks k opened ro final before after r.run r.inside;
        determined = resumed_is old s.lines new final before before after counted stable;
        counted = counted;
        steps = stays_within old new s mid marks k opened ro final before after r.inside;
      }

  -- groups went back
  pub resumed_back : (back : Standing) → IsRolledBack new marks mid back → HasRunOut new back final before after → IsResumed old s.lines new final before after
  resumed_back back rb r = resumed_by back (reopened_back old new s mid marks k back rb) r (inl (record { back = back; rolled_back = rb; proposed = r.proposed }))

  -- units moved up and a run from there was in vain
  pub thrown_moved : (moved : Standing) → IsMoved new marks mid moved → IsReady new moved → WantsBefore new moved → HasRunOut new moved final before after → IsThrown old s.lines new before after
  unfolding begun
  thrown_moved moved is_moved ready wanted r = record {
    thrown = inr (record { begun = begun; to = final; tried = record { moved = moved; is_moved = is_moved; ready = ready; proposed = r.proposed } });
    steps = stays_within old new s mid marks k moved (reopened_moved new marks mid moved is_moved ready wanted) final before after r.inside;
  }

  -- units moved up
  pub resumed_moved : (moved : Standing) → IsMoved new marks mid moved → IsReady new moved → WantsBefore new moved → HasRunOut new moved final before after → IsGroupBest new final.lines → IsResumed old s.lines new final before after
  resumed_moved moved is_moved ready wanted r best = resumed_by moved (reopened_moved new marks mid moved is_moved ready wanted) r (inr (record { tried = record { moved = moved; is_moved = is_moved; ready = ready; proposed = r.proposed }; best = best }))
