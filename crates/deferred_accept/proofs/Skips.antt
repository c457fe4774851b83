-- A place whose limit is full is skipped: what that keeps, and what it lowers.
use Rattle.std.proofs.Common.{◌≡◌, ℕ, zero, suc, ◌+◌, ◌-◌, ◌<◌, ◌≤◌, Bool, true, false, if◌then◌else◌, List, length, IsSome, ◌*◌, ◌⊎◌, slice_index, slice_set, refl, sym, ap, ◌∙◌, subst, inl, inr, arith}
use Rattle.std.proofs.Math.Nat.{min-le_left, min-le_right}
use Rattle.std.proofs.lemmas.Bool.{cases_eq, cases_lt, false≢true, lt-ltb}
use Rattle.std.proofs.lemmas.Grind.{get_or-set_at}
use Rattle.std.proofs.lemmas.List.{get_or-set_other, length-set}
use Rattle.map_model.specs.Market.{Market, choices_of, demand_of, limit_of}
use Rattle.map_model.specs.Allocation.{IsOffer, amount_at, is_wanted, placed_through, refuser_of, units_of}
use Rattle.map_model.specs.Progress.{IsResumable}
use Rattle.map_model.proofs.Refused.{refused_limit}
use Rattle.map_model.proofs.Units.{through-le-placed}
use Rattle.evict.specs.Standing.{CanPut, IsReady, Standing}
use Rattle.deferred_accept.specs.Runs.{AreSkips, HasRun, IsSkip, IsWaiting, WantsBefore, offered}
use Rattle.deferred_accept.specs.Spreading.{is_inside}
use Rattle.deferred_accept.specs.Work.{worth, worth_of}
use Rattle.best_laws.proofs.Sums.{sum-le, sum-lt}
use Rattle.deferred_accept.proofs.Within.{IsSpreading, worth_inside}
use Rattle.deferred_accept.proofs.Worth.{moved_on}

-- a waiting group may offer what fits under the limit at its pointer
pub can_offer : (m : Market) (state : Standing) (g : ℕ) → IsReady m state → IsWaiting m state g → CanPut m state g (slice_index state.pointers g) (offered m state g)
can_offer m state g ready w =
    let p : ℕ = slice_index state.pointers g in
    let o : IsOffer m g p = record { group = w.group; place = w.place } in
    record {
      ready = ready;
      offer = o;
      pointer = refl;
      free = min-le_left (slice_index state.free g) (limit_of m g p - amount_at state.lines g p);
      limit = omega (arith, min-le_right (slice_index state.free g) (limit_of m g p - amount_at state.lines g p), ready.resumable.limits g p o);
    }

-- what is held, and what is free, stays
pub lines_skip : (m : Market) (old new : Standing) → IsSkip m old new → new.lines ≡ old.lines
lines_skip m old new s = ap (λ (x : Standing). x.lines) s.skipped

pub free_skip : (m : Market) (old new : Standing) → IsSkip m old new → new.free ≡ old.free
free_skip m old new s = ap (λ (x : Standing). x.free) s.skipped

-- the pointer of the group moves on by one, and no other
pub pointer_here : (m : Market) (old new : Standing) → IsReady m old → (s : IsSkip m old new) → (h : ℕ) → h ≡ s.group → slice_index new.pointers h ≡ slice_index old.pointers h + 1
pointer_here m old new ready s h e =
    ap (λ (x : Standing). slice_index x.pointers h) s.skipped ∙ get_or-set_at old.pointers s.group h (slice_index old.pointers s.group + 1) 0 e (omega (arith, ready.resumable.pointers_for, s.waiting.group))
    ∙ ap (λ g. slice_index old.pointers g + 1) (sym e)

pub pointer_else : (m : Market) (old new : Standing) → (s : IsSkip m old new) → (h : ℕ) → (h ≡ s.group → ⊥) → slice_index new.pointers h ≡ slice_index old.pointers h
pointer_else m old new s h ne = ap (λ (x : Standing). slice_index x.pointers h) s.skipped ∙ get_or-set_other old.pointers s.group h (slice_index old.pointers s.group + 1) 0 ne

pub pointer_up : (m : Market) (old new : Standing) → IsReady m old → IsSkip m old new → (h : ℕ) → slice_index old.pointers h ≤ slice_index new.pointers h
pointer_up m old new ready s h = elim (cases_eq h s.group) [
  | inl e ↦ omega (arith, pointer_here m old new ready s h e)
  | inr ne ↦ omega (arith, pointer_else m old new s h ne)
]

-- the state is resumable still
pub ready_skip : (m : Market) (old new : Standing) → IsReady m old → IsSkip m old new → IsReady m new
ready_skip m old new ready s = subst (λ x. IsReady m x) (sym s.skipped) (record {
  market = ready.market;
  whole = ready.whole;
  shape = ready.shape;
  resumable = record {
    form = r.form;
    pointers_for = length-set old.pointers s.group (slice_index old.pointers s.group + 1) ∙ r.pointers_for;
    free_for = r.free_for;
    capacities = r.capacities;
    limits = r.limits;
    totals = r.totals;
    in_list = λ h l. in_list h l (cases_eq h s.group);
    none_past = λ h j o past. r.none_past h j o (omega (arith, up h, past));
    refused = λ h j o before. elim (cases_lt j (slice_index old.pointers h)) [
      | inl low ↦ r.refused h j o low
      | inr high ↦ here h j high before (cases_eq h s.group)
    ];
  };
})
  where
    r : IsResumable m old.lines old.pointers old.free
    r = ready.resumable

    pointers : List ℕ
    pointers = slice_set old.pointers s.group (slice_index old.pointers s.group + 1)

    same : pointers ≡ new.pointers
    same = sym (ap (λ (x : Standing). x.pointers) s.skipped)

    up : (h : ℕ) → slice_index old.pointers h ≤ slice_index pointers h
    up h = subst (λ (xs : List ℕ). slice_index old.pointers h ≤ slice_index xs h) (sym same) (pointer_up m old new ready s h)

    in_list : (h : ℕ) → h < length m.groups → (h ≡ s.group) ⊎ (h ≡ s.group → ⊥) → slice_index pointers h ≤ length (choices_of m h)
    in_list h l (inl e) =
        let moved : slice_index pointers h ≡ slice_index old.pointers h + 1 = ap (λ (xs : List ℕ). slice_index xs h) same ∙ pointer_here m old new ready s h e in
        let place : slice_index old.pointers h < length (choices_of m h) = subst (λ g. slice_index old.pointers g < length (choices_of m g)) (sym e) s.waiting.place in
        omega (arith, moved, place)
    in_list h l (inr ne) = omega (arith, ap (λ (xs : List ℕ). slice_index xs h) same, pointer_else m old new s h ne, r.in_list h l)

    here : (h j : ℕ) → slice_index old.pointers h ≤ j → j < slice_index pointers h → (h ≡ s.group) ⊎ (h ≡ s.group → ⊥) → IsSome (refuser_of m old.lines h j)
    here h j high before (inl e) =
        let moved : slice_index pointers h ≡ slice_index old.pointers h + 1 = ap (λ (xs : List ℕ). slice_index xs h) same ∙ pointer_here m old new ready s h e in
        let at : slice_index old.pointers s.group ≡ j = ap (slice_index old.pointers) (sym e) ∙ omega (arith, high, before, moved) in
        subst (λ x. IsSome (refuser_of m old.lines x j)) (sym e) (subst (λ x. IsSome (refuser_of m old.lines s.group x)) at (refused_limit m old.lines s.group (slice_index old.pointers s.group) s.full))
    here h j high before (inr ne) = absurd (omega (arith, ap (λ (xs : List ℕ). slice_index xs h) same, pointer_else m old new s h ne, high, before))

-- a run goes on by it
pub run_skip : (m : Market) (start old new : Standing) → HasRun m start old → IsSkip m old new → HasRun m start new
run_skip m start old new before s = record {
  ready = ready_skip m old new before.ready s;
  pointers = λ h l. omega (arith, before.pointers h l, pointer_up m old new before.ready s h);
  through = λ h j o past. omega (arith, before.through h j o past, ap (λ ls. placed_through ls h j) (lines_skip m old new s));
}

-- no group is worth more
worth_each : (m : Market) (old new : Standing) → IsReady m old → IsSkip m old new → (h : ℕ) → h < length m.groups → worth_of m new h ≤ worth_of m old h
worth_each m old new ready s h l = elim (cases_eq h s.group) [
  | inl e ↦
      let place : slice_index old.pointers h < length (choices_of m h) = subst (λ g. slice_index old.pointers g < length (choices_of m g)) (sym e) s.waiting.place in
      let less = moved_on m old new h ready l place (pointer_here m old new ready s h e) in
      omega (arith, less)
  | inr ne ↦
      let same : worth_of m new h ≡ worth_of m old h
      = ap (λ k. (length (choices_of m h) - k) * (demand_of m h + 1) - amount_at new.lines h k) (pointer_else m old new s h ne) ∙ ap (λ ls. (length (choices_of m h) - slice_index old.pointers h) * (demand_of m h + 1) - amount_at ls h (slice_index old.pointers h)) (lines_skip m old new s) in
      omega (arith, same)
]

-- and the group itself is worth less
pub worth_skip : (m : Market) (old new : Standing) → IsReady m old → IsSkip m old new → worth m new < worth m old
worth_skip m old new ready s =
    sum-lt (worth_of m new) (worth_of m old) s.group (length m.groups) 0 (λ i low high. worth_each m old new ready s i (omega arith)) (omega arith) (omega (arith, s.waiting.group))
    (moved_on m old new s.group ready s.waiting.group s.waiting.place (pointer_here m old new ready s s.group refl))

-- a group that waits then waited before
pub waited_skip : (m : Market) (old new : Standing) → IsReady m old → IsSkip m old new → (h : ℕ) → IsWaiting m new h → IsWaiting m old h
waited_skip m old new ready s h w = record {
  group = w.group;
  free = omega (arith, w.free, ap (λ (xs : List ℕ). slice_index xs h) (free_skip m old new s));
  place = omega (arith, w.place, pointer_up m old new ready s h);
}

-- each place before a pointer stays wanted: the group had free units when it skipped one
pub wants_skip : (m : Market) (old new : Standing) → IsReady m old → IsSkip m old new → WantsBefore m old → WantsBefore m new
wants_skip m old new ready s before h j o below = subst (λ ls. is_wanted m ls h j ≡ true) (sym (lines_skip m old new s)) (elim (cases_lt j (slice_index old.pointers h)) [
  | inl low ↦ before h j o low
  | inr high ↦ elim (cases_eq h s.group) [
    | inl e ↦
        let some : 0 < slice_index old.free h = subst (λ g. 0 < slice_index old.free g) (sym e) s.waiting.free in
        lt-ltb (placed_through old.lines h j) (demand_of m h) (omega (arith, ready.resumable.totals h o.group, through-le-placed old.lines h j, some))
    | inr ne ↦ absurd (omega (arith, pointer_else m old new s h ne, high, below))
  ]
])

-- what is outside a set of trees that holds the work stays
pub spread_skip : (m : Market) (trees : ℕ → Bool) (start old new : Standing) (before was : ℕ) → IsReady m old → IsSpreading m trees start old before was → IsSkip m old new → IsSpreading m trees start new before was
spread_skip m trees start old new before was ready sofar s = record {
  work = record { lists = sofar.work.lists; waiting = λ h w. sofar.work.waiting h (waited_skip m old new ready s h w) };
  outside = λ h l out.
      let kept = sofar.outside h l out in
      record {
        units = λ k. ap (λ ls. amount_at ls h k) (lines_skip m old new s) ∙ kept.units k;
        pointer = pointer_else m old new s h (λ e. false≢true (sym out ∙ ap (is_inside m trees) e ∙ sofar.work.waiting s.group s.waiting)) ∙ kept.pointer;
        free = ap (λ (xs : List ℕ). slice_index xs h) (free_skip m old new s) ∙ kept.free;
      };
  units = λ test only. ap (λ ls. units_of test ls) (lines_skip m old new s) ∙ sofar.units test only;
  counted = omega (arith, sofar.counted, less);
}
  where
    one : (b : Bool) (x y : ℕ) → x ≤ y → (if b then x else 0) ≤ (if b then y else 0)
    one true x y l = l
    one false x y l = omega arith

    less : worth_inside m trees new ≤ worth_inside m trees old
    less = sum-le (λ x. if is_inside m trees x then worth_of m new x else 0) (λ x. if is_inside m trees x then worth_of m old x else 0) (length m.groups) 0 (λ i low high. one (is_inside m trees i) _ _ (worth_each m old new ready s i (omega arith)))

-- some places, and then more of them
pub skips_on : (m : Market) (k n all : ℕ) (start old new : Standing) → all ≡ k + n → AreSkips m k start old → AreSkips m n old new → AreSkips m all start new
skips_on m k zero all start old new e before made =
    let same : all ≡ k = omega arith in
    subst (λ s. AreSkips m all start s) (sym made) (subst (λ x. AreSkips m x start old) (sym same) before)
skips_on m k (suc n) zero start old new e before made = absurd (omega arith)
skips_on m k (suc n) (suc all) start old new e before made = (made.0, skips_on m k n all start old made.0 (omega arith) before made.1, made.2)

-- many places keep what one keeps
pub ready_skips : (m : Market) (n : ℕ) (old new : Standing) → IsReady m old → AreSkips m n old new → IsReady m new
ready_skips m zero old new ready made = subst (λ s. IsReady m s) (sym made) ready
ready_skips m (suc n) old new ready made = ready_skip m made.0 new (ready_skips m n old made.0 ready made.1) made.2

pub worth_skips : (m : Market) (n : ℕ) (old new : Standing) → IsReady m old → AreSkips m n old new → worth m new ≤ worth m old
worth_skips m zero old new ready made = omega (arith, ap (λ s. worth m s) made)
worth_skips m (suc n) old new ready made = omega (arith, worth_skips m n old made.0 ready made.1, worth_skip m made.0 new (ready_skips m n old made.0 ready made.1) made.2)

pub run_skips : (m : Market) (n : ℕ) (start old new : Standing) → HasRun m start old → AreSkips m n old new → HasRun m start new
run_skips m zero start old new before made = subst (λ s. HasRun m start s) (sym made) before
run_skips m (suc n) start old new before made = run_skip m start made.0 new (run_skips m n start old made.0 before made.1) made.2

pub wants_skips : (m : Market) (n : ℕ) (old new : Standing) → IsReady m old → AreSkips m n old new → WantsBefore m old → WantsBefore m new
wants_skips m zero old new ready made before = subst (λ s. WantsBefore m s) (sym made) before
wants_skips m (suc n) old new ready made before = wants_skip m made.0 new (ready_skips m n old made.0 ready made.1) made.2 (wants_skips m n old made.0 ready made.1 before)

pub spread_skips : (m : Market) (trees : ℕ → Bool) (n : ℕ) (start old new : Standing) (before was : ℕ) → IsReady m old → IsSpreading m trees start old before was → AreSkips m n old new → IsSpreading m trees start new before was
spread_skips m trees zero start old new before was ready sofar made = subst (λ s. IsSpreading m trees start s before was) (sym made) sofar
spread_skips m trees (suc n) start old new before was ready sofar made = spread_skip m trees start made.0 new before was (ready_skips m n old made.0 ready made.1) (spread_skips m trees n start old made.0 before was ready sofar made.1) made.2
