-- A run in a set of trees.
use Rattle.std.proofs.Common.{◌≡◌, ℕ, ◌+◌, ◌-◌, ◌<◌, ◌≤◌, ◌==◌, Bool, true, false, ◌&&◌, if◌then◌else◌, List, [], ◌∷◌, length, All, IsFalse, slice_index, slice_index_or, refl, sym, ap, ◌∙◌, subst, inl, inr, arith}
use Rattle.std.specs.List.{range_with_len, sum_by}
use Rattle.std.proofs.lemmas.Bool.{and_from, and_parts, cases_Bool, eq-eqb, eqb-true, ne_eqb, or_cases, false≢true}
use Rattle.std.proofs.lemmas.List.Folds.{list_any_at}
use Rattle.std.proofs.lemmas.List.Elements.{All-head, All-tail}
use Rattle.map_model.specs.Market.{Market, IsMarket, capacity_of, pool_of}
use Rattle.map_model.specs.Allocation.{IsOffer, counts_at, load, none_worse, units_of}
use Rattle.map_model.specs.Progress.{tree_of}
use Rattle.map_model.proofs.Trees.{under_there}
use Rattle.map_model.proofs.Paths.{pool_there}
use Rattle.evict.specs.declared.freed.Eviction.{Eviction}
use Rattle.std.proofs.lemmas.List.Sums.{sum_by-cons}
use Rattle.evict.specs.Evictions.{freed_units, gave_up}
use Rattle.evict.specs.Standing.{CanPut, IsPut, Standing}
use Rattle.evict.proofs.Refusals.{refused_by}
use Rattle.evict.proofs.Settled.{freed_more}
use Rattle.deferred_accept.specs.Runs.{proposals_of, IsWaiting}
use Rattle.deferred_accept.specs.Spreading.{HoldsWork, IsSameFor, StaysInside, is_inside}
use Rattle.deferred_accept.specs.Work.{gave_any, worth_of}
use Rattle.map_model.proofs.Roots.{root-under}
use Rattle.best_laws.proofs.Sums.{sum-le, sum-lt}
use Rattle.deferred_accept.proofs.Turns.{counted_step, none_at, none_freed, waited}
use Rattle.evict.proofs.Done.{freed_none}
use Rattle.deferred_accept.proofs.Worth.{worth_falls}

-- An offer that gave up units is refused now, by a full node of its path. Had no units come under that node, it would be below its capacity.
pub same_tree : (m : Market) (old new : Standing) (g k units : ℕ) (freed : List Eviction) → CanPut m old g k units → IsPut m old new g k units freed → All (λ e. tree_of m e.offer.group.0 e.offer.place ≡ tree_of m g k) freed
same_tree m old new g k units freed can put i d l =
    let e : Eviction = slice_index_or freed i d in
    let ev = put.evictions i d l in
    let gave : gave_up freed e.offer.group.0 e.offer.place ≡ true = list_any_at (λ (x : Eviction). (x.offer.group.0 == e.offer.group.0) && (x.offer.place == e.offer.place)) freed i d l (and_from _ _ (eq-eqb e.offer.group.0 e.offer.group.0 refl) (eq-eqb e.offer.place e.offer.place refl)) in
    let by = refused_by m new.lines e.offer.group.0 e.offer.place (put.turned e.offer.group.0 e.offer.place ev.offer gave) in
    let o : ℕ = by.0 in
    let market : IsMarket m = put.ready.market in
    let pool = pool_there m market e.offer.group.0 e.offer.place ev.offer in
    let here : counts_at m o g k ≡ true = elim (cases_Bool (counts_at m o g k)) [
      | inl y ↦ y
      | inr n ↦
          let none : (if counts_at m o g k then units else 0) ≡ 0 = rw n refl in
          let full : load m new.lines o ≡ capacity_of m o = eqb-true _ _ (and_parts (load m new.lines o == capacity_of m o) (none_worse m new.lines o _) by.2).0 in
          let fits : load m old.lines o ≤ capacity_of m o = can.ready.resumable.capacities o (under_there m market o (pool_of m e.offer.group.0 e.offer.place) pool by.1) in
          absurd (omega (arith, put.held (counts_at m o), none, full, fits, freed_more (counts_at m o) freed i d l by.1, ev.some))
    ] in
    root-under m market o (pool_of m e.offer.group.0 e.offer.place) pool by.1 ∙ sym (root-under m market o (pool_of m g k) (pool_there m market g k can.offer) here)

-- what holds of each group that gave up units holds of one of them
gave_any_each : (P : ℕ → Type 0) (freed : List Eviction) (h : ℕ) → All (λ e. P e.offer.group.0) freed → gave_any freed h ≡ true → P h
gave_any_each P [] h all gave = absurd (false≢true gave)
gave_any_each P (e ∷ es) h all gave = elim (or_cases (e.offer.group.0 == h) (gave_any es h) gave) [
  | inl here ↦ subst P (eqb-true e.offer.group.0 h here) (All-head (λ (x : Eviction). P x.offer.group.0) e es all)
  | inr more ↦ gave_any_each P es h (All-tail (λ (x : Eviction). P x.offer.group.0) e es all) more
]

-- a test that no eviction passes lets no freed units through
freed_nothing : (test : ℕ → ℕ → Bool) (freed : List Eviction) → All (λ (e : Eviction). test e.offer.group.0 e.offer.place ≡ false) freed → freed_units test freed ≡ 0
freed_nothing test [] all = refl
freed_nothing test (e ∷ es) all =
    let here : (if test e.offer.group.0 e.offer.place then e.units else 0) ≡ 0 = rw (All-head (λ (x : Eviction). test x.offer.group.0 x.offer.place ≡ false) e es all) refl in
    omega (arith, sum_by-cons (λ (x : Eviction). if test x.offer.group.0 x.offer.place then x.units else 0) e es, here, freed_nothing test es (All-tail (λ (x : Eviction). test x.offer.group.0 x.offer.place ≡ false) e es all))

-- what groups inside may still offer, less what they hold at their pointers
abbrev pub worth_inside : Market → (ℕ → Bool) → Standing → ℕ
worth_inside m trees state = sum_by (λ g. if is_inside m trees g then worth_of m state g else 0) (range_with_len 0 (length m.groups))

-- in the middle of a run, for a set of trees that held the work at its start
pub record IsSpreading (m : Market) (trees : ℕ → Bool) (start now : Standing) (before after : ℕ) : Type 0 where
  pub work : HoldsWork m trees now
  pub outside : (g : ℕ) → g < length m.groups → IsFalse (is_inside m trees g) → IsSameFor start now g
  pub units : (test : ℕ → ℕ → Bool) → ((g k : ℕ) → IsOffer m g k → test g k ≡ true → IsFalse (is_inside m trees g)) → units_of test now.lines ≡ units_of test start.lines
  pub counted : after + worth_inside m trees now ≤ before + worth_inside m trees start

pub spread_start : (m : Market) (trees : ℕ → Bool) (start : Standing) (before : ℕ) → HoldsWork m trees start → IsSpreading m trees start start before before
spread_start m trees start before work = record { work = work; outside = λ g l out. record { units = λ k. refl; pointer = refl; free = refl }; units = λ test only. refl; counted = omega arith }

-- a proposal of a group inside
pub spread_step : (m : Market) (trees : ℕ → Bool) (start old new : Standing) (g k units : ℕ) (freed : List Eviction) (before was now : ℕ) (full : Bool) → IsSpreading m trees start old before was → CanPut m old g k units → IsPut m old new g k units freed
    → IsWaiting m old g → 0 < units → now ≡ (if full then was else was + 1) → IsSpreading m trees start new before now
spread_step m trees start old new g k units freed before was now full sofar can put waits some counted = record {
  work = record {
    lists = sofar.work.lists;
    waiting = λ h w. elim (cases_Bool (gave_any freed h)) [
      | inl gave ↦ gives h gave
      | inr none ↦ sofar.work.waiting h (waited m old new g k units freed put h w none)
    ];
  };
  outside = λ h l out. stays h l out (sofar.outside h l out);
  units = λ test only.
      let none_put : (if test g k then units else 0) ≡ 0 = elim (cases_Bool (test g k)) [ inl y ↦ absurd (false≢true (sym (only g k can.offer y) ∙ inside)) | inr n ↦ rw n refl ] in
      omega (arith, put.held test, none_put, freed_nothing test freed (λ i d l. unfreed test only i d l), sofar.units test only);
  counted = counted_step before (worth_inside m trees start) was now (worth_inside m trees old) (worth_inside m trees new) full counted less sofar.counted;
}
  where
    inside : is_inside m trees g ≡ true
    inside = sofar.work.waiting g waits

    gives : (h : ℕ) → gave_any freed h ≡ true → is_inside m trees h ≡ true
    gives h gave =
        gave_any_each (λ x. is_inside m trees x ≡ true) freed h
        (λ i d l. sym (sofar.work.lists _ _ (put.evictions i d l).offer) ∙ ap trees (same_tree m old new g k units freed can put i d l) ∙ sofar.work.lists g k can.offer ∙ inside) gave

    unfreed : (test : ℕ → ℕ → Bool) → ((h j : ℕ) → IsOffer m h j → test h j ≡ true → IsFalse (is_inside m trees h)) → All (λ (e : Eviction). test e.offer.group.0 e.offer.place ≡ false) freed
    unfreed test only i d l =
        let e : Eviction = slice_index_or freed i d in
        elim (cases_Bool (test e.offer.group.0 e.offer.place)) [
          | inr n ↦ n
          | inl y ↦ absurd (false≢true (sym (only e.offer.group.0 e.offer.place (put.evictions i d l).offer y) ∙ gives e.offer.group.0 (list_any_at (λ (x : Eviction). x.offer.group.0 == e.offer.group.0) freed i d l (eq-eqb e.offer.group.0 e.offer.group.0 refl))))
        ]

    stays : (h : ℕ) → h < length m.groups → is_inside m trees h ≡ false → IsSameFor start old h → IsSameFor start new h
    stays h l out same =
        let none : gave_any freed h ≡ false = elim (cases_Bool (gave_any freed h)) [ inl gave ↦ absurd (false≢true (sym out ∙ gives h gave)) | inr n ↦ n ] in
        let apart : (g == h) ≡ false = ne_eqb g h (λ e. false≢true (sym out ∙ ap (is_inside m trees) (sym e) ∙ inside)) in
        let none_put : (if g == h then units else 0) ≡ 0 = rw apart refl in
        let at : ℕ = slice_index old.pointers h in
        record {
          units = λ j. let z : (if (g == h) && (k == j) then units else 0) ≡ 0 = rw apart refl in omega (arith, put.held (λ x y. (x == h) && (y == j)), z, freed_none freed h j (none_at freed h j none), same.units j);
          pointer = put.pointers h l ∙ ap (λ b. if b then at + 1 else at) (none_at freed h at none) ∙ same.pointer;
          free = omega (arith, put.free h l, none_put, none_freed freed h none, same.free);
        }

    one : (b : Bool) (x y : ℕ) → x ≤ y → (if b then x else 0) ≤ (if b then y else 0)
    one true x y l = l
    one false x y l = omega arith

    less : worth_inside m trees new < worth_inside m trees old
    less =
        sum-lt (λ x. if is_inside m trees x then worth_of m new x else 0) (λ x. if is_inside m trees x then worth_of m old x else 0) g (length m.groups) 0
        (λ i low high. one (is_inside m trees i) _ _ (worth_falls m old new g k units freed can put some i (omega arith)).0) (omega arith) (omega (arith, can.offer.group))
        (let l = (worth_falls m old new g k units freed can put some g can.offer.group).1 refl in rw inside l)

-- at the end of a run
pub spread_end : (m : Market) (trees : ℕ → Bool) (start now : Standing) (before after : ℕ) → IsSpreading m trees start now before after → StaysInside m trees start now before after
spread_end m trees start now before after sofar = record {
  outside = sofar.outside;
  units = sofar.units;
  steps = omega (arith, sofar.counted, sum-le (λ g. if is_inside m trees g then worth_of m start g else 0) (λ g. if is_inside m trees g then proposals_of m start.pointers g else 0) (length m.groups) 0 (λ i low high. within (is_inside m trees i) (proposals_of m start.pointers i) _));
}
  where
    within : (b : Bool) (x y : ℕ) → (if b then x - y else 0) ≤ (if b then x else 0)
    within true x y = omega arith
    within false x y = omega arith
