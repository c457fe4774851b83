-- What keeps a state open while units move within marked trees.
use Rattle.std.proofs.Common.{◌≡◌, ℕ, ◌+◌, ◌-◌, ◌<◌, ◌≤◌, ◌==◌, Bool, true, false, ◌&&◌, if◌then◌else◌, List, length, slice_index, slice_set, get_or-set_same, get_or-set_other, refl, sym, ap, ◌∙◌, subst, inl, inr, ◌⊎◌, arith}
use Rattle.std.proofs.Math.ListN.{length-set}
use Rattle.std.proofs.lemmas.Bool.{and_parts, cases_Bool, cases_eq, cases_lt, eq-eqb, eqb-true, false≢true, ne_eqb}
use Rattle.map_model.specs.Market.{Market, IsMarket, IsSameShape, capacity_of, choices_of, demand_of, limit_of}
use Rattle.map_model.specs.Allocation.{IsOffer, amount_at, counts_at, load, placed}
use Rattle.map_model.proofs.Shapes.{IsOffer-shape, limit_of-shape, shape_sym, shape_trans}
use Rattle.evict.specs.Standing.{IsGranted, IsOpen, IsReady, IsReleased, Standing}
use Rattle.evict.proofs.Shaped.{AreLines-shape}
use Rattle.reopen.specs.Cutting.{CanCut, IsCut}
use Rattle.reopen.specs.Rolling.{IsBackAt, is_marked}
use Rattle.reopen.proofs.Lessening.{sums_released}
use Rattle.move_up.specs.Moved.{IsMoved}

-- units moved, and then some more
pub moved_trans : (m : Market) (marks : List Bool) (a b c : Standing) → IsMoved m marks a b → IsMoved m marks b c → IsMoved m marks a c
moved_trans m marks a b c first next = record {
  is_open = next.is_open;
  market = next.market ∙ first.market;
  units = λ test none. next.units test none ∙ first.units test none;
  pointers = λ g l. omega (arith, next.pointers g l, first.pointers g l);
  back = λ g k l lt none. next.back g k l (first.back g k l lt none) none;
  no_more = λ g k o at. omega (arith, next.no_more g k o (omega (arith, at, first.pointers g o.group)), first.no_more g k o at);
}

-- a test that passes no offer in a marked tree does not pass one
apart : (m : Market) (marks : List Bool) (test : ℕ → ℕ → Bool) (g k units : ℕ) → IsOffer m g k → is_marked m marks g k ≡ true → ((h j : ℕ) → IsOffer m h j → test h j ≡ true → is_marked m marks h j ≡ false) → (if test g k then units else 0) ≡ 0
apart m marks test g k units o on none = elim (cases_Bool (test g k)) [
  | inl y ↦ absurd (false≢true (sym (none g k o y) ∙ on))
  | inr n ↦ rw n refl
]

-- units of an offer in a marked tree are free
pub moved_released : (m : Market) (marks : List Bool) (old new : Standing) (g k units : ℕ) → IsOpen m old → IsReleased old new g k units → IsOffer m g k → is_marked m marks g k ≡ true → IsMoved m marks old new
moved_released m marks old new g k units s rel o on = record {
  is_open = record {
    market = s.market;
    whole = rel.whole;
    shape = subst (λ (x : Market). IsSameShape x m) (sym rel.market) s.shape;
    form = AreLines-shape new.market m (subst (λ (x : Market). IsSameShape x m) (sym rel.market) s.shape) new.lines rel.form;
    pointers_for = ap length rel.pointers ∙ s.pointers_for;
    free_for = ap length rel.free ∙ length-set old.free g _ ∙ s.free_for;
    capacities = λ n l. omega (arith, rel.lines (counts_at m n), s.capacities n l);
    limits = λ h j oo. omega (arith, rel.lines (λ x y. (x == h) && (y == j)), s.limits h j oo);
    totals = λ h l. sums_released old new g k units rel (omega (arith, o.group, s.free_for)) h (omega (arith, l, s.free_for)) ∙ s.totals h l;
    in_list = λ h l. subst (λ (xs : List ℕ). slice_index xs h ≤ length (choices_of m h)) (sym rel.pointers) (s.in_list h l);
    none_past = λ h j oo lt. omega (arith, rel.lines (λ x y. (x == h) && (y == j)), s.none_past h j oo (subst (λ (xs : List ℕ). slice_index xs h < j) rel.pointers lt));
  };
  market = rel.market;
  units = λ test none. omega (arith, rel.lines test, apart m marks test g k units o on none);
  pointers = λ h l. omega (arith, ap (λ (xs : List ℕ). slice_index xs h) rel.pointers);
  back = λ h j l lt none. omega (arith, ap (λ (xs : List ℕ). slice_index xs h) rel.pointers, lt);
  no_more = λ h j oo at. omega (arith, rel.lines (λ x y. (x == h) && (y == j)));
}

-- free units are held at an offer in a marked tree
pub moved_granted : (m : Market) (marks : List Bool) (old new : Standing) (g k units : ℕ) → IsOpen m old → IsGranted old new g k units → IsOffer m g k → is_marked m marks g k ≡ true → k < slice_index old.pointers g → units ≤ slice_index old.free g
    → amount_at old.lines g k + units ≤ limit_of m g k → ((n : ℕ) → counts_at m n g k ≡ true → units ≤ capacity_of m n - load m old.lines n) → IsMoved m marks old new
moved_granted m marks old new g k units s grant o on upto some limit room = record {
  is_open = record {
    market = s.market;
    whole = grant.whole;
    shape = subst (λ (x : Market). IsSameShape x m) (sym grant.market) s.shape;
    form = AreLines-shape new.market m (subst (λ (x : Market). IsSameShape x m) (sym grant.market) s.shape) new.lines grant.form;
    pointers_for = ap length grant.pointers ∙ s.pointers_for;
    free_for = ap length grant.free ∙ length-set old.free g _ ∙ s.free_for;
    capacities = λ n l. fits n l (cases_Bool (counts_at m n g k));
    limits = λ h j oo. within h j oo (cases_Bool ((g == h) && (k == j)));
    totals = λ h l. sums h l (cases_eq g h);
    in_list = λ h l. subst (λ (xs : List ℕ). slice_index xs h ≤ length (choices_of m h)) (sym grant.pointers) (s.in_list h l);
    none_past = λ h j oo lt. past h j oo (subst (λ (xs : List ℕ). slice_index xs h < j) grant.pointers lt) (cases_Bool ((g == h) && (k == j)));
  };
  market = grant.market;
  units = λ test none. omega (arith, grant.lines test, apart m marks test g k units o on none);
  pointers = λ h l. omega (arith, ap (λ (xs : List ℕ). slice_index xs h) grant.pointers);
  back = λ h j l lt none. omega (arith, ap (λ (xs : List ℕ). slice_index xs h) grant.pointers, lt);
  no_more = λ h j oo at. least h j at (cases_Bool ((g == h) && (k == j)));
}
  where
    fits : (n : ℕ) → n < length m.nodes → (counts_at m n g k ≡ true) ⊎ (counts_at m n g k ≡ false) → load m new.lines n ≤ capacity_of m n
    fits n l (inr off) = let z : (if counts_at m n g k then units else 0) ≡ 0 = rw off refl in omega (arith, grant.lines (counts_at m n), z, s.capacities n l)
    fits n l (inl y) = let z : (if counts_at m n g k then units else 0) ≡ units = rw y refl in omega (arith, grant.lines (counts_at m n), z, room n y, s.capacities n l)

    within : (h j : ℕ) → IsOffer m h j → (((g == h) && (k == j)) ≡ true) ⊎ (((g == h) && (k == j)) ≡ false) → amount_at new.lines h j ≤ limit_of m h j
    within h j oo (inl y) =
        let p = and_parts (g == h) (k == j) y in
        let z : (if (g == h) && (k == j) then units else 0) ≡ units = rw y refl in
        let same : amount_at old.lines h j ≡ amount_at old.lines g k = ap (λ x. amount_at old.lines x j) (sym (eqb-true g h p.0)) ∙ ap (amount_at old.lines g) (sym (eqb-true k j p.1)) in
        let most : limit_of m h j ≡ limit_of m g k = ap (λ x. limit_of m x j) (sym (eqb-true g h p.0)) ∙ ap (limit_of m g) (sym (eqb-true k j p.1)) in
        omega (arith, grant.lines (λ x w. (x == h) && (w == j)), z, same, most, limit)
    within h j oo (inr y) = let z : (if (g == h) && (k == j) then units else 0) ≡ 0 = rw y refl in omega (arith, grant.lines (λ x w. (x == h) && (w == j)), z, s.limits h j oo)

    sums : (h : ℕ) → h < length m.groups → (g ≡ h) ⊎ (g ≡ h → ⊥) → placed new.lines h + slice_index new.free h ≡ demand_of m h
    sums h l (inl e) =
        let one : (if g == h then units else 0) ≡ units = rw (eq-eqb g h e) refl in
        let at : slice_index new.free h ≡ slice_index old.free g - units = ap (λ xs. slice_index xs h) grant.free ∙ ap (slice_index (slice_set old.free g (slice_index old.free g - units))) (sym e) ∙ get_or-set_same old.free g (slice_index old.free g - units) 0 (omega (arith, o.group, s.free_for)) in
        let same : slice_index old.free g ≡ slice_index old.free h = ap (slice_index old.free) e in
        omega (arith, grant.lines (λ x _. x == h), one, at, same, some, s.totals h l)
    sums h l (inr ne) =
        let none : (if g == h then units else 0) ≡ 0 = rw (ne_eqb g h ne) refl in
        let at : slice_index new.free h ≡ slice_index old.free h = ap (λ xs. slice_index xs h) grant.free ∙ get_or-set_other old.free g h (slice_index old.free g - units) 0 (λ e. ne (sym e)) in
        omega (arith, grant.lines (λ x _. x == h), none, at, s.totals h l)

    past : (h j : ℕ) → IsOffer m h j → slice_index old.pointers h < j → (((g == h) && (k == j)) ≡ true) ⊎ (((g == h) && (k == j)) ≡ false) → amount_at new.lines h j ≡ 0
    past h j oo lt (inl y) =
        let p = and_parts (g == h) (k == j) y in
        let e : slice_index old.pointers g ≡ slice_index old.pointers h = ap (slice_index old.pointers) (eqb-true g h p.0) in
        absurd (omega (arith, upto, e, lt, eqb-true k j p.1))
    past h j oo lt (inr y) = let z : (if (g == h) && (k == j) then units else 0) ≡ 0 = rw y refl in omega (arith, grant.lines (λ x w. (x == h) && (w == j)), z, s.none_past h j oo lt)

    least : (h j : ℕ) → slice_index old.pointers h ≤ j → (((g == h) && (k == j)) ≡ true) ⊎ (((g == h) && (k == j)) ≡ false) → amount_at new.lines h j ≤ amount_at old.lines h j
    least h j at (inl y) =
        let p = and_parts (g == h) (k == j) y in
        let e : slice_index old.pointers g ≡ slice_index old.pointers h = ap (slice_index old.pointers) (eqb-true g h p.0) in
        absurd (omega (arith, upto, e, at, eqb-true k j p.1))
    least h j at (inr y) = let z : (if (g == h) && (k == j) then units else 0) ≡ 0 = rw y refl in omega (arith, grant.lines (λ x w. (x == h) && (w == j)), z)

-- a pointer goes back to a place that is neither before the first place in a marked tree nor before the last at which units are held
pub moved_back : (m : Market) (marks : List Bool) (s : Standing) (g first place : ℕ) → IsOpen m s → g < length m.groups → place < slice_index s.pointers g → IsBackAt m marks g (slice_index s.pointers g) first → first ≤ place → ((j : ℕ) → IsOffer m g j → place < j → amount_at s.lines g j ≡ 0)
    → IsMoved m marks s (record s { pointers = slice_set s.pointers g place })
moved_back m marks s g first place v there lower at upto past = record {
  is_open = record {
    market = v.market;
    whole = v.whole;
    shape = v.shape;
    form = v.form;
    pointers_for = length-set s.pointers g place ∙ v.pointers_for;
    free_for = v.free_for;
    capacities = v.capacities;
    limits = v.limits;
    totals = v.totals;
    in_list = λ h l. elim (cases_eq g h) [ inl e ↦ omega (arith, here h e, ap (slice_index s.pointers) e, v.in_list h l, lower) | inr ne ↦ omega (arith, other h ne, v.in_list h l) ];
    none_past = λ h j o lt. elim (cases_eq g h) [
      | inl e ↦ subst (λ x. amount_at s.lines x j ≡ 0) e (past j (subst (λ x. IsOffer m x j) (sym e) o) (omega (arith, here h e, lt)))
      | inr ne ↦ v.none_past h j o (omega (arith, other h ne, lt))
    ];
  };
  market = refl;
  units = λ test none. refl;
  pointers = λ h l. elim (cases_eq g h) [ inl e ↦ omega (arith, here h e, ap (slice_index s.pointers) e, lower) | inr ne ↦ omega (arith, other h ne) ];
  back = λ h k l lt none. elim (cases_eq g h) [
    | inl e ↦ omega (arith, here h e, behind k (subst (λ x. (j : ℕ) → j ≤ k → is_marked m marks x j ≡ false) (sym e) none), upto)
    | inr ne ↦ omega (arith, other h ne, lt)
  ];
  no_more = λ h j o at. omega arith;
}
  where
    here : (h : ℕ) → g ≡ h → slice_index (slice_set s.pointers g place) h ≡ place
    here h e = ap (slice_index (slice_set s.pointers g place)) (sym e) ∙ get_or-set_same s.pointers g place 0 (omega (arith, there, v.pointers_for))

    other : (h : ℕ) → (g ≡ h → ⊥) → slice_index (slice_set s.pointers g place) h ≡ slice_index s.pointers h
    other h ne = get_or-set_other s.pointers g h place 0 (λ e. ne (sym e))

    -- no place up to k is marked, but the first one is
    behind : (k : ℕ) → ((j : ℕ) → j ≤ k → is_marked m marks g j ≡ false) → k < first
    behind k none = elim (cases_lt k first) [
      | inl l ↦ l
      | inr h ↦ absurd (false≢true (sym (none first (omega (arith, h))) ∙ at.at (omega (arith, lower, upto))))
    ]

-- a resumable state that was cut for other numbers is open for them
pub open_of_cut : (old new : Market) (s mid : Standing) → IsReady old s → IsMarket new → IsSameShape old new → IsCut new s mid → IsOpen new mid
open_of_cut old new s mid r market shape cut = record {
  market = market;
  whole = cut.less.whole;
  shape = subst (λ (x : Market). IsSameShape x new) (sym cut.less.market) (shape_trans s.market old new r.shape shape);
  form = cut.less.form;
  pointers_for = ap length cut.less.pointers ∙ r.resumable.pointers_for ∙ sym shape.groups;
  free_for = cut.less.count ∙ r.resumable.free_for ∙ sym shape.groups;
  capacities = cut.capacities;
  limits = λ g k o. omega (arith, cut.less.fewer (λ h j. (h == g) && (j == k)), r.resumable.limits g k (IsOffer-shape new old (shape_sym old new shape) g k o), limit_of-shape old new shape g k);
  totals = cut.totals;
  in_list = λ g l. let p : slice_index mid.pointers g ≡ slice_index s.pointers g = ap (λ (xs : List ℕ). slice_index xs g) cut.less.pointers in
      omega (arith, p, ap length (shape.lists g), r.resumable.in_list g (omega (arith, l, shape.groups)));
  none_past = λ g k o lt. omega (arith, cut.less.fewer (λ h j. (h == g) && (j == k)), r.resumable.none_past g k (IsOffer-shape new old (shape_sym old new shape) g k o) (subst (λ (xs : List ℕ). slice_index xs g < k) cut.less.pointers lt));
}
