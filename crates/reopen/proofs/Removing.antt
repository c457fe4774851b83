-- What a group held past a place is free.
use Rattle.std.proofs.Common.{◌≡◌, ℕ, ◌+◌, ◌<◌, ◌≤◌, ◌==◌, Bool, true, false, not, ◌&&◌, ◌||◌, nat_lt, nat_le, if◌then◌else◌, List, length, get_or, slice_index, slice_index_or, get_or-set_same, get_or-set_other, IsSome, refl, sym, ap, ◌∙◌, subst, inl, inr, arith}
use Rattle.std.proofs.Math.ListN.{length-set}
use Rattle.std.proofs.lemmas.Bool.{and_parts, cases_Bool, cases_eq, cases_lt, eq-eqb, ne_eqb, eqb-true, false≢true, lt-ltb, ltb-true}
use Rattle.std.proofs.lemmas.Bool.Decides.{nat_tests}
use Rattle.map_model.specs.declared.lines.MapLine.{MapLine}
use Rattle.map_model.specs.Market.{Market, IsSameShape, choices_of}
use Rattle.map_model.specs.Allocation.{AreLines, IsOffer, amount_at, counts_at, refuser_of, units_of}
use Rattle.map_model.specs.Progress.{tree_of}
use Rattle.map_model.proofs.MapForm.{line-some, offers-AreLines}
use Rattle.map_model.proofs.Shapes.{shape_itself}
use Rattle.map_model.proofs.Units.{none-units, sum_by-add, units-agree, units_of-le}
use Rattle.evict.specs.Standing.{IsReleased, Standing}
use Rattle.evict.proofs.Shaped.{AreLines-shape, units_of-same}
use Rattle.reopen.specs.Cutting.{CanCut, KeepsSums}
use Rattle.reopen.specs.Rolling.{CanRollBack, IsBackAt, IsGroupBack, IsReleasedPast, IsRolledBack, is_marked}
use Rattle.reopen.proofs.Lessening.{sums_itself, sums_released, sums_trans}
use Rattle.reopen.proofs.Sameness.{IsSameIn, refuser-same}

and-true : (b : Bool) → (b && true) ≡ b
and-true true = refl
and-true false = refl

-- the units at one offer and all others
pub units-without : (test : ℕ → ℕ → Bool) (lines : List MapLine) (g k : ℕ) → units_of test lines ≡ units_of (λ h j. test h j && not ((h == g) && (j == k))) lines + (if test g k then amount_at lines g k else 0)
units-without test lines g k = elim (cases_Bool (test g k)) [
  | inl y ↦
      let all : (if test g k then amount_at lines g k else 0) ≡ amount_at lines g k = rw y refl in
      omega (arith, all, sum_by-add (λ (x : MapLine). if test x.group.0 x.place then x.amount else 0) (λ (x : MapLine). if test x.group.0 x.place && not ((x.group.0 == g) && (x.place == k)) then x.amount else 0) (λ (x : MapLine). if (x.group.0 == g) && (x.place == k) then x.amount else 0) (λ x. split y x.group.0 x.place x.amount) lines)
  | inr n ↦
      let none : (if test g k then amount_at lines g k else 0) ≡ 0 = rw n refl in
      omega (arith, none, units_of-same test (λ h j. test h j && not ((h == g) && (j == k))) (λ h j. same n h j) lines)
]
  where
    split : test g k ≡ true → (h j a : ℕ) → (if test h j then a else 0) ≡ (if test h j && not ((h == g) && (j == k)) then a else 0) + (if (h == g) && (j == k) then a else 0)
    split y h j a = elim (cases_Bool ((h == g) && (j == k))) [
      | inl here ↦
          let p = and_parts (h == g) (j == k) here in
          let t : test h j ≡ true = ap (λ x. test x j) (eqb-true h g p.0) ∙ ap (test g) (eqb-true j k p.1) ∙ y in
          rw (here, t) (omega arith)
      | inr other ↦ rw (other, and-true (test h j)) (omega arith)
    ]

    same : test g k ≡ false → (h j : ℕ) → test h j ≡ (test h j && not ((h == g) && (j == k)))
    same n h j = elim (cases_Bool ((h == g) && (j == k))) [
      | inl here ↦
          let p = and_parts (h == g) (j == k) here in
          let t : test h j ≡ false = ap (λ x. test x j) (eqb-true h g p.0) ∙ ap (test g) (eqb-true j k p.1) ∙ n in
          rw (here, t) refl
      | inr other ↦ rw other (sym (and-true (test h j)))
    ]

-- what a group held past one place and before another is free
pub record IsReleasing (m : Market) (g place past : ℕ) (old new : Standing) : Type 0 where
  pub can : CanCut m new
  pub market : new.market ≡ old.market
  pub count : length new.free ≡ length old.free
  pub pointers : new.pointers ≡ old.pointers
  pub units : (test : ℕ → ℕ → Bool) → units_of test new.lines ≡ units_of (λ h k. test h k && not ((h == g) && (nat_lt place k && nat_lt k past))) old.lines
  pub sums : KeepsSums old new

pub releasing_start : (m : Market) (s : Standing) (g place past : ℕ) → CanCut m s → past ≤ place + 1 → IsReleasing m g place past s s
releasing_start m s g place past can low = record {
  can = can;
  market = refl;
  count = refl;
  pointers = refl;
  units = λ test. units_of-same test (λ h k. test h k && not ((h == g) && (nat_lt place k && nat_lt k past))) (λ h k. still (test h k) (h == g) k) s.lines;
  sums = sums_itself s;
}
  where
    still : (b c : Bool) (k : ℕ) → b ≡ (b && not (c && (nat_lt place k && nat_lt k past)))
    still b c k =
        let none : (nat_lt place k && nat_lt k past) ≡ false = elim (cases_Bool (nat_lt place k && nat_lt k past)) [ inr n ↦ n | inl y ↦ let p = and_parts (nat_lt place k) (nat_lt k past) y in absurd (omega (arith, ltb-true place k p.0, ltb-true k past p.1)) ] in
        rw none (bools b c)
      where
        bools : (b c : Bool) → b ≡ (b && not (c && false))
        bools true true = refl
        bools true false = refl
        bools false c = refl

pub releasing_step : (m : Market) (start old new : Standing) (g place past units : ℕ) → IsReleasing m g place past start old → place < past → IsOffer m g past → units ≡ amount_at old.lines g past → IsReleased old new g past units → IsReleasing m g place (past + 1) start new
releasing_step m start old new g place past units before later o all rel =
    let shape : IsSameShape new.market m = subst (λ (x : Market). IsSameShape x m) (sym rel.market) before.can.shape in
    let count : length new.free ≡ length old.free = ap length rel.free ∙ length-set old.free g _ in
    record {
      can = record { market = before.can.market; whole = rel.whole; shape = shape; form = AreLines-shape new.market m shape new.lines rel.form; count = count ∙ before.can.count };
      market = rel.market ∙ before.market;
      count = count ∙ before.count;
      pointers = rel.pointers ∙ before.pointers;
      units = λ test.
          let without : units_of test new.lines ≡ units_of (λ h j. test h j && not ((h == g) && (j == past))) old.lines = taken test in
          without ∙ before.units (λ h j. test h j && not ((h == g) && (j == past))) ∙ units_of-same (λ h k. (test h k && not ((h == g) && (k == past))) && not ((h == g) && (nat_lt place k && nat_lt k past))) (λ h k. test h k && not ((h == g) && (nat_lt place k && nat_lt k (past + 1)))) (λ h k. more (test h k) (h == g) k) start.lines;
      sums = sums_trans start old new before.count before.sums (sums_released old new g past units rel (omega (arith, before.can.count, o.group)));
    }
  where
    taken : (test : ℕ → ℕ → Bool) → units_of test new.lines ≡ units_of (λ h j. test h j && not ((h == g) && (j == past))) old.lines
    taken test = two (test g past) (units_of test new.lines) (units_of test old.lines) _ units (amount_at old.lines g past) (rel.lines test) (units-without test old.lines g past) all
      where
        two : (b : Bool) (x y z u a : ℕ) → x + (if b then u else 0) ≡ y → y ≡ z + (if b then a else 0) → u ≡ a → x ≡ z
        two true x y z u a e f s = omega arith
        two false x y z u a e f s = omega arith

    more : (b c : Bool) (k : ℕ) → ((b && not (c && (k == past))) && not (c && (nat_lt place k && nat_lt k past))) ≡ (b && not (c && (nat_lt place k && nat_lt k (past + 1))))
    more false c k = refl
    more true false k = refl
    more true true k = elim (cases_eq k past) [
      | inl e ↦
          let a : (k == past) ≡ true = eq-eqb k past e in
          let b : nat_lt place k ≡ true = lt-ltb place k (omega arith) in
          let d : nat_lt k (past + 1) ≡ true = lt-ltb k (past + 1) (omega arith) in
          rw (a, b, d) refl
      | inr ne ↦
          let a : (k == past) ≡ false = ne_eqb k past ne in
          let d : nat_lt k past ≡ nat_lt k (past + 1) = elim (cases_lt k past) [
            | inl l ↦ lt-ltb k past l ∙ sym (lt-ltb k (past + 1) (omega arith))
            | inr h ↦ grind (arith, nat_tests, h, ne)
          ] in
          rw (a, d) refl
    ]

pub releasing_end : (m : Market) (old new : Standing) (g place past : ℕ) → AreLines m old.lines → IsReleasing m g place past old new → length (choices_of m g) ≤ past → IsReleasedPast m g place old new
releasing_end m old new g place past form done high = record {
  can = done.can;
  market = done.market;
  count = done.count;
  pointers = done.pointers;
  units = λ test. done.units test ∙ units-agree (λ h k. test h k && not ((h == g) && (nat_lt place k && nat_lt k past))) (λ h k. test h k && not ((h == g) && nat_lt place k)) old.lines (λ i d l. agree test (get_or old.lines i d) (offers-AreLines m old.lines form i d l));
  sums = done.sums;
}
  where
    agree : (test : ℕ → ℕ → Bool) (x : MapLine) → IsOffer m x.group.0 x.place → (test x.group.0 x.place && not ((x.group.0 == g) && (nat_lt place x.place && nat_lt x.place past))) ≡ (test x.group.0 x.place && not ((x.group.0 == g) && nat_lt place x.place))
    agree test x o = elim (cases_Bool (x.group.0 == g)) [
      | inr n ↦ rw n refl
      | inl y ↦
          let e : x.group.0 ≡ g = eqb-true x.group.0 g y in
          let low : x.place < length (choices_of m g) = subst (λ h. x.place < length (choices_of m h)) e o.place in
          let b : nat_lt x.place past ≡ true = lt-ltb x.place past (omega arith) in
          rw (b, and-true (nat_lt place x.place)) refl
    ]

-- some groups have been sent back
pub record IsRolling (m : Market) (marks : List Bool) (i : ℕ) (old new : Standing) : Type 0 where
  pub can : CanCut m new
  pub market : new.market ≡ old.market
  pub count : length new.pointers ≡ length m.groups
  pub frees : length new.free ≡ length old.free
  pub done : (h : ℕ) → h < length m.groups → h < i → IsBackAt m marks h (slice_index old.pointers h) (slice_index new.pointers h)
  pub to_do : (h : ℕ) → h < length m.groups → i ≤ h → slice_index new.pointers h ≡ slice_index old.pointers h
  pub units : (test : ℕ → ℕ → Bool) → units_of test new.lines ≡ units_of (λ h k. test h k && (nat_le i h || nat_le k (slice_index new.pointers h))) old.lines
  pub sums : KeepsSums old new

pub can_cut : (m : Market) (marks : List Bool) (s : Standing) → CanRollBack m marks s → CanCut m s
can_cut m marks s can = record { market = can.is_open.market; whole = can.is_open.whole; shape = can.is_open.shape; form = can.is_open.form; count = can.is_open.free_for }

pub rolling_start : (m : Market) (marks : List Bool) (s : Standing) → CanRollBack m marks s → IsRolling m marks 0 s s
rolling_start m marks s can = record {
  can = can_cut m marks s can;
  market = refl;
  count = can.is_open.pointers_for;
  frees = refl;
  done = λ h l low. absurd (omega arith);
  to_do = λ h l high. refl;
  units = λ test. units_of-same test (λ h k. test h k && (nat_le 0 h || nat_le k (slice_index s.pointers h))) (λ h k. all (test h k) h (nat_le k (slice_index s.pointers h))) s.lines;
  sums = sums_itself s;
}
  where
    all : (b : Bool) (h : ℕ) (c : Bool) → b ≡ (b && (nat_le 0 h || c))
    all b h c = let z : nat_le 0 h ≡ true = grind (arith, nat_tests) in rw z (sym (and-true b))

pub rolling_step : (m : Market) (marks : List Bool) (i : ℕ) (start old new : Standing) → IsRolling m marks i start old → i < length m.groups → IsGroupBack m marks i old new → IsRolling m marks (i + 1) start new
rolling_step m marks i start old new before here back = record {
  can = back.can;
  market = back.market ∙ before.market;
  count = ap length back.pointers ∙ length-set old.pointers i _ ∙ before.count;
  frees = back.count ∙ before.frees;
  done = λ h l low. elim (cases_eq h i) [
    | inl e ↦ subst (λ x. IsBackAt m marks x (slice_index start.pointers x) (slice_index new.pointers x)) (sym e) (subst (λ p. IsBackAt m marks i (slice_index start.pointers i) p) (sym now) (subst (λ p. IsBackAt m marks i p back.place) (before.to_do i here (omega arith)) back.at))
    | inr ne ↦ subst (λ p. IsBackAt m marks h (slice_index start.pointers h) p) (sym (other h ne)) (before.done h l (omega arith))
  ];
  to_do = λ h l high. other h (λ e. omega arith) ∙ before.to_do h l (omega arith);
  units = λ test. back.units test ∙ before.units (λ h k. test h k && not ((h == i) && nat_lt back.place k))
      ∙ units_of-same (λ h k. (test h k && not ((h == i) && nat_lt back.place k)) && (nat_le i h || nat_le k (slice_index old.pointers h))) (λ h k. test h k && (nat_le (i + 1) h || nat_le k (slice_index new.pointers h))) (λ h k. each (test h k) h k) start.lines;
  sums = sums_trans start old new before.frees before.sums back.sums;
}
  where
    now : slice_index new.pointers i ≡ back.place
    now = ap (λ xs. slice_index xs i) back.pointers ∙ get_or-set_same old.pointers i back.place 0 (omega (arith, before.count, here))

    other : (h : ℕ) → (h ≡ i → ⊥) → slice_index new.pointers h ≡ slice_index old.pointers h
    other h ne = ap (λ xs. slice_index xs h) back.pointers ∙ get_or-set_other old.pointers i h back.place 0 ne

    past_or_not : (p k : ℕ) → not (nat_lt p k) ≡ nat_le k p
    past_or_not p k = grind (arith, nat_tests)

    each : (b : Bool) (h k : ℕ) → ((b && not ((h == i) && nat_lt back.place k)) && (nat_le i h || nat_le k (slice_index old.pointers h))) ≡ (b && (nat_le (i + 1) h || nat_le k (slice_index new.pointers h)))
    each false h k = refl
    each true h k = elim (cases_eq h i) [
      | inl e ↦
          let a : (h == i) ≡ true = eq-eqb h i e in
          let b : nat_le i h ≡ true = grind (arith, nat_tests, e) in
          let d : nat_le (i + 1) h ≡ false = grind (arith, nat_tests, e) in
          let f : slice_index new.pointers h ≡ back.place = ap (slice_index new.pointers) e ∙ now in
          rw (a, b, d, f, past_or_not back.place k) (and-true (nat_le k back.place))
      | inr ne ↦
          let a : (h == i) ≡ false = ne_eqb h i ne in
          let b : nat_le (i + 1) h ≡ nat_le i h = grind (arith, nat_tests, ne) in
          rw (a, b, other h ne) refl
    ]

-- what was released is no longer held
pub none_released : (m : Market) (g place : ℕ) (old new : Standing) → IsReleasedPast m g place old new → (k : ℕ) → place < k → amount_at new.lines g k ≡ 0
none_released m g place old new done k past = done.units (λ h j. (h == g) && (j == k)) ∙ none-units (λ h j. ((h == g) && (j == k)) && not ((h == g) && nat_lt place j)) old.lines each
  where
    each : (h j : ℕ) → (((h == g) && (j == k)) && not ((h == g) && nat_lt place j)) ≡ false
    each h j = elim (cases_Bool ((h == g) && (j == k))) [
      | inr n ↦ rw n refl
      | inl y ↦
          let p = and_parts (h == g) (j == k) y in
          let later : nat_lt place j ≡ true = lt-ltb place j (omega (arith, eqb-true j k p.1)) in
          rw (y, p.0, later) refl
    ]

-- once all groups have been sent back the state is resumable
pub rolled_back : (m : Market) (marks : List Bool) (i : ℕ) (old new : Standing) → CanRollBack m marks old → IsRolling m marks i old new → length m.groups ≤ i → IsRolledBack m marks old new
rolled_back m marks i old new can done all = record {
  ready = record {
    market = can.is_open.market;
    whole = done.can.whole;
    shape = done.can.shape;
    resumable = record {
      form = done.can.form;
      pointers_for = done.count;
      free_for = done.can.count;
      capacities = λ n l. omega (arith, can.is_open.capacities n l, fewer (counts_at m n));
      limits = λ g k o. omega (arith, can.is_open.limits g k o, fewer (λ h j. (h == g) && (j == k)));
      totals = λ g l. done.sums g (omega (arith, can.is_open.free_for)) ∙ can.is_open.totals g l;
      in_list = λ g l. omega (arith, (at g l).within, can.is_open.in_list g l);
      none_past = λ g k o past. none g k past;
      refused = λ g k o before. refused g k o before;
    };
  };
  market = done.market;
  pointers = at;
  units = units;
}
  where
    at : (g : ℕ) → g < length m.groups → IsBackAt m marks g (slice_index old.pointers g) (slice_index new.pointers g)
    at g l = done.done g l (omega (arith, all))

    units : (test : ℕ → ℕ → Bool) → units_of test new.lines ≡ units_of (λ g k. test g k && nat_le k (slice_index new.pointers g)) old.lines
    units test = done.units test ∙ units-agree (λ g k. test g k && (nat_le i g || nat_le k (slice_index new.pointers g))) (λ g k. test g k && nat_le k (slice_index new.pointers g)) old.lines (λ j d l. agree (get_or old.lines j d) (offers-AreLines m old.lines can.is_open.form j d l))
      where
        agree : (x : MapLine) → IsOffer m x.group.0 x.place → (test x.group.0 x.place && (nat_le i x.group.0 || nat_le x.place (slice_index new.pointers x.group.0))) ≡ (test x.group.0 x.place && nat_le x.place (slice_index new.pointers x.group.0))
        agree x o = let low : nat_le i x.group.0 ≡ false = grind (arith, nat_tests, o.group, all) in rw low refl

    fewer : (test : ℕ → ℕ → Bool) → units_of test new.lines ≤ units_of test old.lines
    fewer test = omega (arith, units test, units_of-le (λ g k. test g k && nat_le k (slice_index new.pointers g)) test (λ g k t. (and_parts (test g k) (nat_le k (slice_index new.pointers g)) t).0) old.lines)

    none : (g k : ℕ) → slice_index new.pointers g < k → amount_at new.lines g k ≡ 0
    none g k past = units (λ h j. (h == g) && (j == k)) ∙ none-units (λ h j. ((h == g) && (j == k)) && nat_le j (slice_index new.pointers h)) old.lines each
      where
        each : (h j : ℕ) → (((h == g) && (j == k)) && nat_le j (slice_index new.pointers h)) ≡ false
        each h j = elim (cases_Bool ((h == g) && (j == k))) [
          | inr n ↦ rw n refl
          | inl y ↦
              let p = and_parts (h == g) (j == k) y in
              let e : slice_index new.pointers h ≡ slice_index new.pointers g = ap (slice_index new.pointers) (eqb-true h g p.0) in
              let low : nat_le j (slice_index new.pointers h) ≡ false = grind (arith, nat_tests, e, eqb-true j k p.1, past) in
              rw (y, low) refl
        ]

    -- a tree that is not marked keeps its units
    same : (root : ℕ) → ((g k : ℕ) → tree_of m g k ≡ root → is_marked m marks g k ≡ false) → IsSameIn m root old.lines new.lines
    same root clear test of = units test ∙ units-agree (λ g k. test g k && nat_le k (slice_index new.pointers g)) test old.lines (λ j d l. agree (get_or old.lines j d) (offers-AreLines m old.lines can.is_open.form j d l) (line-some m old.lines can.is_open.form j d l))
      where
        stays : (g k : ℕ) → IsOffer m g k → 0 < amount_at old.lines g k → is_marked m marks g k ≡ false → nat_le k (slice_index new.pointers g) ≡ true
        stays g k o some free = elim (cases_lt (slice_index new.pointers g) k) [
          | inr low ↦ grind (arith, nat_tests, low)
          | inl past ↦
              let p : ℕ = slice_index new.pointers g in
              let b = at g o.group in
              elim (cases_lt p (slice_index old.pointers g)) [
                | inl back ↦ absurd (false≢true (sym free ∙ can.closed g p k (record { group = o.group; place = omega (arith, past, o.place) }) back (b.at back) o some))
                | inr kept ↦ absurd (omega (arith, some, can.is_open.none_past g k o (omega (arith, past, kept, b.within))))
              ]
        ]

        agree : (x : MapLine) → IsOffer m x.group.0 x.place → 0 < amount_at old.lines x.group.0 x.place → (test x.group.0 x.place && nat_le x.place (slice_index new.pointers x.group.0)) ≡ test x.group.0 x.place
        agree x o some = elim (cases_Bool (test x.group.0 x.place)) [
          | inr n ↦ rw n refl
          | inl y ↦ rw (y, stays x.group.0 x.place o some (clear x.group.0 x.place (of x.group.0 x.place o y))) refl
        ]

    refused : (g k : ℕ) → IsOffer m g k → k < slice_index new.pointers g → IsSome (refuser_of m new.lines g k)
    refused g k o before =
        let b = at g o.group in
        let clear : is_marked m marks g k ≡ false = b.before k before in
        let was : IsSome (refuser_of m old.lines g k) = can.refused g k o (omega (arith, before, b.within)) clear in
        let keeps = refuser-same m m (shape_itself m) can.is_open.market old.lines new.lines can.is_open.form done.can.form g k o (λ n l e. refl) (same (tree_of m g k) (λ h j e. ap (λ r. slice_index_or marks r false) e ∙ clear)) in
        subst (λ x. IsSome x) (sym keeps) was
