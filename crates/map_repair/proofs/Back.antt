-- Where a state may be rolled back there is a rolled-back one, whether or not it is ever made.
use Rattle.std.proofs.Common.{◌≡◌, ℕ, zero, suc, ◌+◌, ◌-◌, ◌<◌, ◌≤◌, ◌==◌, Bool, true, false, ◌&&◌, ◌||◌, nat_le, if◌then◌else◌, List, [], ◌∷◌, length, get_or, slice_index, All, cond, map, refl, sym, ap, ◌∙◌, subst, inl, inr, arith}
use Rattle.std.specs.List.{filter, range_with_len}
use Rattle.std.proofs.lemmas.Bool.{and_from, and_parts, cases_Bool, cases_lt, lt-ltb}
use Rattle.std.proofs.lemmas.List.Elements.{All-filter}
use Rattle.std.proofs.lemmas.List.FromFn.{get_or-map-range_with_len, length-map-range_with_len}
use Rattle.std.proofs.lemmas.List.Sums.{sum_by-cons}
use Rattle.map_model.specs.declared.lines.MapLine.{MapLine}
use Rattle.map_model.specs.Market.{Market, IsMarket}
use Rattle.map_model.specs.Allocation.{AreLines, IsOffer, placed, units_of}
use Rattle.map_model.proofs.MapForm.{few_places, no_line, offers-AreLines}
use Rattle.map_model.proofs.Rising.{Rises, Rises-at, Rises-lower, before_by_rank, first_or}
use Rattle.map_model.proofs.Units.{units_of-le}
use Rattle.evict.specs.Standing.{Standing}
use Rattle.reopen.specs.Cutting.{KeepsSums}
use Rattle.reopen.specs.Rolling.{CanRollBack, IsBackAt, IsRolledBack, is_marked}
use Rattle.reopen.proofs.Removing.{IsRolling, rolled_back}
use Rattle.map_laws.proofs.Same.{IsSome_line, rank_of, rising_lines}

-- elements that are left out leave ranks that rise
rises_filter : {X : Type 0} (rank : X → ℕ) (In : X → Type 0) (p : X → Bool) (from : ℕ) (xs : List X) → Rises rank In from xs → Rises rank In from (filter p xs)
rises_filter rank In p from [] r = tt
rises_filter rank In p from (x ∷ xs) r = elim (cases_Bool (p x)) [
  | inl y ↦ subst (λ b. Rises rank In from (cond b (x ∷ filter p xs) (filter p xs))) (sym y) (r.0, r.1, rises_filter rank In p (rank x + 1) xs r.2)
  | inr n ↦
      let start : from ≤ rank x = r.0 in
      let rest : Rises rank In from (filter p xs) = Rises-lower rank In from (rank x + 1) (filter p xs) (omega (arith, start)) (rises_filter rank In p (rank x + 1) xs r.2) in
      subst (λ b. Rises rank In from (cond b (x ∷ filter p xs) (filter p xs))) (sym n) rest
]

-- and lines in the form of a map
lines_filter : (m : Market) → IsMarket m → (p : MapLine → Bool) (lines : List MapLine) → AreLines m lines → AreLines m (filter p lines)
lines_filter m market p lines form i l =
    let kept : List MapLine = filter p lines in
    let offers : All (λ x. IsOffer m x.group.0 x.place) kept = All-filter p (λ x. IsOffer m x.group.0 x.place) lines (offers-AreLines m lines form) in
    let a = Rises-at rank_of IsSome_line no_line 0 kept (rises_filter rank_of IsSome_line p 0 lines (rising_lines m market lines form)) i l in
    let o : IsOffer m (get_or kept i no_line).group.0 (get_or kept i no_line).place = offers i no_line l in
    let b : MapLine = get_or kept (i - 1) no_line in
    let x : MapLine = get_or kept i no_line in
    and_from _ _ (and_from _ _ (and_from _ _ (lt-ltb _ _ o.group) (lt-ltb _ _ o.place)) (lt-ltb _ _ a.range.1)) (first_or i _ (λ some. before_by_rank b.group.0 b.place x.group.0 x.place (few_places m market _ _ (offers (i - 1) no_line (omega arith))) (few_places m market _ _ o) (a.above some)))

-- their units are those that pass the test of the lines as well
units_filter : (p test : ℕ → ℕ → Bool) (lines : List MapLine) → units_of test (filter (λ (l : MapLine). p l.group.0 l.place) lines) ≡ units_of (λ g k. test g k && p g k) lines
units_filter p test [] = refl
units_filter p test (l ∷ ls) = elim (cases_Bool (p l.group.0 l.place)) [
  | inl y ↦
      let here : (if test l.group.0 l.place && p l.group.0 l.place then l.amount else 0) ≡ (if test l.group.0 l.place then l.amount else 0) = rw y (ap (λ b. if b then l.amount else 0) (and-true (test l.group.0 l.place))) in
      let head : units_of test (filter (λ (x : MapLine). p x.group.0 x.place) (l ∷ ls)) ≡ units_of test (l ∷ filter (λ (x : MapLine). p x.group.0 x.place) ls) = ap (λ b. units_of test (cond b (l ∷ filter (λ (x : MapLine). p x.group.0 x.place) ls) (filter (λ (x : MapLine). p x.group.0 x.place) ls))) y in
      omega (
        arith,
        head,
        here,
        sum_by-cons (λ (x : MapLine). if test x.group.0 x.place then x.amount else 0) l (filter (λ (x : MapLine). p x.group.0 x.place) ls),
        sum_by-cons (λ (x : MapLine). if test x.group.0 x.place && p x.group.0 x.place then x.amount else 0) l ls,
        units_filter p test ls,
      )
  | inr n ↦
      let here : (if test l.group.0 l.place && p l.group.0 l.place then l.amount else 0) ≡ 0 = rw n (ap (λ b. if b then l.amount else 0) (and-false (test l.group.0 l.place))) in
      let head : units_of test (filter (λ (x : MapLine). p x.group.0 x.place) (l ∷ ls)) ≡ units_of test (filter (λ (x : MapLine). p x.group.0 x.place) ls) = ap (λ b. units_of test (cond b (l ∷ filter (λ (x : MapLine). p x.group.0 x.place) ls) (filter (λ (x : MapLine). p x.group.0 x.place) ls))) n in
      omega (arith, head, here, sum_by-cons (λ (x : MapLine). if test x.group.0 x.place && p x.group.0 x.place then x.amount else 0) l ls, units_filter p test ls)
]
  where
    and-true : (b : Bool) → (b && true) ≡ b
    and-true true = refl
    and-true false = refl

    and-false : (b : Bool) → (b && false) ≡ false
    and-false true = refl
    and-false false = refl

-- the first place before another whose tree is marked, or that place
back_place : (m : Market) (marks : List Bool) (g old : ℕ) → (place : ℕ) × IsBackAt m marks g old place
back_place m marks g zero = (0, record { within = omega arith; before = λ k l. absurd (omega arith); at = λ l. absurd (omega arith) })
back_place m marks g (suc n) =
    let w = back_place m marks g n in
    let b : IsBackAt m marks g n w.0 = w.1 in
    elim (cases_lt w.0 n) [
      | inl found ↦ (w.0, record { within = omega (arith, b.within); before = b.before; at = λ l. b.at found })
      | inr all ↦
          let clear : (k : ℕ) → k < n → is_marked m marks g k ≡ false = λ k l. b.before k (omega (arith, l, all)) in
          elim (cases_Bool (is_marked m marks g n)) [
            | inl y ↦ (n, record { within = omega arith; before = clear; at = λ l. y })
            | inr off ↦ (
              suc n,
              record {
                within = omega arith;
                before = λ k l. elim (cases_lt k n) [ inl low ↦ clear k low | inr high ↦ let e : n ≡ k = omega (arith, l, high) in subst (λ x. is_marked m marks g x ≡ false) e off ];
                at = λ l. absurd (omega (arith, l));
              },
            )
          ]
    ]

module _ (m : Market) (marks : List Bool) (s : Standing) (can : CanRollBack m marks s) where
  abbrev count : ℕ
  count = length m.groups

  abbrev place : ℕ → ℕ
  place g = (back_place m marks g (slice_index s.pointers g)).0

  abbrev pointers : List ℕ
  pointers = map place (range_with_len 0 count)

  -- an offer keeps its units
  abbrev stays : ℕ → ℕ → Bool
  stays g k = nat_le count g || nat_le k (slice_index pointers g)

  abbrev lines : List MapLine
  lines = filter (λ (l : MapLine). stays l.group.0 l.place) s.lines

  abbrev free_of : ℕ → ℕ
  free_of g = (placed s.lines g + slice_index s.free g) - placed lines g

  abbrev back : Standing
  back = record { market = s.market; lines = lines; pointers = pointers; free = map free_of (range_with_len 0 count); is_whole = s.is_whole }

  held : (test : ℕ → ℕ → Bool) → units_of test lines ≡ units_of (λ g k. test g k && stays g k) s.lines
  held test = units_filter stays test s.lines

  fewer : (g : ℕ) → placed lines g ≤ placed s.lines g
  fewer g = omega (arith, held (λ h _. h == g), units_of-le (λ h k. (h == g) && stays h k) (λ h _. h == g) (λ h k t. (and_parts (h == g) (stays h k) t).0) s.lines)

  at_back : (g : ℕ) → g < length m.groups → IsBackAt m marks g (slice_index s.pointers g) (slice_index pointers g)
  at_back g l =
      let here : slice_index pointers g ≡ place g = get_or-map-range_with_len place 0 count g g 0 l (omega arith) in
      subst (λ p. IsBackAt m marks g (slice_index s.pointers g) p) (sym here) (back_place m marks g (slice_index s.pointers g)).1

  sums : KeepsSums s back
  sums g l =
      let there : g < count = omega (arith, l, can.is_open.free_for) in
      let at : slice_index back.free g ≡ free_of g = get_or-map-range_with_len free_of 0 count g g 0 there (omega arith) in
      omega (arith, at, fewer g)

  rolling : IsRolling m marks count s back
  rolling = record {
    can = record { market = can.is_open.market; whole = can.is_open.whole; shape = can.is_open.shape; form = lines_filter m can.is_open.market (λ (l : MapLine). stays l.group.0 l.place) s.lines can.is_open.form; count = length-map-range_with_len free_of 0 count };
    market = refl;
    count = length-map-range_with_len place 0 count;
    frees = length-map-range_with_len free_of 0 count ∙ sym can.is_open.free_for;
    done = λ h l low. at_back h l;
    to_do = λ h l high. absurd (omega (arith, l, high));
    units = held;
    sums = sums;
  }

  -- A state that may be rolled back has a rolled-back one.
  pub rolled_back_exists : (back : Standing) × IsRolledBack m marks s back
  rolled_back_exists = (back, rolled_back m marks count s back can rolling (omega arith))
