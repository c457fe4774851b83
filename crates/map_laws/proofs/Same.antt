-- Lines in the form of a map are determined by the amounts at offers.
use Rattle.std.proofs.Common.{◌≡◌, ℕ, suc, ◌+◌, ◌-◌, ◌*◌, ◌<◌, ◌≤◌, ◌==◌, ◌&&◌, true, if◌then◌else◌, List, [], ◌∷◌, length, get_or, refl, sym, ap, ◌∙◌, subst, inl, inr, arith}
use Rattle.std.proofs.lemmas.Bool.{and_parts, cases_Bool, cases_lt, cases_order, eq-eqb, eqb-true}
use Rattle.std.proofs.lemmas.List.Sums.{sum_by-cons}
use Rattle.map_model.specs.declared.lines.MapLine.{MapLine}
use Rattle.map_model.specs.Market.{Market, IsMarket}
use Rattle.map_model.specs.Allocation.{AreLines, IsOffer, amount_at, is_before}
use Rattle.map_model.proofs.MapForm.{IsLineAt-from, few_places, no_line, offers-AreLines, rises}
use Rattle.map_model.proofs.Rising.{Rises}
use Rattle.best_laws.proofs.Offers.{held_offer}

-- the number of a line's offer, of 16 for each group
abbrev pub rank_of : MapLine → ℕ
rank_of l = l.group.0 * 16 + l.place

-- a line of some units, at one of 16 places
abbrev pub IsSome_line : MapLine → Type 0
IsSome_line l = (l.place < 16) × (0 < l.amount)

abbrev pub AreRising : ℕ → List MapLine → Type 0
AreRising from lines = Rises rank_of IsSome_line from lines

-- what is known by number
record ByNumber (from : ℕ) (xs : List MapLine) : Type 0 where
  each : (i : ℕ) → i < length xs → IsSome_line (get_or xs i no_line)
  first : 0 < length xs → from ≤ rank_of (get_or xs 0 no_line)
  next : (i : ℕ) → suc i < length xs → rank_of (get_or xs i no_line) < rank_of (get_or xs (suc i) no_line)

rising_from : (from : ℕ) (xs : List MapLine) → ByNumber from xs → AreRising from xs
rising_from from [] h = tt
rising_from from (x ∷ xs) h = (
  h.first (omega arith),
  h.each 0 (omega arith),
  rising_from (rank_of x + 1) xs (record {
    each = λ i l. h.each (suc i) (omega arith);
    first = λ l. let up : rank_of x < rank_of (get_or xs 0 no_line) = h.next 0 (omega arith) in omega (arith, up);
    next = λ i l. h.next (suc i) (omega arith);
  }),
)

pub rising_lines : (m : Market) → IsMarket m → (lines : List MapLine) → AreLines m lines → AreRising 0 lines
rising_lines m market lines form = rising_from 0 lines (record {
  each = λ i l. let a = IsLineAt-from m lines i (form i l) in (few_places m market _ _ a.offer, a.some);
  first = λ l. omega arith;
  next = λ i l.
      let a = IsLineAt-from m lines (suc i) (form (suc i) l) in
      let b = IsLineAt-from m lines i (form i (omega arith)) in
      let e : suc i - 1 ≡ i = omega arith in
      rises (get_or lines i no_line) (get_or lines (suc i) no_line) (subst (λ j. is_before (get_or lines j no_line) (get_or lines (suc i) no_line) ≡ true) e (a.above (omega arith))) (few_places m market _ _ b.offer);
})

-- nothing is held before the first
none_before : (from : ℕ) (xs : List MapLine) → AreRising from xs → (g k : ℕ) → g * 16 + k < from → amount_at xs g k ≡ 0
none_before from [] r g k low = refl
none_before from (x ∷ xs) r g k low =
    let start : from ≤ rank_of x = r.0 in
    let here : (if (x.group.0 == g) && (x.place == k) then x.amount else 0) ≡ 0 = elim (cases_Bool ((x.group.0 == g) && (x.place == k))) [
      | inr e ↦ rw e refl
      | inl e ↦ let p = and_parts (x.group.0 == g) (x.place == k) e in absurd (omega (arith, eqb-true x.group.0 g p.0, eqb-true x.place k p.1, start, low))
    ] in
    omega (arith, sum_by-cons (λ (l : MapLine). if (l.group.0 == g) && (l.place == k) then l.amount else 0) x xs, here, none_before (rank_of x + 1) xs r.2 g k (omega (arith, start, low)))

-- at the first line's offer, its units
at_first : (x : MapLine) (xs : List MapLine) → AreRising (rank_of x + 1) xs → amount_at (x ∷ xs) x.group.0 x.place ≡ x.amount
at_first x xs r =
    let this : (if (x.group.0 == x.group.0) && (x.place == x.place) then x.amount else 0) ≡ x.amount = rw (eq-eqb x.group.0 x.group.0 refl, eq-eqb x.place x.place refl) refl in
    omega (arith, sum_by-cons (λ (l : MapLine). if (l.group.0 == x.group.0) && (l.place == x.place) then l.amount else 0) x xs, this, none_before (rank_of x + 1) xs r x.group.0 x.place (omega arith))

line_is : (x y : MapLine) → x.group.0 ≡ y.group.0 → x.place ≡ y.place → x.amount ≡ y.amount → x ≡ y
line_is x y e f h =
    ap (λ (g : ℕ). record { group = record { 0 = g }; place = x.place; amount = x.amount }) e
    ∙ ap (λ (k : ℕ). record { group = y.group; place = k; amount = x.amount }) f
    ∙ ap (λ (a : ℕ). record { group = y.group; place = y.place; amount = a }) h

-- rising lines with the same amounts are the same
pub same_rising : (from : ℕ) (xs ys : List MapLine) → AreRising from xs → AreRising from ys → ((g k : ℕ) → amount_at xs g k ≡ amount_at ys g k) → xs ≡ ys
same_rising from [] [] r s same = refl
same_rising from (x ∷ xs) [] r s same =
    let some : 0 < x.amount = r.1.1 in
    let none : amount_at (x ∷ xs) x.group.0 x.place ≡ 0 = same x.group.0 x.place in
    absurd (omega (arith, some, at_first x xs r.2, none))
same_rising from [] (y ∷ ys) r s same =
    let some : 0 < y.amount = s.1.1 in
    let none : 0 ≡ amount_at (y ∷ ys) y.group.0 y.place = same y.group.0 y.place in
    absurd (omega (arith, some, at_first y ys s.2, none))
same_rising from (x ∷ xs) (y ∷ ys) r s same = elim (cases_order (rank_of x) (rank_of y)) [
  | inr (inl l) ↦ let some : 0 < x.amount = r.1.1 in absurd (omega (arith, some, at_first x xs r.2, same x.group.0 x.place, none_before (rank_of y) (y ∷ ys) (omega arith, s.1, s.2) x.group.0 x.place l))
  | inr (inr l) ↦ let some : 0 < y.amount = s.1.1 in absurd (omega (arith, some, at_first y ys s.2, same y.group.0 y.place, none_before (rank_of x) (x ∷ xs) (omega arith, r.1, r.2) y.group.0 y.place l))
  | inl e ↦
      let few : x.place < 16 = r.1.0 in
      let also : y.place < 16 = s.1.0 in
      let place : x.place ≡ y.place = omega (arith, e, few, also) in
      let group : x.group.0 ≡ y.group.0 = omega (arith, e, few, also) in
      let at : amount_at (y ∷ ys) x.group.0 x.place ≡ amount_at (y ∷ ys) y.group.0 y.place = ap (λ h. amount_at (y ∷ ys) h x.place) group ∙ ap (amount_at (y ∷ ys) y.group.0) place in
      let amount : x.amount ≡ y.amount = omega (arith, at_first x xs r.2, at_first y ys s.2, same x.group.0 x.place, at) in
      let heads : x ≡ y = line_is x y group place amount in
      let low : AreRising (rank_of x + 1) ys = subst (λ n. AreRising (n + 1) ys) (sym e) s.2 in
      let rest : xs ≡ ys = same_rising (rank_of x + 1) xs ys r.2 low (λ g k.
      let head : (if (x.group.0 == g) && (x.place == k) then x.amount else 0) ≡ (if (y.group.0 == g) && (y.place == k) then y.amount else 0) = ap (λ (l : MapLine). if (l.group.0 == g) && (l.place == k) then l.amount else 0) heads in
      omega (arith, head, same g k, sum_by-cons (λ (l : MapLine). if (l.group.0 == g) && (l.place == k) then l.amount else 0) x xs, sum_by-cons (λ (l : MapLine). if (l.group.0 == g) && (l.place == k) then l.amount else 0) y ys)) in
      ap (λ (l : MapLine). l ∷ xs) heads ∙ ap (λ (ls : List MapLine). y ∷ ls) rest
]

-- where an offer holds as much in both, so does each group at each place
everywhere : (m : Market) (a b : List MapLine) → AreLines m a → AreLines m b → ((g k : ℕ) → IsOffer m g k → amount_at a g k ≡ amount_at b g k) → (g k : ℕ) → amount_at a g k ≡ amount_at b g k
everywhere m a b form_a form_b same g k = elim (cases_lt 0 (amount_at a g k)) [
  | inl some ↦ same g k (held_offer m a g k (offers-AreLines m a form_a) some)
  | inr none ↦ elim (cases_lt 0 (amount_at b g k)) [
    | inl some ↦ same g k (held_offer m b g k (offers-AreLines m b form_b) some)
    | inr also ↦ omega (arith, none, also)
  ]
]

-- lines in the form of a map with the same amounts at offers are the same
pub same_lines : (m : Market) → IsMarket m → (a b : List MapLine) → AreLines m a → AreLines m b → ((g k : ℕ) → IsOffer m g k → amount_at a g k ≡ amount_at b g k) → a ≡ b
same_lines m market a b form_a form_b same = same_rising 0 a b (rising_lines m market a form_a) (rising_lines m market b form_b) (everywhere m a b form_a form_b same)
