-- Lists whose ranks rise: so do the lines and the names in the form of a map, by group and place.
use Rattle.std.proofs.Common.{◌≡◌, ℕ, zero, suc, ◌+◌, ◌-◌, ◌*◌, ◌<◌, ◌≤◌, ◌==◌, Bool, true, ◌&&◌, ◌||◌, nat_lt, List, [], ◌∷◌, length, slice_index_or, sym, subst, inl, inr, arith}
use Rattle.std.proofs.lemmas.Bool.{cases_eq, eq-eqb, lt-ltb, and_from, or_left, or_right}

-- elements in range whose ranks rise, from one on
abbrev pub Rises : {X : Type 0} → (X → ℕ) → (X → Type 0) → ℕ → List X → Type 0
Rises rank In from [] = Unit {0}
Rises rank In from (x ∷ xs) = (from ≤ rank x) × In x × Rises rank In (rank x + 1) xs

pub Rises-lower : {X : Type 0} (rank : X → ℕ) (In : X → Type 0) (low from : ℕ) (xs : List X) → low ≤ from → Rises rank In from xs → Rises rank In low xs
Rises-lower rank In low from [] h r = tt
Rises-lower rank In low from (x ∷ xs) h r = let was : from ≤ rank x = r.0 in (omega arith, r.1, r.2)

-- what rising says of the element at a place, and of the one before it
pub record IsRisen {X : Type 0} (rank : X → ℕ) (In : X → Type 0) (none : X) (from : ℕ) (xs : List X) (i : ℕ) : Type 0 where
  pub range : In (slice_index_or xs i none)
  pub low : from ≤ rank (slice_index_or xs i none)
  pub above : 0 < i → rank (slice_index_or xs (i - 1) none) < rank (slice_index_or xs i none)

pub Rises-at : {X : Type 0} (rank : X → ℕ) (In : X → Type 0) (none : X) (from : ℕ) (xs : List X) → Rises rank In from xs → (i : ℕ) → i < length xs → IsRisen rank In none from xs i
Rises-at rank In none from [] r i h = absurd (omega arith)
Rises-at rank In none from (x ∷ xs) r zero h = record { range = r.1; low = r.0; above = λ l. absurd (omega arith) }
Rises-at rank In none from (x ∷ xs) r (suc i) h =
    let a = Rises-at rank In none (rank x + 1) xs r.2 i (omega arith) in
    let start : from ≤ rank x = r.0 in
    record { range = a.range; low = omega (arith, a.low); above = λ _. next i a }
  where
    next : (i : ℕ) → IsRisen rank In none (rank x + 1) xs i → rank (slice_index_or (x ∷ xs) (suc i - 1) none) < rank (slice_index_or xs i none)
    next zero a = omega (arith, a.low)
    next (suc j) a = let e : suc (suc j) - 1 ≡ suc j = omega arith in let f : suc j - 1 ≡ j = omega arith in
        let above : rank (slice_index_or xs (suc j - 1) none) < rank (slice_index_or xs (suc j) none) = a.above (omega arith) in
        subst (λ n. rank (slice_index_or (x ∷ xs) n none) < rank (slice_index_or xs (suc j) none)) (sym e) (subst (λ n. rank (slice_index_or xs n none) < rank (slice_index_or xs (suc j) none)) f above)

-- the first, or behind the one before it
pub first_or : (i : ℕ) (b : Bool) → (0 < i → b ≡ true) → ((i == 0) || b) ≡ true
first_or i b above = elim (cases_eq i 0) [ inl e ↦ or_left _ _ (eq-eqb i 0 e) | inr ne ↦ or_right _ _ (above (omega arith)) ]

-- of two places of lists of sixteen, the one of lesser rank is before the other by group and then by place
pub before_by_rank : (g k h j : ℕ) → k < 16 → j < 16 → g * 16 + k < h * 16 + j → (nat_lt g h || ((g == h) && nat_lt k j)) ≡ true
before_by_rank g k h j few also l = elim (cases_eq g h) [
  | inl e ↦ or_right _ _ (and_from _ _ (eq-eqb g h e) (lt-ltb k j (omega arith)))
  | inr ne ↦ or_left _ _ (lt-ltb g h (omega arith))
]
