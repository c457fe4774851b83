-- Sums over parts of a list, and the whole rounds of a circle as one list of hops.
use Rattle.std.proofs.Common.{◌≡◌, ℕ, zero, suc, ◌+◌, ◌*◌, ◌≤◌, Bool, true, false, if◌then◌else◌, List, [], ◌∷◌, ◌++◌, length, map, take, drop, slice_index_or, All, append_assoc, refl, sym, ap, ◌∙◌, inl, inr, length-append, arith}
use Rattle.std.specs.List.{sum_by, AllPairs}
use Rattle.std.proofs.lemmas.Bool.{cases_Bool}
use Rattle.std.proofs.lemmas.List.{map-append}
use Rattle.std.proofs.lemmas.List.Elements.{All-append, All-drop, All-head, All-nil, All-tail}
use Rattle.std.proofs.lemmas.List.Sums.{sum_by-append, sum_by-cons, sum_by-take-drop}
use Rattle.map_model.proofs.Units.{sum_by-add}

-- larger numbers of each element, larger sum
pub sums-le : {X : Type 0} (f g : X → ℕ) (xs : List X) → All (λ x. f x ≤ g x) xs → sum_by f xs ≤ sum_by g xs
sums-le f g [] each = omega arith
sums-le f g (x ∷ xs) each = omega (arith, sum_by-cons f x xs, sum_by-cons g x xs, All-head (λ y. f y ≤ g y) x xs each, sums-le f g xs (All-tail (λ y. f y ≤ g y) x xs each))

pub sums-same : {X : Type 0} (f g : X → ℕ) (xs : List X) → All (λ x. f x ≡ g x) xs → sum_by f xs ≡ sum_by g xs
sums-same f g [] each = refl
sums-same f g (x ∷ xs) each = omega (arith, sum_by-cons f x xs, sum_by-cons g x xs, All-head (λ y. f y ≡ g y) x xs each, sums-same f g xs (All-tail (λ y. f y ≡ g y) x xs each))

pub sums-none : {X : Type 0} (f : X → ℕ) (xs : List X) → All (λ x. f x ≡ 0) xs → sum_by f xs ≡ 0
sums-none f [] each = refl
sums-none f (x ∷ xs) each = omega (arith, sum_by-cons f x xs, All-head (λ y. f y ≡ 0) x xs each, sums-none f xs (All-tail (λ y. f y ≡ 0) x xs each))

-- where each element's first number is at least its second, the first elements are no further apart than all are
pub sums-part : {X : Type 0} (f g : X → ℕ) (xs : List X) (n : ℕ) → All (λ x. g x ≤ f x) xs → sum_by f (take n xs) + sum_by g xs ≤ sum_by f xs + sum_by g (take n xs)
sums-part f g xs n each = omega (arith, sum_by-take-drop f xs n, sum_by-take-drop g xs n, sums-le g f (drop n xs) (All-drop (λ x. g x ≤ f x) n xs each))

-- one number of at most one element
pub sums-once : {X : Type 0} (flag : X → Bool) (u : ℕ) (xs : List X) → AllPairs (λ x y. flag x ≡ true → flag y ≡ true → ⊥) xs → sum_by (λ x. if flag x then u else 0) xs ≤ u
sums-once flag u [] apart = omega arith
sums-once flag u (x ∷ xs) apart = elim (cases_Bool (flag x)) [
  | inl e ↦
      let here : (if flag x then u else 0) ≡ u = rw e refl in
      let none = sums-none (λ y. if flag y then u else 0) xs (λ j d l. elim (cases_Bool (flag (slice_index_or xs j d))) [
        | inl f ↦ absurd (apart 0 (suc j) d (omega arith) (omega arith) e f)
        | inr f ↦ rw f refl
      ]) in
      omega (arith, sum_by-cons (λ y. if flag y then u else 0) x xs, here, none)
  | inr e ↦
      let here : (if flag x then u else 0) ≡ 0 = rw e refl in
      let more = sums-once flag u xs (λ i j d l k. apart (suc i) (suc j) d (omega arith) (omega arith)) in
      omega (arith, sum_by-cons (λ y. if flag y then u else 0) x xs, here, more)
]

-- so many rounds of a list
unfoldable pub rounds : {X : Type 0} → ℕ → List X → List X
rounds zero xs = []
rounds (suc r) xs = xs ++ rounds r xs

pub rounds-All : {X : Type 0} (P : X → Type 0) (r : ℕ) (xs : List X) → All P xs → All P (rounds r xs)
unfolding rounds
rounds-All P zero xs each = All-nil P
rounds-All P (suc r) xs each = All-append P xs (rounds r xs) each (rounds-All P r xs each)

pub length-rounds : {X : Type 0} (r : ℕ) (xs : List X) → length (rounds r xs) ≡ r * length xs
unfolding rounds
length-rounds zero xs = omega arith
length-rounds (suc r) xs = omega (arith, length-append xs (rounds r xs), length-rounds r xs)

zeros : (b : Bool) (u : ℕ) → (if b then 0 * u else 0) ≡ 0
zeros true u = omega arith
zeros false u = refl

-- what passes a test in so many rounds
pub sums-rounds : {X : Type 0} (test : X → Bool) (u r : ℕ) (xs : List X) → sum_by (λ x. if test x then u else 0) (rounds r xs) ≡ sum_by (λ x. if test x then r * u else 0) xs
unfolding rounds
sums-rounds test u zero xs = sym (sums-none (λ x. if test x then 0 * u else 0) xs (λ i d l. zeros (test (slice_index_or xs i d)) u))
sums-rounds test u (suc r) xs =
    omega (
      arith,
      sum_by-append (λ x. if test x then u else 0) xs (rounds r xs),
      sums-rounds test u r xs,
      sum_by-add (λ x. if test x then suc r * u else 0) (λ x. if test x then u else 0) (λ x. if test x then r * u else 0) (λ x. one (test x)) xs,
    )
  where
    one : (b : Bool) → (if b then suc r * u else 0) ≡ (if b then u else 0) + (if b then r * u else 0)
    one true = omega arith
    one false = omega arith

-- where a list leads from a number back to it, so do its rounds
pub rounds-linked : {X : Type 0} (from to : X → ℕ) (start r : ℕ) (xs : List X) → start ∷ map to xs ≡ map from xs ++ start ∷ [] → start ∷ map to (rounds r xs) ≡ map from (rounds r xs) ++ start ∷ []
unfolding rounds
rounds-linked from to start zero xs linked = refl
rounds-linked from to start (suc r) xs linked =
    ap (λ ns. start ∷ ns) (map-append to xs (rounds r xs))
    ∙ ap (λ ns. ns ++ map to (rounds r xs)) linked
    ∙ append_assoc (map from xs) (start ∷ []) (map to (rounds r xs))
    ∙ ap (λ ns. map from xs ++ ns) (rounds-linked from to start r xs linked)
    ∙ sym (append_assoc (map from xs) (map from (rounds r xs)) (start ∷ []))
    ∙ ap (λ ns. ns ++ start ∷ []) (sym (map-append from xs (rounds r xs)))
