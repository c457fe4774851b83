-- The parts between separators, one after another.
use Rattle.std.proofs.Common.{◌≡◌, ℕ, ◌+◌, ◌≤◌, Bool, true, false, cond, List, [], ◌∷◌, length, take, drop, Option, None, Some, not, nat_lt, refl, ap, sym, subst, ◌∙◌, arith}
use Rattle.std.proofs.lemmas.Bool.Decides.{nat_tests}
use Rattle.std.proofs.lemmas.Iterator.Adapters.{position_from-zero}
use Rattle.std.proofs.lemmas.List.Splits.{slice_split_first, slice_split_none}
use Rattle.std.proofs.lemmas.List.Sums.{fails_before_first, prefix_len-le-length}
use Rattle.std.specs.List.{position_from, position_or_len, slice_split}
use Rattle.std.specs.Option.{unwrap_or}

-- an element that is found ends the first part
pub split_at_hit : {X : Type 0} (p : X → Bool) (xs : List X) (i : ℕ) → position_from p 0 xs ≡ Some i → slice_split p xs ≡ take i xs ∷ slice_split p (drop (i + 1) xs)
split_at_hit p [] i h = cc
split_at_hit p (x ∷ xs) i h = go (nat_lt (position_or_len p (x ∷ xs)) (length (x ∷ xs))) refl (position_from-zero p (x ∷ xs) ∙ h)
  where
    go : (b : Bool) → nat_lt (position_or_len p (x ∷ xs)) (length (x ∷ xs)) ≡ b → cond b (Some (position_or_len p (x ∷ xs))) None ≡ Some i
        → slice_split p (x ∷ xs) ≡ take i (x ∷ xs) ∷ slice_split p (drop (i + 1) (x ∷ xs))
    go true t is =
        let at : position_or_len p (x ∷ xs) ≡ i = cc in
        subst (λ j. slice_split p (x ∷ xs) ≡ take j (x ∷ xs) ∷ slice_split p (drop (j + 1) (x ∷ xs))) at (slice_split_first p (x ∷ xs) x (grind (arith, nat_tests)))
    go false t is = cc

-- where none is found there is one part
pub split_no_hit : {X : Type 0} (p : X → Bool) (xs : List X) → position_from p 0 xs ≡ None → slice_split p xs ≡ xs ∷ []
split_no_hit p xs h = go (nat_lt (position_or_len p xs) (length xs)) refl (position_from-zero p xs ∙ h)
  where
    go : (b : Bool) → nat_lt (position_or_len p xs) (length xs) ≡ b → cond b (Some (position_or_len p xs)) None ≡ None → slice_split p xs ≡ xs ∷ []
    go true t is = cc
    go false t is =
        let past : length xs ≤ position_or_len p xs = grind (arith, nat_tests) in
        slice_split_none p xs (λ k d within. fails_before_first p xs k d (omega arith))

-- the first hit, or the length
pub first_or_length : {X : Type 0} (p : X → Bool) (xs : List X) → unwrap_or (position_from p 0 xs) (length xs) ≡ position_or_len p xs
first_or_length p xs =
    ap (λ (o : Option ℕ). unwrap_or o (length xs)) (sym (position_from-zero p xs)) ∙ go (nat_lt (position_or_len p xs) (length xs)) refl
  where
    go : (b : Bool) → nat_lt (position_or_len p xs) (length xs) ≡ b → unwrap_or (cond b (Some (position_or_len p xs)) None) (length xs) ≡ position_or_len p xs
    go true h = refl
    go false h = let most = prefix_len-le-length (λ x. not (p x)) xs in let past : length xs ≤ position_or_len p xs = grind (arith, nat_tests) in omega arith
