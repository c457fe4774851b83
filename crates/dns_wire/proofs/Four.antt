-- A list of four numbers, by what stands at its places.
use Rattle.std.proofs.Common.{◌≡◌, ℕ, List, [], ◌∷◌, length, refl, arith}
use Rattle.std.specs.Prelude.{slice_index_or}

pub four : (xs : List ℕ) (d : ℕ) → length xs ≡ 4 → xs ≡ slice_index_or xs 0 d ∷ slice_index_or xs 1 d ∷ slice_index_or xs 2 d ∷ slice_index_or xs 3 d ∷ []
four [] d is = absurd (omega (arith, is))
four (a ∷ []) d is = absurd (omega (arith, is))
four (a ∷ b ∷ []) d is = absurd (omega (arith, is))
four (a ∷ b ∷ c ∷ []) d is = absurd (omega (arith, is))
four (a ∷ b ∷ c ∷ e ∷ []) d is = refl
four (a ∷ b ∷ c ∷ e ∷ f ∷ xs) d is = absurd (omega (arith, is))
