-- A line of five words or more has not four.
use Rattle.std.proofs.Common.{◌≡◌, ℕ, ◌+◌, List, [], ◌∷◌, length, None, refl, arith, count_by, ◌==◌}
use Rattle.std.proofs.lemmas.List.Splits.{length-slice_split}
use Rattle.text_parts.specs.Parts.{parts}
use Rattle.map_text.specs.Words.{four_of, three_of}

-- five parts or more are not four
pub five_parts : (a b c d : List ℕ) (octet : ℕ) (rest : List ℕ) → four_of (a ∷ b ∷ c ∷ d ∷ parts octet rest) ≡ None
five_parts a b c d octet rest = go (parts octet rest) (length-slice_split (λ x. x == octet) rest)
  where
    go : (ps : List (List ℕ)) → length ps ≡ count_by (λ x. x == octet) rest + 1 → four_of (a ∷ b ∷ c ∷ d ∷ ps) ≡ None
    go [] h = absurd (omega arith)
    go (x ∷ xs) h = refl

-- four parts or more are not three
pub four_or_more : (a b c : List ℕ) (octet : ℕ) (rest : List ℕ) → three_of (a ∷ b ∷ c ∷ parts octet rest) ≡ None
four_or_more a b c octet rest = go (parts octet rest) (length-slice_split (λ x. x == octet) rest)
  where
    go : (ps : List (List ℕ)) → length ps ≡ count_by (λ x. x == octet) rest + 1 → three_of (a ∷ b ∷ c ∷ ps) ≡ None
    go [] h = absurd (omega arith)
    go (x ∷ xs) h = refl
