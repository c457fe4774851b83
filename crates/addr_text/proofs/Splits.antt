-- Texts that lack the separator, parted again.
use Rattle.std.proofs.Common.{◌≡◌, ℕ, ◌==◌, Bool, false, cond, List, [], ◌∷◌, ◌++◌, refl, ap, ◌∙◌}
use Rattle.std.proofs.lemmas.Bool.{eq-eqb}
use Rattle.std.specs.List.{onto_first, slice_split}

-- no octet of a text is that one
abbrev pub Lacks : ℕ → List ℕ → Type 0
Lacks c [] = Unit {0}
Lacks c (b ∷ bs) = ((b == c) ≡ false) × Lacks c bs

pub lacks-append : (c : ℕ) (xs ys : List ℕ) → Lacks c xs → Lacks c ys → Lacks c (xs ++ ys)
lacks-append c [] ys left right = right
lacks-append c (x ∷ xs) ys left right = (left.0, lacks-append c xs ys left.1 right)

-- what was joined is parted again
pub split_part : (c : ℕ) (x rest : List ℕ) → Lacks c x → slice_split (λ b. b == c) (x ++ c ∷ rest) ≡ x ∷ slice_split (λ b. b == c) rest
split_part c [] rest lacks = ap (λ (t : Bool). cond t ([] ∷ slice_split (λ b. b == c) rest) (onto_first c (slice_split (λ b. b == c) rest))) (eq-eqb c c refl)
split_part c (b ∷ bs) rest lacks =
    ap (λ (t : Bool). cond t ([] ∷ slice_split (λ b. b == c) (bs ++ c ∷ rest)) (onto_first b (slice_split (λ b. b == c) (bs ++ c ∷ rest)))) lacks.0 ∙ ap (onto_first b) (split_part c bs rest lacks.1)

pub split_alone : (c : ℕ) (x : List ℕ) → Lacks c x → slice_split (λ b. b == c) x ≡ x ∷ []
split_alone c [] lacks = refl
split_alone c (b ∷ bs) lacks = ap (λ (t : Bool). cond t ([] ∷ slice_split (λ b. b == c) bs) (onto_first b (slice_split (λ b. b == c) bs))) lacks.0 ∙ ap (onto_first b) (split_alone c bs lacks.1)
