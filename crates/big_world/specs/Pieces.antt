-- Texts that are made piece by piece, each from the number that stands ahead of it.
use Rattle.std.specs.Prelude.{ℕ, zero, suc, ◌==◌, List, [], ◌∷◌, ◌++◌, if◌then◌else◌}

-- the texts of the numbers below k, one behind the other
abbrev pub texts_below : (ℕ → List ℕ) → ℕ → List ℕ
texts_below text zero = []
texts_below text (suc k) = texts_below text k ++ text k

-- the same with a comma and a space between two of them
abbrev pub listed : (ℕ → List ℕ) → ℕ → List ℕ
listed text = texts_below (λ t. (if t == 0 then [] else (44 ∷ 32 ∷ [])) ++ text t)

-- what stands ahead of piece k, where `step` gives what stands behind a piece of what stands ahead of it
abbrev pub ahead : (ℕ → ℕ) → ℕ → ℕ → ℕ
ahead step x zero = x
ahead step x (suc k) = step (ahead step x k)

-- the first k pieces, each from its number and what stands ahead of it
abbrev pub pieces : (ℕ → ℕ → List ℕ) → (ℕ → ℕ) → ℕ → ℕ → List ℕ
pieces piece step x = texts_below (λ i. piece i (ahead step x i))
