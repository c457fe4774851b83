-- A text in parts, and a text in lines.
use Rattle.std.specs.Prelude.{ℕ, ◌==◌, List, [], ◌∷◌}
use Rattle.std.specs.List.{slice_split}

-- the parts of a text between the octets of one kind
abbrev pub parts : ℕ → List ℕ → List (List ℕ)
parts separator text = slice_split (λ b. b == separator) text

-- all but the last
abbrev pub but_last : List (List ℕ) → List (List ℕ)
but_last [] = []
but_last (x ∷ []) = []
but_last (x ∷ y ∷ ys) = x ∷ but_last (y ∷ ys)

-- the last
abbrev pub last_of : List (List ℕ) → List ℕ
last_of [] = []
last_of (x ∷ []) = x
last_of (x ∷ y ∷ ys) = last_of (y ∷ ys)

-- the lines of a text, each of which ended at LF
unfoldable pub whole_lines : List ℕ → List (List ℕ)
whole_lines text = but_last (parts 10 text)

-- what follows the last LF of a text
unfoldable pub unfinished : List ℕ → List ℕ
unfinished text = last_of (parts 10 text)
