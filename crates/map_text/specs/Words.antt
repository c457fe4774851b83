-- A line in words.
use Rattle.std.specs.Prelude.{ℕ, List, [], ◌∷◌, Option, None, Some}

-- the words of a line of four
pub record Words : Type 0 where
  pub keyword : List ℕ
  pub group : List ℕ
  pub pool : List ℕ
  pub last : List ℕ

-- the parts of a line, where they are four
abbrev pub four_of : List (List ℕ) → Option Words
four_of (keyword ∷ group ∷ pool ∷ last ∷ []) = Some (record { keyword = keyword; group = group; pool = pool; last = last })
four_of _ = None

-- the words of a line of three
pub record Three : Type 0 where
  pub keyword : List ℕ
  pub group : List ℕ
  pub pool : List ℕ

-- the parts of a line, where they are three
abbrev pub three_of : List (List ℕ) → Option Three
three_of (keyword ∷ group ∷ pool ∷ []) = Some (record { keyword = keyword; group = group; pool = pool })
three_of _ = None
