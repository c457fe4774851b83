-- The lines of a summary.
use Rattle.std.specs.Prelude.{ℕ, List, [], ◌∷◌, ◌++◌, codes}
use Rattle.std.specs.Fmt.{decimal}
use Rattle.big_run.specs.declared.summary.Summary.{Summary}

-- a word and a number, as a line
unfoldable pub row_of : List ℕ → ℕ → List ℕ
row_of word number = word ++ codes " " ++ decimal number ++ 10 ∷ []

-- the ten lines
abbrev pub lines_of : Summary → List (List ℕ)
lines_of s =
    row_of (codes "large") s.groups
    ∷ row_of (codes "nodes") s.nodes
    ∷ row_of (codes "maps") s.maps
    ∷ row_of (codes "good") s.good
    ∷ row_of (codes "placed") s.totals.placed
    ∷ row_of (codes "unplaced") s.totals.unplaced
    ∷ row_of (codes "full") s.totals.full
    ∷ row_of (codes "proposals") s.proposals
    ∷ row_of (codes "answered") s.answered
    ∷ row_of (codes "servfail") s.servfail
    ∷ []
