-- What a cutter keeps of a line that has not ended.
use Rattle.std.specs.Prelude.{◌≡◌, ℕ, ◌+◌, List, ◌++◌, take}
use Rattle.demand_feed.specs.Limits.{longest_line}

-- the first octets, one more than a line may have: enough to tell that there are too many
unfoldable pub front : List ℕ → List ℕ
front line = take (longest_line + 1) line

-- whatever line this was the front of, it goes on with these octets
abbrev pub GoesOn : List ℕ → List ℕ → List ℕ → Type 0
GoesOn old octets new = (line : List ℕ) → old ≡ front line → new ≡ front (line ++ octets)
