-- What a source tells of its openings.
use Rattle.std.specs.Prelude.{◌≡◌, ℕ, List, [], ◌∷◌, ◌++◌, take}
use Rattle.outside.specs.Source.{Fed}
use Rattle.outside.specs.declared.port.Opening.{Opening}
use Rattle.outside.specs.declared.port.Opening.TheVariants.{Ready, Failed}

-- What one opening does to a source: its name is noted, and nothing else changes. That of one that failed may not be.
abbrev pub IsNamed : List ℕ → Opening → Fed → Fed → Type 0
IsNamed name Ready before after = after ≡ record before { names = before.names ++ name ∷ [] }
IsNamed name Failed before after = (k : ℕ) × (after ≡ record before { names = before.names ++ take k (name ∷ []) })
