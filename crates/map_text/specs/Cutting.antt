-- Rows of a text that are cut into pieces.
use Rattle.std.specs.Prelude.{ℕ, ◌≡◌, ◌≤◌, ◌+◌, List, [], ◌∷◌, length, take, drop}
use Rattle.std.specs.List.{flat_map}
use Rattle.map_model.specs.declared.lines.MapLine.{MapLine}
use Rattle.map_model.specs.declared.lines.NameLine.{NameLine}
use Rattle.topology_text.specs.Plan.{Plan}
use Rattle.map_text.specs.declared.cutting.Cut.{Cut}
use Rattle.map_text.specs.declared.cutting.Cuts.{Cuts}
use Rattle.map_text.specs.Reading.{Mapped}
use Rattle.map_text.specs.Writing.{ended, name_row, place_row}

-- each cut is so many of the items ahead, and the octets that their rows have
abbrev pub AreCuts : {X : Type 0} → (X → List ℕ) → List X → List Cut → Type 0
AreCuts row xs [] = Unit {0}
AreCuts row xs (c ∷ cs) = (c.rows ≤ length xs) × (c.octets ≡ length (flat_map row (take c.rows xs))) × AreCuts row (drop c.rows xs) cs

-- a text is that of the rows of some items, and is cut
pub record IsTextOf {X : Type 0} (row : X → List ℕ) (octets : List ℕ) (xs : List X) (pieces : List Cut) : Type 0 where
  pub text : octets ≡ flat_map row xs
  pub cuts : AreCuts row xs pieces

-- the row of so many units at an offer, with its end
abbrev pub place_text : Plan → MapLine → List ℕ
place_text t x = ended (place_row t x)

-- the row of a name, with its end
abbrev pub name_text : Plan → NameLine → List ℕ
name_text t x = ended (name_row t x)

-- the text of a map is cut
pub record AreCutsOf (t : Plan) (m : Mapped) (cuts : Cuts) : Type 0 where
  pub places : AreCuts (place_text t) m.lines cuts.places.items
  pub names : AreCuts (name_text t) m.names cuts.names.items
  pub middle : cuts.middle ≡ 10 + length (flat_map (place_text t) m.lines)
