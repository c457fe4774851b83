-- The text of a map over a topology.
use Rattle.std.specs.Prelude.{ℕ, List, [], ◌∷◌, ◌++◌, codes, map, slice_index_or}
use Rattle.std.specs.List.{flat_map}
use Rattle.std.specs.Fmt.{decimal}
use Rattle.map_model.specs.declared.lines.By.{By}
use Rattle.map_model.specs.declared.lines.By.TheVariants.{Limit, Node}
use Rattle.map_model.specs.declared.lines.MapLine.{MapLine}
use Rattle.map_model.specs.declared.lines.MapLines.{MapLines}
use Rattle.map_model.specs.declared.lines.NameLine.{NameLine}
use Rattle.map_model.specs.Market.{pool_of}
use Rattle.topology_text.specs.Plan.{Plan}
use Rattle.map_text.specs.Reading.{Mapped}

-- a map, as its lines and names
abbrev pub mapped : MapLines → Mapped
mapped m = record { lines = m.lines.items; names = m.names.items }

-- the name of that number
abbrev pub name_at : List (List ℕ) → ℕ → List ℕ
name_at names n = slice_index_or names n []

-- four words with a space between two of them
abbrev pub four : List ℕ → List ℕ → List ℕ → List ℕ → List ℕ
four keyword group pool last = keyword ++ 32 ∷ group ++ 32 ∷ pool ++ 32 ∷ last

-- the line of so many units at an offer
abbrev pub place_row : Plan → MapLine → List ℕ
place_row t x = four (codes "place") (name_at t.group_names x.group.0) (name_at t.node_names (pool_of t.market x.group.0 x.place)) (decimal x.amount)

-- three words
abbrev pub three : List ℕ → List ℕ → List ℕ → List ℕ
three keyword group pool = keyword ++ 32 ∷ group ++ 32 ∷ pool

-- the line of what refuses an offer of a group to a pool
abbrev pub by_row : Plan → List ℕ → List ℕ → By → List ℕ
by_row t group pool Limit = three (codes "limit") group pool
by_row t group pool (Node n) = four (codes "full") group pool (name_at t.node_names n.0)

-- the line of a name
abbrev pub name_row : Plan → NameLine → List ℕ
name_row t x = by_row t (name_at t.group_names x.group.0) (name_at t.node_names (pool_of t.market x.group.0 x.place)) x.by

-- a line with its end
abbrev pub ended : List ℕ → List ℕ
ended row = row ++ 10 ∷ []

-- the lines of a map's text
abbrev pub rows_of : Plan → Mapped → List (List ℕ)
rows_of t m = codes "glb map 2" ∷ map (place_row t) m.lines ++ map (name_row t) m.names ++ codes "end" ∷ []

-- the text of a map: its lines, each with its end
abbrev pub text_of_map : Plan → Mapped → List ℕ
text_of_map t m = flat_map ended (rows_of t m)
