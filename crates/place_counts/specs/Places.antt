-- How many units all groups hold at each place of their lists, and the text of that.
use Rattle.std.specs.Prelude.{ℕ, zero, suc, ◌-◌, List, [], ◌∷◌, ◌++◌, codes, length, max, sum_by}
use Rattle.std.specs.Fmt.{decimal}
use Rattle.std.specs.List.{flat_map, range_with_len}
use Rattle.map_model.specs.declared.lines.MapLine.{MapLine}
use Rattle.map_model.specs.Market.{Market, choices_of, demand_of}
use Rattle.map_model.specs.Allocation.{amount_at, placed}

-- the units that all groups hold at one place of their lists
abbrev pub units_at : Market → List MapLine → ℕ → ℕ
units_at m lines k = sum_by (λ g. amount_at lines g k) (range_with_len 0 (length m.groups))

-- the units of demand that are not placed
abbrev pub unplaced_in : Market → List MapLine → ℕ
unplaced_in m lines = sum_by (λ g. demand_of m g - placed lines g) (range_with_len 0 (length m.groups))

-- how many places the longest list of the first so many groups has
unfoldable pub longest_of : ℕ → Market → ℕ
longest_of zero m = 0
longest_of (suc g) m = max (longest_of g m) (length (choices_of m g))

-- how many places the longest list has
abbrev pub longest : Market → ℕ
longest m = longest_of (length m.groups) m

-- the line of a place
unfoldable pub place_line : ℕ → ℕ → List ℕ
place_line k units = codes "place " ++ decimal k ++ codes " " ++ decimal units ++ 10 ∷ []

-- the line of what is not placed
unfoldable pub unplaced_line : ℕ → List ℕ
unplaced_line units = codes "unplaced " ++ decimal units ++ 10 ∷ []

-- a line for each place of the longest list, and one for what is not placed
unfoldable pub places_text : Market → List MapLine → List ℕ
places_text m lines = flat_map (λ k. place_line k (units_at m lines k)) (range_with_len 0 (longest m)) ++ unplaced_line (unplaced_in m lines)
