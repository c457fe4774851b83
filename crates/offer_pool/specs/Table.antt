-- Inside this crate alone: amounts in one list, 16 places for each group.
use Rattle.std.specs.Prelude.{ℕ, ◌+◌, ◌*◌, ◌/◌, ◌%◌, ◌==◌, List, [], ◌∷◌, slice_index, if◌then◌else◌}
use Rattle.map_model.specs.declared.lines.MapLine.{MapLine}

-- where the amount of an offer stands
abbrev pub place_at : ℕ → ℕ → ℕ
place_at g k = g * 16 + k

-- the amount of an offer
abbrev pub amount_in : List ℕ → ℕ → ℕ → ℕ
amount_in amounts g k = slice_index amounts (place_at g k)

-- the line that an amount at one place of the table is
abbrev pub line_of : ℕ → ℕ → MapLine
line_of i amount = record { group = record { 0 = i / 16 }; place = i % 16; amount = amount }

-- the lines of the amounts from place i on that are not 0
unfoldable pub lines_from : ℕ → List ℕ → List MapLine
lines_from i [] = []
lines_from i (x ∷ xs) = if x == 0 then lines_from (i + 1) xs else line_of i x ∷ lines_from (i + 1) xs

-- the lines of a table
abbrev pub lines_in : List ℕ → List MapLine
lines_in amounts = lines_from 0 amounts
