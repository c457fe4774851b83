-- Repairs of one map for the same numbers agree.
use Rattle.std.specs.Prelude.{◌≡◌, List}
use Rattle.map_model.specs.declared.lines.MapLine.{MapLine}
use Rattle.map_model.specs.Market.{Market, IsSameShape}
use Rattle.map_repair.specs.Determined.{IsRepairedOf}

-- the repaired map of a map for an instance that differs in demands and capacities alone is one
abbrev pub RepairsAgree : Type 0
RepairsAgree = (old : Market) (lines : List MapLine) (new : Market) (a b : List MapLine) → IsSameShape old new → IsRepairedOf old lines new a → IsRepairedOf old lines new b → a ≡ b
