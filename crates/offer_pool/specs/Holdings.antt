-- What contracts see of held offers.
use Rattle.std.specs.Prelude.{List}
use Rattle.map_model.specs.declared.lines.MapLine.{MapLine}
use Rattle.map_model.specs.Market.{Market}

-- held offers as a map's lines, and the instance whose lists and trees they rest on
pub record Holdings : Type 0 where
  pub market : Market
  pub lines : List MapLine
