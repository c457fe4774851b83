-- What contracts see of a publisher and of a viewer.
use Rattle.std.specs.Prelude.{List}
use mathlib.Core.List.{IsPrefix}
use Rattle.published_map.specs.Version.{Version}
use Rattle.map_cell.specs.Histories.{IsHistory, IsSealed}

-- what was published, and the last of it
pub record PublisherState : Type 0 where
  pub history : List Version
  pub newest : Version

-- what was looked at, and what the next look begins with
pub record ViewerState : Type 0 where
  pub seen : List Version
  pub heard : List Version

-- a look at x, the last version of a history that begins with what was seen and told
pub record LooksAt (seen heard : List Version) (x : Version) (new : List Version) : Type 0 where
  pub seen_begins : IsPrefix seen new
  pub heard_begins : IsPrefix heard new
  pub last : IsSealed new x
  pub history : IsHistory new
