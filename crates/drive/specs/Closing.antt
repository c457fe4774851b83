-- The closing look of a lane.
use Rattle.std.specs.Prelude.{◌≡◌, ◌⊎◌, ℕ, ◌+◌, ◌<◌, List, length}
use mathlib.Core.List.{IsPrefix}
use Rattle.outside.specs.Faults.{Rose, raised}
use Rattle.published_map.specs.Version.{Version}
use Rattle.map_cell.specs.Histories.{IsHistory}
use Rattle.lane_model.specs.declared.ended.Ended.{Ended}
use Rattle.lane_model.specs.declared.ended.Ended.TheVariants.{Stopped, PortEnd, PortFault, CellFault, Above, Spent}
use Rattle.lane_model.specs.Calls.{Eyes, IsRise}

-- how a lane ended, where its closing look was refused
abbrev pub shut : Ended → Ended
shut Stopped = CellFault
shut PortEnd = CellFault
shut PortFault = PortFault
shut CellFault = CellFault
shut (Above known newest) = Above known newest
shut Spent = Spent

-- the look was refused: what was seen stays, which is a history, and of it and the mapper's history one begins the other
pub record IsShut (h : List Version) (before after : Eyes Version) (served ended : Ended) : Type 0 where
  pub seen : after.seen ≡ before.seen
  pub beside : IsPrefix after.seen h ⊎ IsPrefix h after.seen
  pub history : IsHistory after.seen
  pub rose : Rose before.faults after.faults
  pub ended_is : ended ≡ shut served

-- the look was at the newest map: what was seen before, and all that is known behind it, begins the history
pub record IsWithin (h : List Version) (before after : Eyes Version) (served ended : Ended) : Type 0 where
  pub seen : IsPrefix before.seen h
  pub heard : IsPrefix after.heard h
  pub stays : after.faults ≡ before.faults
  pub ended_is : ended ≡ served

-- the look was past the newest map, at the end of a longer history; the end tells both last serials
pub record IsPast (h : List Version) (before after : Eyes Version) (ended : Ended) : Type 0 where
  pub seen : IsPrefix before.seen after.seen
  pub begins : IsPrefix h after.seen
  pub longer : length h < length after.seen
  pub heard : after.heard ≡ after.seen
  pub stays : after.faults ≡ before.faults
  pub history : IsHistory after.seen
  pub known : ℕ
  pub newest : ℕ
  pub known_is : known + 1 ≡ length after.seen
  pub newest_is : newest + 1 ≡ length h
  pub ended_is : ended ≡ Above known newest

-- One look, by what it came to. The whole history was learned ahead of it.
pub record IsClosing (h : List Version) (before after : Eyes Version) (served ended : Ended) : Type 0 where
  pub rise : IsRise before after
  pub learned : IsPrefix h after.heard
  pub looks : after.looks ≡ raised before.looks 1
  pub case : IsShut h before after served ended ⊎ IsWithin h before after served ended ⊎ IsPast h before after ended
