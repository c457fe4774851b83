-- What contracts see of doors.
use Rattle.std.specs.Prelude.{ℕ, List}

-- how many places and looks a door was asked for, the greatest serial that it showed or learned, and how many faults it has counted
pub record DoorState : Type 0 where
  pub asked : ℕ
  pub looks : ℕ
  pub greatest : ℕ
  pub faults : ℕ

-- a door that was not used yet
abbrev pub unused : DoorState
unused = record { asked = 0; looks = 0; greatest = 0; faults = 0 }

-- a door that refuses at stated calls too: places and looks by their numbers, from 0
pub record RefusingDoor : Type 0 where
  pub state : DoorState
  pub refused_places : List ℕ
  pub refused_looks : List ℕ
