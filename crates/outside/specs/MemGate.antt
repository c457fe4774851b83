-- What gates in memory hold.
use Rattle.std.specs.Prelude.{ℕ}
use Rattle.outside.specs.Gate.{GateTold, Shown}
use Rattle.outside.specs.declared.mem_gate.MemShown.{MemShown}

-- a turn, as it was noted
abbrev pub shown_of : MemShown → Shown
shown_of shown = record { known = shown.known; go = shown.go }

-- a gate in memory: what it tells, how many Go are left, how many Stop it has room to note, and how many it could not note
pub record GateInMemory : Type 0 where
  pub told : GateTold
  pub goes : ℕ
  pub room : ℕ
  pub faults : ℕ
