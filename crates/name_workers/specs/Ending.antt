-- Whether a lane ends with a turn.
use Rattle.std.specs.Prelude.{◌≡◌, ℕ, ◌+◌, ◌==◌, Option, None, Some, if◌then◌else◌}
use Rattle.lane_model.specs.declared.ended.Ended.{Ended}
use Rattle.lane_model.specs.declared.ended.Ended.TheVariants as end
use Rattle.name_workers.specs.declared.ending.Step.{Step}
use Rattle.name_workers.specs.declared.ending.Step.TheVariants as step

-- how a lane ends with a turn, if it does, and how many calls of the port failed by then: the eighth ends it
abbrev pub IsNextEnd : Step → ℕ → ℕ → Option Ended → Type 0
IsNextEnd step.Stopped k k' next = (next ≡ Some end.Stopped) × (k' ≡ k)
IsNextEnd step.On k k' next = (next ≡ None) × (k' ≡ k)
IsNextEnd step.PortEnd k k' next = (next ≡ Some end.PortEnd) × (k' ≡ k)
IsNextEnd step.PortFailed k k' next = (k' ≡ k + 1) × (next ≡ (if k' == 8 then Some end.PortFault else None))
IsNextEnd step.Refused k k' next = (next ≡ Some end.CellFault) × (k' ≡ k)
