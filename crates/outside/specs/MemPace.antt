-- What a pace in memory holds.
use Rattle.std.specs.Prelude.{ℕ, List, ◌==◌, if◌then◌else◌, Option, None, Some}
use Rattle.outside.specs.declared.pace.PaceCall.{PaceCall}

-- a pace in memory: the calls that it noted, how many it has room for, and how many it could not note
pub record PaceInMemory : Type 0 where
  pub calls : List PaceCall
  pub room : ℕ
  pub faults : ℕ

-- what it tells: all calls, as long as it could note each
abbrev pub paced : PaceInMemory → Option (List PaceCall)
paced pace = if pace.faults == 0 then Some pace.calls else None
