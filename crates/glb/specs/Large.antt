-- What is due to `large`.
use Rattle.std.specs.Prelude.{◌≡◌, ◌⊎◌, ℕ}
use Rattle.outside.specs.Faults.{BothTell}
use Rattle.big_run.specs.Runs.{IsWorldRun}
use Rattle.big_run.specs.Summary.{lines_of}
use Rattle.big_run.specs.declared.summary.Summary.{Summary}
use Rattle.mapper.specs.Scenes.{IsPrinted}
use Rattle.glb.specs.declared.status.Status.{Status}
use Rattle.glb.specs.declared.status.Status.TheVariants as status
use Rattle.glb.specs.Outcome.{Outcome, RunsBy}
use Rattle.glb.specs.Told.{IsOutAlone, Surroundings}

-- what is due to `large`: the summary of a run over the world of so many groups, in lines
abbrev pub IsLargeDue : ℕ → Outcome → Type 0
IsLargeDue n due = (s : Summary) × IsWorldRun n s × (due ≡ record { status = status.Ok; pieces = lines_of s })

-- a run of `large`: it ends with status 0, where the output failed, or where memory was wanting, and nothing but the output is touched
pub record IsLargeRun (n : ℕ) (before after : Surroundings) (result : Status) : Type 0 where
  pub run : RunsBy (IsLargeDue n) before.lent.out.past after.lent.out.past result
  pub ends : (result ≡ status.Ok) ⊎ (result ≡ status.SinkFault) ⊎ (result ≡ status.NoMemory)
  pub files : after.files ≡ before.files
  pub rest : IsOutAlone before.lent after.lent

-- what status 0 of `large` says: the output got the summary of a run, line by line
abbrev pub IsSummedRun : ℕ → Surroundings → Surroundings → Type 0
IsSummedRun n before after = (s : Summary) × IsWorldRun n s × BothTell before.lent.out.past after.lent.out.past (IsPrinted (lines_of s))
