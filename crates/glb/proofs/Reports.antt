-- A command that stopped, by what its files come to.
use Rattle.std.proofs.Common.{◌≡◌, ◌∙◌, ap, inl, inr, refl, sym, subst}
use Rattle.std.specs.Prelude.{Option, Result, Ok, Err}
use Rattle.glb.specs.declared.ending.Report.{Report}
use Rattle.outside.specs.Sink.{Written}
use Rattle.glb.specs.declared.ending.Stop.{Stop}
use Rattle.glb.specs.declared.ending.Stop.TheVariants as stop
use Rattle.glb.specs.declared.status.Status.{Status}
use Rattle.glb.specs.Ending.{EndsBy, IsReport, StopsBy}
use Rattle.glb.specs.Outcome.{Outcome, RunsBy}

-- the outcome of a command that stopped with a refusal is of the refusal's kind
stopped_due : (P : Outcome → Type 0) (s : Stop) (due : Outcome) → StopsBy P s → IsReport (Err s) due → P due
stopped_due P (stop.Refused text) due h is = subst P (sym is) h
stopped_due P stop.SourceFault due h is = absurd is
stopped_due P stop.NoMemory due h is = absurd is

runs_weaker : (P Q : Outcome → Type 0) (before after : Option Written) (result : Status) → ((due : Outcome) → P due → Q due) → RunsBy P before after result → RunsBy Q before after result
runs_weaker P Q before after result f (inl whole) = inl (record { due = whole.due; is_due = f whole.due whole.is_due; status = whole.status; puts = whole.puts })
runs_weaker P Q before after result f (inr (inl cut)) = inr (inl (record { due = cut.due; is_due = f cut.due cut.is_due; status = cut.status; puts = cut.puts }))
runs_weaker P Q before after result f (inr (inr silent)) = inr (inr silent)

pub stopped_run : (P : Outcome → Type 0) (s : Stop) (before after : Option Written) (result : Status) → StopsBy P s → RunsBy (IsReport (Err s)) before after result → RunsBy P before after result
stopped_run P s before after result h run = runs_weaker (IsReport (Err s)) P before after result (λ due. stopped_due P s due h) run

same_stop : {X : Type 0} (s t : Stop) (ended : Result X Stop) → ended ≡ Err s → ended ≡ Err t → s ≡ t
same_stop s t ended h k = cc

-- a load failed where that is what is said
pub stopped_load : {X : Type 0} (s : Stop) (load : Result X Stop) (ended : Result Report Stop) → load ≡ Err s → ended ≡ Err s → ended ≡ Err stop.SourceFault → load ≡ Err stop.SourceFault
stopped_load s load ended h same is = h ∙ ap Err (same_stop s stop.SourceFault ended same is)

-- what is said of a load that failed
pub stopped_end : {X : Type 0} (s : Stop) (load : Result X Stop) (ended : Result Report Stop) → load ≡ Err s → ended ≡ Err s → load ≡ Err stop.SourceFault → ended ≡ Err stop.SourceFault
stopped_end s load ended h same is = same ∙ ap Err (same_stop s stop.SourceFault load h is)

-- a file that was read is no load that failed
pub read_whole : {X : Type 0} (x : X) (load : Result X Stop) → load ≡ Ok x → load ≡ Err stop.SourceFault → ⊥
read_whole x load h is = cc

-- what holds where a command ended with a text
pub ended_so : (P : Type 0) (ended : Result Report Stop) → EndsBy (λ _. P) ended → (ended ≡ Err stop.SourceFault → ⊥) → (ended ≡ Err stop.NoMemory → ⊥) → P
ended_so P (Ok report) h source memory = h
ended_so P (Err (stop.Refused text)) h source memory = h
ended_so P (Err stop.SourceFault) h source memory = absurd (source refl)
ended_so P (Err stop.NoMemory) h source memory = absurd (memory refl)
