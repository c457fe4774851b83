-- Inside this crate alone: how a command ended, and what it loaded.
use Rattle.std.specs.Prelude.{◌≡◌, ◌≢◌, ℕ, ◌<◌, ◌≤◌, List, [], ◌∷◌, ◌++◌, length, Option, Some, IfSome, Result, Ok, Err, MatchResult}
use Rattle.map_model.specs.Market.{Market}
use Rattle.map_model.specs.Allocation.{IsOffer}
use Rattle.outside.specs.Faults.{BothTell, DeviceState, Rose}
use Rattle.outside.specs.Shelf.{Load, Shelved}
use Rattle.stable_check.specs.declared.verdict.Verdict.{Verdict}
use Rattle.stable_check.specs.declared.verdict.Verdict.TheVariants.{Blocking, OverCapacity, OverDemand, OverLimit}
use Rattle.glb.specs.declared.ending.Report.{Report}
use Rattle.glb.specs.declared.ending.Stop.{Stop}
use Rattle.glb.specs.declared.ending.Stop.TheVariants as stop
use Rattle.glb.specs.Loads.{AreLoaded, AreLoadsOf, DueLoad, load_with}
use Rattle.glb.specs.Outcome.{Outcome}
use Rattle.glb.specs.Files.{Kind, only, refused, said}

-- a report, as an outcome
abbrev pub outcome_of : Report → Outcome
outcome_of report = record { status = report.status; pieces = report.text.items ∷ [] }

-- where a command stopped with a refusal, it is of that kind
abbrev pub StopsBy : (Outcome → Type 0) → Stop → Type 0
StopsBy P (stop.Refused text) = P (refused text.items)
StopsBy P stop.SourceFault = Unit {0}
StopsBy P stop.NoMemory = Unit {0}

-- where a command ended with a text, its outcome is of that kind
abbrev pub EndsBy : (Outcome → Type 0) → Result Report Stop → Type 0
EndsBy P ended = MatchResult ended (λ report. P (outcome_of report)) (StopsBy P)

-- the outcome with which a command ended
abbrev pub IsReport : Result Report Stop → Outcome → Type 0
IsReport (Ok report) due = due ≡ outcome_of report
IsReport (Err (stop.Refused text)) due = due ≡ refused text.items
IsReport (Err stop.SourceFault) due = ⊥
IsReport (Err stop.NoMemory) due = ⊥

-- How a command ended by its files: it made the first of the loads that are due, and all of them where it has a text; this is due; and a fault of the files came with the count.
pub record IsEnd (due_loads : List Load → List DueLoad) (Due : Outcome → Type 0) (before after : DeviceState Shelved) (ended : Result Report Stop) : Type 0 where
  pub noted : BothTell before.past after.past (AreLoadsOf due_loads)
  pub loaded : EndsBy (λ _. BothTell before.past after.past (AreLoaded due_loads)) ended
  pub due : EndsBy Due ended
  pub later : before.faults ≤ after.faults
  pub cause : ended ≡ Err stop.SourceFault → Rose before.faults after.faults
  pub stays : ended ≢ Err stop.SourceFault → after.faults ≡ before.faults

-- one load was made, of that name and limit, and gave these octets; and what is held stays, which is these, where that is told
pub record IsGiven (name : List ℕ) (limit : ℕ) (bytes : List ℕ) (before after : Shelved) : Type 0 where
  pub loads : after.loads ≡ before.loads ++ load_with name limit bytes ∷ []
  pub holds : after.holds ≡ before.holds
  pub held : IfSome before.holds (λ held. held name ≡ Some bytes)

-- the file was loaded, and its octets say this
abbrev pub IsSaidBy : {T : Type 0} → Kind T → List ℕ → Option Shelved → Option Shelved → T → Type 0
IsSaidBy kind name before after t = (bytes : List ℕ) × BothTell before after (IsGiven name kind.limit bytes) × (said kind bytes ≡ Ok t)

-- the file was loaded, and its octets are refused
abbrev pub IsFaulty : {T : Type 0} → Kind T → List ℕ → Option Shelved → Option Shelved → Outcome → Type 0
IsFaulty kind name before after due = (bytes : List ℕ) × (text : List ℕ) × BothTell before after (IsGiven name kind.limit bytes) × (said kind bytes ≡ Err text) × (due ≡ refused text)

-- One file was loaded, and what it says was read, or it is refused; or the load failed, or memory was wanting.
pub record IsReading {X T : Type 0} (kind : Kind T) (see : X → T) (name : List ℕ) (before after : DeviceState Shelved) (read : Result X Stop) : Type 0 where
  pub noted : BothTell before.past after.past (AreLoadsOf (only kind name))
  pub said : MatchResult read (λ x. IsSaidBy kind name before.past after.past (see x)) (StopsBy (IsFaulty kind name before.past after.past))
  pub later : before.faults ≤ after.faults
  pub cause : read ≡ Err stop.SourceFault → Rose before.faults after.faults
  pub stays : read ≢ Err stop.SourceFault → after.faults ≡ before.faults

-- the file is longer than it may be, and is refused for that
abbrev pub IsTooLong : Option Shelved → Option Shelved → List ℕ → ℕ → List ℕ → Outcome → Type 0
IsTooLong before after name limit text due = (bytes : List ℕ) × BothTell before after (IsGiven name limit bytes) × (limit < length bytes) × (due ≡ refused text)

-- the file gave these octets, which are within the limit
abbrev pub AreBytes : Option Shelved → Option Shelved → List ℕ → ℕ → List ℕ → Type 0
AreBytes before after name limit bytes = BothTell before after (IsGiven name limit bytes) × (length bytes ≤ limit)

-- bytes are refused, with the text of their fault
abbrev pub IsRefusedBy : {T : Type 0} → Result T (List ℕ) → Outcome → Type 0
IsRefusedBy said due = (text : List ℕ) × (said ≡ Err text) × (due ≡ refused text)

-- what a verdict names is there
abbrev pub IsNameable : Market → Verdict → Type 0
IsNameable m (OverDemand g units) = g.0 < length m.groups
IsNameable m (OverLimit g k units) = IsOffer m g.0 k
IsNameable m (OverCapacity n units) = n.0 < length m.nodes
IsNameable m (Blocking g k) = IsOffer m g.0 k
IsNameable m _ = Unit {0}
