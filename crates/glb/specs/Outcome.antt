-- How a run comes out, and what it leaves outside.
use Rattle.std.specs.Prelude.{◌≡◌, ◌≢◌, ℕ, ◌<◌, ◌≤◌, ◌⊎◌, List, [], ◌++◌, length, take, slice_index_or, Option}
use Rattle.outside.specs.Faults.{BothTell, DeviceState, Rose}
use Rattle.outside.specs.Shelf.{Shelved}
use Rattle.outside.specs.Sink.{Written}
use Rattle.mapper.specs.Scenes.{IsCutBehind, IsPrinted}
use Rattle.glb.specs.declared.status.Status.{Status}
use Rattle.glb.specs.declared.status.Status.TheVariants.{Ok, Usage, Refused, SourceFault, SinkFault, PortFault, Spent, NotGood, NoMemory, CellFault}

-- the number of a status, as a process ends with it
abbrev pub code_of : Status → ℕ
code_of Ok = 0
code_of Usage = 1
code_of Refused = 2
code_of SourceFault = 3
code_of SinkFault = 4
code_of PortFault = 5
code_of Spent = 6
code_of NotGood = 7
code_of NoMemory = 8
code_of CellFault = 9

-- how a command comes out where nothing outside fails: its status, and the pieces that it puts on the output
pub record Outcome : Type 0 where
  pub status : Status
  pub pieces : List (List ℕ)

-- a status that comes with a text on what the files say
abbrev pub IsSaidStatus : Status → Type 0
IsSaidStatus Ok = Unit {0}
IsSaidStatus Refused = Unit {0}
IsSaidStatus NotGood = Unit {0}
IsSaidStatus _ = ⊥

-- an outcome that says something of files, in one piece
pub record IsSaid (due : Outcome) : Type 0 where
  pub status : IsSaidStatus due.status
  pub one : length due.pieces ≡ 1

-- a status that comes with a text
abbrev pub HasText : Status → Type 0
HasText Usage = Unit {0}
HasText status = IsSaidStatus status

-- what the files and the output tell at one moment, which are all that most commands ask
pub record Outside : Type 0 where
  pub files : DeviceState Shelved
  pub out : DeviceState Written

-- the pieces before that number were put, and then the put of the next failed, of which a beginning was written
abbrev pub IsPrintedInPart : List (List ℕ) → Written → Written → Type 0
IsPrintedInPart pieces before after = (number : ℕ) × (number < length pieces) × IsCutBehind (take number pieces) (slice_index_or pieces number []) before after

-- the outcome that is due was answered, and all of its pieces were put
pub record IsWhole (Due : Outcome → Type 0) (before after : Option Written) (result : Status) : Type 0 where
  pub due : Outcome
  pub is_due : Due due
  pub status : result ≡ due.status
  pub puts : BothTell before after (IsPrinted due.pieces)

-- a put of what is due failed
pub record IsPutInPart (Due : Outcome → Type 0) (before after : Option Written) (result : Status) : Type 0 where
  pub due : Outcome
  pub is_due : Due due
  pub status : result ≡ SinkFault
  pub puts : BothTell before after (IsPrintedInPart due.pieces)

-- a load failed or memory was wanting, and nothing was put
pub record IsSilent (before after : Option Written) (result : Status) : Type 0 where
  pub status : (result ≡ SourceFault) ⊎ (result ≡ NoMemory)
  pub puts : BothTell before after (λ b a. a ≡ b)

-- the outcome that is due was answered with its text, or the put of the text failed
abbrev pub Speaks : (Outcome → Type 0) → Option Written → Option Written → Status → Type 0
Speaks Due before after result = IsWhole Due before after result ⊎ IsPutInPart Due before after result

-- The run of a command that puts its texts at its end. `Due` says which outcomes are due.
abbrev pub RunsBy : (Outcome → Type 0) → Option Written → Option Written → Status → Type 0
RunsBy Due before after result = IsWhole Due before after result ⊎ IsPutInPart Due before after result ⊎ IsSilent before after result

-- No count falls, and a fault of the outside is answered only where its count rose.
pub record HasCauses (before after : Outside) (status : Status) : Type 0 where
  pub files_later : before.files.faults ≤ after.files.faults
  pub out_later : before.out.faults ≤ after.out.faults
  pub source : status ≡ SourceFault → Rose before.files.faults after.files.faults
  pub sink : status ≡ SinkFault → Rose before.out.faults after.out.faults

-- its causes, and a count stands where its fault is not answered
pub record HasExactCauses (before after : Outside) (status : Status) : Type 0 where
  pub causes : HasCauses before after status
  pub files_stay : status ≢ SourceFault → after.files.faults ≡ before.files.faults
  pub out_stays : status ≢ SinkFault → after.out.faults ≡ before.out.faults
