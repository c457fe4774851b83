-- What one call of a lane does, moment by moment.
use Rattle.std.specs.Prelude.{◌≡◌, ℕ, ◌+◌, ◌<◌, ◌≤◌, true, false, List, [], ◌∷◌, ◌++◌, All, length, max, fold, sum_by, Option}
use mathlib.Core.List.{IsPrefix}
use Rattle.outside.specs.Faults.{BothTell, Rose, raised}
use Rattle.outside.specs.Port.{PortTold}
use Rattle.outside.specs.Gate.{GateTold, IsTurning, going}
use Rattle.outside.specs.declared.gate.Turning.TheVariants.{Stop}
use Rattle.outside.specs.Notes.{NotesTold}
use Rattle.lane_model.specs.declared.ended.Ended.{Ended}
use Rattle.lane_model.specs.declared.ended.Ended.TheVariants as end
use Rattle.lane_model.specs.Lanes.{Answers, IsLaneRun}
use Rattle.lane_model.specs.Turns.{Turn, AreCalm, IsCame, IsFated, IsTold, count_after, entries_of, fails_of, failures, floor_after, gate_turn, giving, is_refused, looks_of, notes_turn, refused_of, port_after, port_turn, tries_of, ended}

-- what a viewer has seen and was told of, and its door's numbers
pub record Eyes (V : Type 0) : Type 0 where
  pub seen : List V
  pub heard : List V
  pub looks : ℕ
  pub greatest : ℕ
  pub faults : ℕ

-- a lane at one moment: what its port, gate and notes tell; its viewer and door; the number of the next datagram; and the counts of faults
pub record Moment (V : Type 0) : Type 0 where
  pub port : Option PortTold
  pub gate : Option GateTold
  pub notes : Option NotesTold
  pub eyes : Eyes V
  pub count : ℕ
  pub port_faults : ℕ
  pub gate_faults : ℕ

-- what is seen only grows; what is known is at most what was known before, or what the door showed or learned, and the other way round
pub record IsRise {V : Type 0} (e f : Eyes V) : Type 0 where
  pub seen : IsPrefix e.seen f.seen
  pub heard : IsPrefix e.heard f.heard
  pub above : length f.heard ≤ max (length e.heard) (f.greatest + 1)
  pub greatest : f.greatest + 1 ≤ max (e.greatest + 1) (length f.heard)
  pub rising : e.greatest ≤ f.greatest
  pub faults : e.faults ≤ f.faults

-- one turn
pub record IsTurn {V : Type 0} (a : Answers V) (w : ℕ) (t : Turn) (m m' : Moment V) : Type 0 where
  pub gate : BothTell m.gate m'.gate (λ b c. c ≡ going t.shown b)
  pub notes : BothTell m.notes m'.notes (λ b c. c ≡ giving t.notes b)
  pub port : BothTell m.port m'.port (λ b c. c ≡ port_after t.known t.came b)
  pub shown : t.shown + 1 ≡ length m.eyes.heard
  pub known : t.shown ≤ t.known
  pub noted : All (λ s. s ≤ t.known) t.notes
  pub came : IsCame a m'.eyes.seen w m.count t.known t.came
  pub count : m'.count ≡ count_after m.count t.came
  pub eyes : IsRise m.eyes m'.eyes
  pub floor : t.known ≤ floor_after t.known t.came
  pub knows : floor_after t.known t.came < length m'.eyes.heard
  pub looks : m'.eyes.looks ≡ raised m.eyes.looks (looks_of t.came)
  pub port_faults : raised m.port_faults (fails_of t.came) ≤ m'.port_faults
  pub port_stays : fails_of t.came ≡ 0 → m'.port_faults ≡ m.port_faults
  pub gate_later : m.gate_faults ≤ m'.gate_faults
  pub refusal : is_refused t.came ≡ true → Rose m.eyes.faults m'.eyes.faults
  pub stays : is_refused t.came ≡ false → m'.eyes.faults ≡ m.eyes.faults

-- some turns, one after the other
abbrev pub AreTurns : {V : Type 0} → Answers V → ℕ → List Turn → Moment V → Moment V → Type 0
AreTurns a w [] m m' = m' ≡ m
AreTurns {V = V} a w (t ∷ log) m m' = (mid : Moment V) × IsTurn a w t m mid × AreTurns a w log mid m'

-- Why a lane ended after these turns. All turns but the last go on: recv didn't answer End, no look was refused, fewer than eight calls of the port failed.
abbrev pub IsEnd : ℕ → List Turn → Ended → Type 0
IsEnd turns log end.Stopped = AreCalm log × (failures log < 8) × (length log < turns)
IsEnd turns log end.PortEnd = (before : List Turn) × (t : Turn) × (log ≡ before ++ t ∷ []) × AreCalm before × (failures before < 8) × (t.came ≡ ended) × (length log ≤ turns)
IsEnd turns log end.PortFault = (before : List Turn) × (t : Turn) × (log ≡ before ++ t ∷ []) × AreCalm log × (failures before ≡ 7) × (fails_of t.came ≡ 1) × (length log ≤ turns)
IsEnd turns log end.CellFault = (before : List Turn) × (t : Turn) × (log ≡ before ++ t ∷ []) × AreCalm before × (failures before < 8) × (is_refused t.came ≡ true) × (length log ≤ turns)
IsEnd turns log (end.Above known newest) = ⊥
IsEnd turns log end.Spent = AreCalm log × (failures log < 8) × (length log ≡ turns)

-- a gate after some turns, and at Stopped after its Stop
abbrev pub IsGateRun : ℕ → List Turn → Ended → GateTold → GateTold → Type 0
IsGateRun shown log end.Stopped before after = IsTurning shown Stop (fold gate_turn before log) after
IsGateRun shown log _ before after = after ≡ fold gate_turn before log

-- What a call of a lane promises, over the turns that it made: a lane run over what its viewer has seen by then; that what was told is minded; what port and notes tell by then; one look for each datagram that isn't silent; that nothing that was handed out is past what is known by then; that the port's count rose by at least as many as its calls failed, and stands where none did; that the door's count rose where a look was refused, and stands where none was; that a datagram was passed over just where it has no reply, and one whose look was refused has one, which it missed; and that datagrams are counted on.
pub record IsLaneLog {V : Type 0} (a : Answers V) (w : ℕ) (log : List Turn) (m m' : Moment V) : Type 0 where
  pub run : (floor : ℕ) → floor < length m.eyes.heard → IsLaneRun a m'.eyes.seen w m.count floor (entries_of a.way log) (tries_of log)
  pub told : (floor : ℕ) → floor < length m.eyes.heard → IsTold floor log
  pub port : BothTell m.port m'.port (λ b c. c ≡ fold port_turn b log)
  pub notes : BothTell m.notes m'.notes (λ b c. c ≡ fold notes_turn b log)
  pub rise : IsRise m.eyes m'.eyes
  pub known : All (λ t. t.known < length m'.eyes.heard) log
  pub within : All (λ t. floor_after t.known t.came < length m'.eyes.heard) log
  pub looks : m'.eyes.looks ≡ raised m.eyes.looks (sum_by (λ t. looks_of t.came) log)
  pub port_faults : raised m.port_faults (failures log) ≤ m'.port_faults
  pub port_stays : failures log ≡ 0 → m'.port_faults ≡ m.port_faults
  pub refusal : 0 < sum_by (λ t. refused_of t.came) log → Rose m.eyes.faults m'.eyes.faults
  pub stays : sum_by (λ t. refused_of t.came) log ≡ 0 → m'.eyes.faults ≡ m.eyes.faults
  pub fates : All (λ t. IsFated a t.came) log
  pub count : m'.count ≡ fold (λ n t. count_after n t.came) m.count log

-- what a call of a lane promises
pub record IsLaneCall {V : Type 0} (a : Answers V) (w turns : ℕ) (m m' : Moment V) (result : Ended) : Type 0 where
  pub log : List Turn
  pub shown : ℕ
  pub shown_is : shown + 1 ≡ length m'.eyes.heard
  pub all : IsLaneLog a w log m m'
  pub gate : BothTell m.gate m'.gate (IsGateRun shown log result)
  pub ending : IsEnd turns log result
