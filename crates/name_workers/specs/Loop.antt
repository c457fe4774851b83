-- The loop of a lane, whatever it takes from: turns, each behind its gate and its notes.
use Rattle.std.specs.Prelude.{◌≡◌, ℕ, ◌+◌, ◌<◌, ◌≤◌, List, [], ◌∷◌, ◌++◌, length, map, fold, Option, None}
use Rattle.std.specs.List.{flat_map}
use Rattle.answer_core.specs.declared.way.Way.{Way}
use Rattle.map_cell.specs.Doors.{DoorState}
use Rattle.map_cell.specs.Ends.{ViewerState}
use Rattle.outside.specs.Faults.{BothTell, DeviceState}
use Rattle.outside.specs.Gate.{GateTold, IsTurning, going}
use Rattle.outside.specs.declared.gate.Turning.TheVariants.{Stop}
use Rattle.outside.specs.Notes.{NotesTold}
use Rattle.published_map.specs.Version.{Version}
use Rattle.lane_model.specs.declared.ended.Ended.{Ended}
use Rattle.lane_model.specs.declared.ended.Ended.TheVariants as end
use Rattle.lane_model.specs.Turns.{AreCalm, Came, Turn, failures, giving, notes_turn}
use Rattle.lane_model.specs.Calls.{Eyes, IsGateRun, IsLaneLog, AreTurns, Moment}
use Rattle.lane_model.specs.Replies.{replies_by}
use Rattle.lane_model.proofs.Runs.{IsInOrder}
use Rattle.name_workers.specs.Moments.{eyes_of}
use Rattle.name_workers.specs.declared.ending.Step.{Step}
use Rattle.name_workers.specs.declared.ending.Step.TheVariants as step

-- Who takes for a lane: a room, and a port of some kind. By which way it replies, and how often its port has failed. Which room is fresh, and which is ready for a take. A take as turns of a lane, of which the first is behind its gate and notes. What a take does. Whether none will come behind it, and whether no map could be looked at for it.
pub record Taking (K S P : Type 0) : Type 1 where
  pub way : Way
  pub faults : P → ℕ
  pub is_fresh : S → Type 0
  pub is_ready : S → Type 0
  pub lead : K → Turn
  pub more : K → List Turn
  pub does : K → S → S → P → P → Type 0
  pub is_end : K → Type 0
  pub is_blind : K → Type 0

-- a take as turns of a lane
abbrev pub turns_in : {K S P : Type 0} → Taking K S P → K → List Turn
turns_in k t = k.lead t ∷ k.more t

-- all takes as turns of a lane
abbrev pub lane_in : {K S P : Type 0} → Taking K S P → List K → List Turn
lane_in k log = flat_map (turns_in k) log

-- where a lane takes: its room and its port, its viewer and door, and the number of the next message
pub record Place (S P : Type 0) : Type 0 where
  pub room : S
  pub port : P
  pub eyes : Eyes Version
  pub count : ℕ

-- a viewer and its door, the number of the next message, and a count of faults, as a moment of a lane whose port, gate and notes tell nothing
abbrev pub alone : {V : Type 0} → Eyes V → ℕ → ℕ → Moment V
alone eyes count faults = record { port = None; gate = None; notes = None; eyes = eyes; count = count; port_faults = faults; gate_faults = 0 }

abbrev pub alone_at : {K S P : Type 0} → Taking K S P → Place S P → Moment Version
alone_at k p = alone p.eyes p.count (k.faults p.port)

-- how a lane goes on behind a take
abbrev pub GoesOn : {K S P : Type 0} → Taking K S P → Step → K → Type 0
GoesOn k step.Stopped t = ⊥
GoesOn k step.On t = AreCalm (turns_in k t) × (failures (turns_in k t) ≡ 0)
GoesOn k step.PortEnd t = k.is_end t × IsInOrder (turns_in k t)
GoesOn k step.PortFailed t = AreCalm (turns_in k t) × (failures (turns_in k t) ≡ 1)
GoesOn k step.Refused t = k.is_blind t × IsInOrder (turns_in k t)

-- a take, whatever its gate was shown and its notes gave
pub record IsTook {K S P : Type 0} (k : Taking K S P) (w : ℕ) (s : Step) (p q : Place S P) : Type 0 where
  pub known : ℕ
  pub came : Came
  pub more : List Turn
  pub session : AreTurns (replies_by k.way) w ((record { shown = known; notes = []; known = known; came = came }) ∷ more) (alone_at k p) (alone_at k q)
  pub take : (shown : ℕ) (notes : List ℕ) → (t : K) × (k.lead t ≡ record { shown = shown; notes = notes; known = known; came = came }) × (k.more t ≡ more) × k.does t p.room q.room p.port q.port × GoesOn k s t

-- a lane at one moment: where it takes, what its gate and notes tell, and how often the gate has failed
pub record LoopMoment (S P : Type 0) : Type 0 where
  pub here : Place S P
  pub gate : Option GateTold
  pub notes : Option NotesTold
  pub gate_faults : ℕ

-- one turn
pub record IsLoopTurn {K S P : Type 0} (k : Taking K S P) (w : ℕ) (t : K) (m m' : LoopMoment S P) : Type 0 where
  pub gate : BothTell m.gate m'.gate (λ b c. c ≡ going (k.lead t).shown b)
  pub notes : BothTell m.notes m'.notes (λ b c. c ≡ giving (k.lead t).notes b)
  pub session : AreTurns (replies_by k.way) w (turns_in k t) (alone_at k m.here) (alone_at k m'.here)
  pub gate_later : m.gate_faults ≤ m'.gate_faults
  pub does : k.does t m.here.room m'.here.room m.here.port m'.here.port

-- some turns, one after the other
abbrev pub AreLoopTurns : {K S P : Type 0} → Taking K S P → ℕ → List K → LoopMoment S P → LoopMoment S P → Type 0
AreLoopTurns k w [] m m' = m' ≡ m
AreLoopTurns {S = S} {P = P} k w (t ∷ log) m m' = (mid : LoopMoment S P) × IsLoopTurn k w t m mid × AreLoopTurns k w log mid m'

-- the gate answered Stop, and nothing else was asked
pub record IsLoopStop {S P : Type 0} (m m' : LoopMoment S P) : Type 0 where
  pub shown : ℕ
  pub is_known : shown + 1 ≡ length m.here.eyes.heard
  pub gate : BothTell m.gate m'.gate (IsTurning shown Stop)
  pub later : m.gate_faults ≤ m'.gate_faults
  pub rest : m' ≡ record m { gate = m'.gate; gate_faults = m'.gate_faults }

-- what one turn does: the gate answered Stop, or a turn was made
abbrev pub IsTurned : {K S P : Type 0} → Taking K S P → ℕ → Step → LoopMoment S P → LoopMoment S P → Type 0
IsTurned k w step.Stopped m m' = IsLoopStop m m'
IsTurned {K = K} k w s m m' = (t : K) × IsLoopTurn k w t m m' × GoesOn k s t

-- so many turns were made from one moment to another, and so many calls of the port failed
pub record IsSoFar {K S P : Type 0} (k : Taking K S P) (w turns fails : ℕ) (m mid : LoopMoment S P) : Type 0 where
  pub log : List K
  pub made : AreLoopTurns k w log m mid
  pub calm : AreCalm (lane_in k log)
  pub failures_are : failures (lane_in k log) ≡ fails
  pub few : fails < 8
  pub turns_are : length log ≡ turns

-- after the last turn a Stop, or nothing
abbrev pub IsLoopLast : {S P : Type 0} → Ended → LoopMoment S P → LoopMoment S P → Type 0
IsLoopLast end.Stopped m m' = IsLoopStop m m'
IsLoopLast end.PortEnd m m' = m' ≡ m
IsLoopLast end.PortFault m m' = m' ≡ m
IsLoopLast end.CellFault m m' = m' ≡ m
IsLoopLast (end.Above known newest) m m' = m' ≡ m
IsLoopLast end.Spent m m' = m' ≡ m

-- Why a loop ended after these turns. All turns but the last go on: the port has not ended, no look was refused, fewer than eight calls of the port failed.
abbrev pub IsLoopEnd : {K S P : Type 0} → Taking K S P → ℕ → List K → Ended → Type 0
IsLoopEnd k turns log end.Stopped = AreCalm (lane_in k log) × (failures (lane_in k log) < 8) × (length log < turns)
IsLoopEnd {K = K} k turns log end.PortEnd = (before : List K) × (t : K) × (log ≡ before ++ t ∷ []) × AreCalm (lane_in k before) × (failures (lane_in k before) < 8) × k.is_end t × (length log ≤ turns)
IsLoopEnd {K = K} k turns log end.PortFault = (before : List K) × (t : K) × (log ≡ before ++ t ∷ []) × AreCalm (lane_in k log) × (failures (lane_in k before) ≡ 7) × (failures (lane_in k log) ≡ 8) × (length log ≤ turns)
IsLoopEnd {K = K} k turns log end.CellFault = (before : List K) × (t : K) × (log ≡ before ++ t ∷ []) × AreCalm (lane_in k before) × (failures (lane_in k before) < 8) × k.is_blind t × (length log ≤ turns)
IsLoopEnd k turns log (end.Above known newest) = ⊥
IsLoopEnd k turns log end.Spent = AreCalm (lane_in k log) × (failures (lane_in k log) < 8) × (length log ≡ turns)

-- what the turns of a call do: some turns, and then its end
pub record IsServed {K S P : Type 0} (k : Taking K S P) (w turns : ℕ) (m m' : LoopMoment S P) (result : Ended) : Type 0 where
  pub log : List K
  pub mid : LoopMoment S P
  pub made : AreLoopTurns k w log m mid
  pub last : IsLoopLast result mid m'
  pub order : IsInOrder (lane_in k log)
  pub ending : IsLoopEnd k turns log result

-- What a call of a loop promises, over the turns that it made. As turns of a lane they are a lane's log. What gate and notes tell by then follows turn by turn, and so does what the takes did.
pub record IsLoopCall {K S P : Type 0} (k : Taking K S P) (w turns : ℕ) (m m' : LoopMoment S P) (result : Ended) : Type 0 where
  pub log : List K
  pub mid : LoopMoment S P
  pub made : AreLoopTurns k w log m mid
  pub here : m'.here ≡ mid.here
  pub shown : ℕ
  pub shown_is : shown + 1 ≡ length m'.here.eyes.heard
  pub all : IsLaneLog (replies_by k.way) w (lane_in k log) (alone_at k m.here) (alone_at k m'.here)
  pub notes : BothTell m.notes m'.notes (λ b c. c ≡ fold notes_turn b (map k.lead log))
  pub gate : BothTell m.gate m'.gate (IsGateRun shown (map k.lead log) result)
  pub ending : IsLoopEnd k turns log result

-- the same, from a fresh room on
abbrev pub IsFreshCall : {K S P : Type 0} → Taking K S P → ℕ → ℕ → (S → LoopMoment S P) → LoopMoment S P → Ended → Type 0
IsFreshCall {S = S} k w turns from m' result = (room : S) × k.is_fresh room × IsLoopCall k w turns (from room) m' result

abbrev pub IsFreshSoFar : {K S P : Type 0} → Taking K S P → ℕ → ℕ → ℕ → (S → LoopMoment S P) → LoopMoment S P → Type 0
IsFreshSoFar {S = S} k w turns fails from mid = (room : S) × k.is_fresh room × IsSoFar k w turns fails (from room) mid

-- where a lane takes, by what its door tells
abbrev pub place_of : {S P D : Type 0} → (D → DoorState) → ViewerState → ℕ → D → S → P → Place S P
place_of told viewer count door room port = record { room = room; port = port; eyes = eyes_of told viewer door; count = count }

-- a gate and notes, by what each tells, with where a lane takes
abbrev pub loop_moment_of : {S P G N : Type 0} → (G → DeviceState GateTold) → (N → Option NotesTold) → G → N → Place S P → LoopMoment S P
loop_moment_of gate_told notes_told gate notes here = record { here = here; gate = (gate_told gate).past; notes = notes_told notes; gate_faults = (gate_told gate).faults }
