-- What one call of a stream lane does.
use Rattle.std.specs.Prelude.{◌≡◌, ℕ, ◌+◌, ◌<◌, ◌≤◌, Bool, List, [], ◌∷◌, ◌++◌, length, map, fold, sum_by, Option, None}
use Rattle.outside.specs.Faults.{BothTell}
use Rattle.outside.specs.Gate.{GateTold}
use Rattle.outside.specs.Notes.{NotesTold}
use Rattle.outside.specs.Streams.{StreamsTold, Talk}
use Rattle.lane_model.specs.declared.ended.Ended.{Ended}
use Rattle.lane_model.specs.declared.ended.Ended.TheVariants as end
use Rattle.lane_model.specs.Lanes.{Answers}
use Rattle.lane_model.specs.Turns.{AreCalm, entries_of, failures, notes_turn, refused, refused_of, tries_of}
use Rattle.lane_model.specs.Calls.{Eyes, IsGateRun, IsLaneLog, Moment}
use Rattle.tcp_lane.specs.Stream.{IsStreamRun}
use Rattle.tcp_lane.specs.Turns.{IsBroken, IsRuled, StreamTurn, TalkState, closing_if, ended, lane_of, lead_of, stream_turn}

-- a lane at one moment: what its streams, gate and notes tell; its viewer and door; the number of the next message; the counts of faults; and its conversation
pub record StreamMoment (V : Type 0) : Type 0 where
  pub streams : Option StreamsTold
  pub gate : Option GateTold
  pub notes : Option NotesTold
  pub eyes : Eyes V
  pub count : ℕ
  pub stream_faults : ℕ
  pub gate_faults : ℕ
  pub talk : TalkState

-- a viewer and its door, the number of the next message, and a count of faults, as a moment of a lane whose port, gate and notes tell nothing
abbrev pub inner : {V : Type 0} → Eyes V → ℕ → ℕ → Moment V
inner eyes count faults = record { port = None; gate = None; notes = None; eyes = eyes; count = count; port_faults = faults; gate_faults = 0 }

-- how many calls of the streams failed in some turns
abbrev pub stream_failures : List StreamTurn → ℕ
stream_failures log = failures (lane_of log)

-- how many looks were refused in some turns
abbrev pub stream_refusals : List StreamTurn → ℕ
stream_refusals log = sum_by (λ t. refused_of t.came) (lane_of log)

-- Why a lane ended after these turns. All turns but the last go on: accept didn't answer End, no look was refused, fewer than eight calls of the streams failed.
abbrev pub IsStreamEnd : ℕ → List StreamTurn → Ended → Type 0
IsStreamEnd turns log end.Stopped = AreCalm (lane_of log) × (stream_failures log < 8) × (length log < turns)
IsStreamEnd turns log end.PortEnd = (before : List StreamTurn) × (t : StreamTurn) × (log ≡ before ++ t ∷ []) × AreCalm (lane_of before) × (stream_failures before < 8) × (t.came ≡ ended) × (length log ≤ turns)
IsStreamEnd turns log end.PortFault = (before : List StreamTurn) × (t : StreamTurn) × (log ≡ before ++ t ∷ []) × AreCalm (lane_of log) × (stream_failures before ≡ 7) × (stream_failures log ≡ 8) × (length log ≤ turns)
IsStreamEnd turns log end.CellFault = (before : List StreamTurn) × (t : StreamTurn) × (log ≡ before ++ t ∷ []) × AreCalm (lane_of before) × (stream_failures before < 8) × IsBroken (λ f. f ≡ refused) t.said × (length log ≤ turns)
IsStreamEnd turns log (end.Above known newest) = ⊥
IsStreamEnd turns log end.Spent = AreCalm (lane_of log) × (stream_failures log < 8) × (length log ≡ turns)

-- the rules of some turns, one after the other
abbrev pub AreRuled : TalkState → List StreamTurn → TalkState → Type 0
AreRuled s [] s' = s' ≡ s
AreRuled s (t ∷ log) s' = (mid : TalkState) × IsRuled t.came s t mid × AreRuled mid log s'

-- A call of a stream lane, over the turns that it made. All of them, as turns of a lane, are a lane's log: what was told is minded, what is seen and known rises, each message that isn't silent has one look, messages are counted on. What streams, gate and notes tell by then follows turn by turn. Whatever streams told before, if no conversation was open: the conversations that they tell of behind those are a stream run over what the viewer has seen, in which as many looks are refused as in the turns. A conversation is closed where the rules say so, and where it is open at the end.
pub record IsStreamCall {V : Type 0} (a : Answers V) (w turns : ℕ) (m m' : StreamMoment V) (result : Ended) : Type 0 where
  pub log : List StreamTurn
  pub closes : Bool
  pub shown : ℕ
  pub shown_is : shown + 1 ≡ length m'.eyes.heard
  pub all : IsLaneLog a w (lane_of log) (inner m.eyes m.count m.stream_faults) (inner m'.eyes m'.count m'.stream_faults)
  pub streams : BothTell m.streams m'.streams (λ b c. c ≡ closing_if closes (fold stream_turn b log))
  pub notes : BothTell m.notes m'.notes (λ b c. c ≡ fold notes_turn b (map lead_of log))
  pub gate : BothTell m.gate m'.gate (IsGateRun shown (map lead_of log) result)
  pub runs : (b : StreamsTold) → b.current ≡ None → (floor : ℕ) → floor < length m.eyes.heard
      → (talks : List Talk) × ((closing_if closes (fold stream_turn b log)).closed ≡ b.closed ++ talks) × ((closing_if closes (fold stream_turn b log)).current ≡ None)
      × IsStreamRun a m'.eyes.seen w m.count floor (stream_refusals log) talks (entries_of a.way (lane_of log)) (tries_of (lane_of log))
  pub rules : (talk : TalkState) × AreRuled m.talk log talk × (closes ≡ talk.is_open)
  pub ending : IsStreamEnd turns log result
