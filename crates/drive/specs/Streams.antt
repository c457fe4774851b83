-- A lane for conversations after a drive.
use Rattle.std.specs.Prelude.{◌≡◌, ℕ, Bool, List, ◌++◌, fold, map, Option, None, Some}
use Rattle.outside.specs.Faults.{BothTell}
use Rattle.outside.specs.Streams.{StreamsTold, Talk}
use Rattle.published_map.specs.Version.{Version}
use Rattle.lane_model.specs.declared.ended.Ended.{Ended}
use Rattle.lane_model.specs.Calls.{IsGateRun}
use Rattle.lane_model.specs.Turns.{entries_of, notes_turn, tries_of}
use Rattle.past_log.specs.Notes.{no_notes}
use Rattle.tcp_lane.specs.Calls.{AreRuled, IsStreamEnd, stream_refusals}
use Rattle.tcp_lane.specs.Replies.{stream_replies}
use Rattle.tcp_lane.specs.Stream.{IsStreamRun}
use Rattle.tcp_lane.specs.Turns.{StreamTurn, TalkState, closing_if, lane_of, lead_of, no_talk, stream_turn}
use Rattle.drive.specs.Done.{IsServedLog, StreamLaneTold}

-- The lane for conversations, which is lane w: the turns that it made, as turns of a lane; what streams, gate and notes tell of them, the notes from the first None on; that whatever the streams told before, if no conversation was open, those that they tell of behind those are a stream run over the history that the lane stands over, in which as many looks are refused as in the turns, and none is open; that the turns follow the rules of conversations, by which each is closed; and why it ended.
pub record IsStreamDone (turns : ℕ) (first : Version) (rest : List Version) (w : ℕ) (before after : StreamLaneTold) (ended : Ended) : Type 0 where
  pub log : List StreamTurn
  pub closes : Bool
  pub served : Ended
  pub shown : ℕ
  pub served_log : IsServedLog stream_replies first rest w (lane_of log) served ended shown before after
  pub streams : BothTell before.port after.port (λ b c. c ≡ closing_if closes (fold stream_turn b log))
  pub gate : BothTell before.gate after.gate (IsGateRun shown (map lead_of log) served)
  pub notes : after.notes ≡ fold notes_turn no_notes (map lead_of log)
  pub runs : (b : StreamsTold) → b.current ≡ None → (talks : List Talk) × ((closing_if closes (fold stream_turn b log)).closed ≡ b.closed ++ talks) × ((closing_if closes (fold stream_turn b log)).current ≡ None)
      × IsStreamRun stream_replies served_log.over w 0 0 (stream_refusals log) talks (entries_of stream_replies.way (lane_of log)) (tries_of (lane_of log))
  pub rules : (talk : TalkState) × AreRuled no_talk log talk × (closes ≡ talk.is_open)
  pub ending : IsStreamEnd turns log served

-- it has an end and is done, or it is as before
abbrev pub AreStreamsDone : ℕ → Version → List Version → ℕ → Option Ended → StreamLaneTold → StreamLaneTold → Type 0
AreStreamsDone turns first rest w None before after = after ≡ before
AreStreamsDone turns first rest w (Some e) before after = IsStreamDone turns first rest w before after e
