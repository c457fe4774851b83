-- What status 0 of `serve` says. Begin at the end, with `IsWellServed`; of one worker's replies, with `IsWellDone`.
use Rattle.std.specs.Prelude.{◌≡◌, ◌⊎◌, ℕ, zero, suc, ◌+◌, ◌≤◌, All, Bool, List, [], ◌∷◌, ◌++◌, Option, None, Some, fold, length, map, take}
use Rattle.std.specs.List.{flat_map, range_with_len}
use Rattle.outside.specs.Faults.{BothTell, raised}
use Rattle.topology_text.specs.Plan.{IsPlan, Plan}
use Rattle.past_log.specs.Notes.{no_notes}
use Rattle.published_map.specs.Version.{Version}
use Rattle.map_cell.specs.Rows.{AreFirst}
use Rattle.lane_model.specs.declared.ended.Ended.{Ended}
use Rattle.lane_model.specs.declared.ended.Ended.TheVariants.{PortEnd, Stopped}
use Rattle.lane_model.specs.Lanes.{IsLaneRun}
use Rattle.lane_model.specs.Machine.{GoesOn}
use Rattle.lane_model.specs.Replies.{replies}
use Rattle.lane_model.specs.Calls.{IsEnd, IsGateRun}
use Rattle.lane_model.specs.Turns.{IsFated, IsTold, Turn, entries_of, failures, notes_turn, port_turn, tries_of}
use Rattle.demand_feed.specs.declared.run.FeedEnd.TheVariants as feed
use Rattle.mapper.specs.Scenes.{IsPrinted}
use Rattle.mapper.specs.Words.{map_text}
use Rattle.drive.specs.Done.{LaneTold, StreamLaneTold, floor_behind}
use Rattle.drive.specs.Driven.{LentTold, Succeeds, scene_at}
use Rattle.drive.specs.Feeds.{AreFed}
use Rattle.glb.specs.Words.{Service}
use Rattle.addr_text.specs.declared.address.Listen.{Listen}
use Rattle.outside.specs.Streams.{StreamsTold, Talk}
use Rattle.tcp_lane.specs.Calls.{AreRuled, IsStreamEnd}
use Rattle.tcp_lane.specs.Replies.{stream_replies}
use Rattle.tcp_lane.specs.Stream.{IsStreamRun}
use Rattle.tcp_lane.specs.Turns.{StreamTurn, TalkState, closing_if, lane_of, lead_of, no_talk, stream_turn}
use Rattle.glb.specs.Told.{Surroundings}
use Rattle.glb.specs.Loads.{files_between}
use Rattle.glb.specs.Files.{Says, topology_file}
use Rattle.glb.specs.declared.status.Status.TheVariants as status
use Rattle.glb.specs.Serve.{IsFirstOf, IsPlaced, IsServed, IsStarted}

-- A lane that ended well: in each turn its gate was asked and its port after that, whose count of faults rose by at least as many as its calls failed, and stands where none did; of each datagram with a reply one was tried, right behind it, from a version of the history that is no older than what the lane had used or was told of, whether or not it went, since no look was refused (by `well` and `ending`, by which also fewer than eight calls failed); its worker was given the notes of the first versions, in their order, each once, in the turns of which the lane tells; where its gate stopped it, what that was shown then is no less than what was known by then; and it went on until its port's end or its gate's stop.
pub record IsWellDone (turns : ℕ) (history : List Version) (w : ℕ) (before after : LaneTold) : Type 0 where
  pub log : List Turn
  pub ended : Ended
  pub shown : ℕ
  pub run : IsLaneRun replies history w 0 0 (entries_of replies.way log) (tries_of log)
  pub told : IsTold 0 log
  pub fates : All (λ t. IsFated replies t.came) log
  pub numbers : AreFirst after.notes
  pub notes : after.notes ≡ fold notes_turn no_notes log
  pub noted : length after.notes.given ≤ length history
  pub last : floor_behind 0 log ≤ shown
  pub port : BothTell before.port after.port (λ b c. c ≡ fold port_turn b log)
  pub gate : BothTell before.gate after.gate (IsGateRun shown log ended)
  pub port_faults : raised before.port_faults (failures log) ≤ after.port_faults
  pub port_stays : failures log ≡ 0 → after.port_faults ≡ before.port_faults
  pub ending : IsEnd turns log ended
  pub well : (ended ≡ Stopped) ⊎ (ended ≡ PortEnd)

-- the first n lanes ended well, by their numbers from w on, and those behind them are untouched
abbrev pub AreWellDone : ℕ → List Version → ℕ → ℕ → List LaneTold → List LaneTold → Type 0
AreWellDone turns history w zero before after = after ≡ before
AreWellDone turns history w (suc n) (b ∷ before) (c ∷ after) = IsWellDone turns history w b c × AreWellDone turns history (w + 1) n before after
AreWellDone turns history w (suc n) _ _ = ⊥

-- A lane for conversations that ended well: in each turn its gate was asked and then its streams, whose count of faults rose by at least as many as their calls failed, and stands where none did; whatever the streams told before, if no conversation was open, those that they tell of behind those are a stream run over the history, from versions no older than what the lane had used or was told of, in which no look is refused, so each whole message that was read is taken, and has its reply unless it is silent, but behind a write that failed; its turns follow the rules of conversations, by which each is closed; its worker was given the notes of the first versions, in their order, each once, in the turns of which the lane tells; where its gate stopped it, what that was shown then is no less than what was known by then; and it went on until its streams' end or its gate's stop.
pub record IsStreamWellDone (turns : ℕ) (history : List Version) (w : ℕ) (before after : StreamLaneTold) : Type 0 where
  pub log : List StreamTurn
  pub closes : Bool
  pub ended : Ended
  pub shown : ℕ
  pub runs : (b : StreamsTold) → b.current ≡ None
      → (talks : List Talk) × ((closing_if closes (fold stream_turn b log)).closed ≡ b.closed ++ talks) × ((closing_if closes (fold stream_turn b log)).current ≡ None) × IsStreamRun stream_replies history w 0 0 0 talks (entries_of stream_replies.way (lane_of log)) (tries_of (lane_of log))
  pub rules : (talk : TalkState) × AreRuled no_talk log talk × (closes ≡ talk.is_open)
  pub told : IsTold 0 (lane_of log)
  pub fates : All (λ t. IsFated stream_replies t.came) (lane_of log)
  pub numbers : AreFirst after.notes
  pub notes : after.notes ≡ fold notes_turn no_notes (map lead_of log)
  pub noted : length after.notes.given ≤ length history
  pub last : floor_behind 0 (lane_of log) ≤ shown
  pub streams : BothTell before.port after.port (λ b c. c ≡ closing_if closes (fold stream_turn b log))
  pub gate : BothTell before.gate after.gate (IsGateRun shown (map lead_of log) ended)
  pub port_faults : raised before.port_faults (failures (lane_of log)) ≤ after.port_faults
  pub port_stays : failures (lane_of log) ≡ 0 → after.port_faults ≡ before.port_faults
  pub ending : IsStreamEnd turns log ended
  pub well : (ended ≡ Stopped) ⊎ (ended ≡ PortEnd)

-- the lane for conversations ended well where it is asked for, and is untouched where it isn't
abbrev pub IsStreamWell : Option Listen → ℕ → List Version → ℕ → StreamLaneTold → StreamLaneTold → Type 0
IsStreamWell None turns history w before after = after ≡ before
IsStreamWell (Some at) turns history w before after = IsStreamWellDone turns history w before after

-- A load of this run gave the octets of a topology; a history of good maps begins with the topology's own numbers, mapped from scratch, and goes on by the batches of the feeds; the maps got the texts of that history and nothing else; the output got what the feed's lines come to, or the merged text of several feeds; and each of the first lanes, and that for conversations where it is asked for, was opened and answered from that history until it ended. What the run is said to have done is of the same history.
pub record IsWellServed (turns : ℕ) (ask : Service) (before after : Surroundings) : Type 0 where
  pub topology : Plan
  pub is_plan : IsPlan topology
  pub says : Says topology_file (files_between before.files.past after.files.past) ask.topology topology
  pub first : Version
  pub rest : List Version
  pub newest : Version
  pub is_first : IsFirstOf topology first
  pub goes_on : GoesOn Succeeds (first ∷ []) rest
  pub texts : BothTell before.lent.maps.past after.lent.maps.past (IsPrinted (map map_text (first ∷ rest)))
  pub placed : LentTold
  pub started : LentTold
  pub place : IsPlaced ask before.lent placed
  pub start : IsStarted ask first placed started
  pub fed : AreFed topology turns feed.Ended started.feed (take (length ask.more) started.more) after.lent.feed (take (length ask.more) after.lent.more) (scene_at first (first ∷ []) started) (scene_at newest (first ∷ rest) after.lent)
  pub lanes : AreWellDone turns (first ∷ rest) 0 ask.workers started.lanes after.lent.lanes
  pub stream : IsStreamWell ask.tcp turns (first ∷ rest) ask.workers started.stream after.lent.stream
  -- what the run did behind its start, over this same history
  pub served : IsServed turns ask first started after.lent status.Ok
  pub one : served.driven.rest ≡ rest
