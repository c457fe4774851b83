-- The lanes of a drive and its history, as one list of the machine's events.
use mathlib.Core.Logic.{inl, inr}
use Rattle.std.specs.Prelude.{◌⊎◌, ℕ, ◌+◌, List, [], ◌∷◌, ◌++◌, length, Option, None, Some}
use Rattle.demand_feed.specs.declared.run.FeedEnd.{FeedEnd}
use Rattle.published_map.specs.Version.{Version}
use Rattle.lane_model.specs.declared.ended.Ended.{Ended}
use Rattle.lane_model.specs.Histories.{Follows}
use Rattle.lane_model.specs.Lawful.{IsLawful}
use Rattle.lane_model.specs.Machine.{Event, HaveDone, IsTaken, LaneLog, LaneState, Machine, commits_of, events_of_lanes, fresh_lanes}
use Rattle.lane_model.specs.Replies.{replies}
use Rattle.lane_model.specs.Turns.{Turn, entries_of, tries_of}
use Rattle.answer_core.specs.declared.way.Way.{Way}
use Rattle.tcp_lane.specs.Replies.{stream_replies}
use Rattle.tcp_lane.specs.Turns.{lane_of}
use Rattle.drive.specs.Done.{LaneTold, StreamLaneTold}
use Rattle.drive.specs.Driven.{AreDone, IsDriven, LentTold}
use Rattle.drive.specs.Streams.{AreStreamsDone}

-- what the turns of a lane took, by the way of its replies, and tried, if it stands over the mapper's history; else nothing
abbrev pub log_over : {A B : Type 0} → Way → List Turn → A ⊎ B → LaneLog
log_over way log (inl newest) = record { taken = entries_of way log; tries = tries_of log }
log_over way log (inr other) = record { taken = []; tries = [] }

-- lane by lane
abbrev pub logs_of : (turns : ℕ) (first : Version) (rest : List Version) (w : ℕ) (ends : List Ended) → (before after : List LaneTold) → AreDone turns first rest w ends before after → List LaneLog
logs_of turns first rest w [] before after d = []
logs_of turns first rest w (e ∷ ends) (b ∷ before) (c ∷ after) d = log_over replies.way d.0.log d.0.served_log.which ∷ logs_of turns first rest (w + 1) ends before after d.1
logs_of turns first rest w (e ∷ ends) [] after d = []
logs_of turns first rest w (e ∷ ends) (b ∷ before) [] d = []

-- and behind them the lane for conversations, where it has an end
abbrev pub stream_logs : (turns : ℕ) (first : Version) (rest : List Version) (w : ℕ) (stream_end : Option Ended) → (before after : StreamLaneTold) → AreStreamsDone turns first rest w stream_end before after → List LaneLog
stream_logs turns first rest w None before after d = []
stream_logs turns first rest w (Some e) before after d = log_over stream_replies.way (lane_of d.log) d.served_log.which ∷ []

-- all of a drive
abbrev pub all_logs : (turns : ℕ) (first : Version) (end : FeedEnd) (ends : List Ended) (stream_end : Option Ended) (before after : LentTold) → IsDriven turns first end ends stream_end before after → List LaneLog
all_logs turns first end ends stream_end before after d =
    logs_of turns first d.rest 0 ends before.lanes after.lanes d.lanes ++ stream_logs turns first d.rest (length ends) stream_end before.stream after.stream d.stream

-- Of each drive: the versions of its history are committed in order, and then, lane by lane, each datagram, and each message of the conversations, of the lanes that stand over that history is taken behind a tell of what was known.
abbrev pub DrivesAreTaken : Type 0
DrivesAreTaken = (turns : ℕ) (first : Version) (end : FeedEnd) (ends : List Ended) (stream_end : Option Ended) (before after : LentTold) (d : IsDriven turns first end ends stream_end before after)
    → (lanes : List LaneState) × HaveDone (all_logs turns first end ends stream_end before after d) lanes
    × IsTaken replies Follows (commits_of d.rest ++ events_of_lanes replies 0 (all_logs turns first end ends stream_end before after d))
    (record { history = first ∷ []; lanes = fresh_lanes (all_logs turns first end ends stream_end before after d) })
    (record { history = first ∷ d.rest; lanes = lanes })

-- Whatever the machine takes, its versions go on one from the other, and each of its lanes is a lane run over them.
abbrev pub MachinesAreKept : Type 0
MachinesAreKept = (first : Version) (events : List (Event Version)) (m m' : Machine Version) → IsTaken replies Follows events m m' → IsLawful replies Follows first m → IsLawful replies Follows first m'
