-- A lane after a drive.
use Rattle.std.specs.Prelude.{◌≡◌, ◌⊎◌, ℕ, ◌+◌, ◌<◌, ◌≤◌, All, List, [], ◌∷◌, length, fold, max, sum_by, Option}
use mathlib.Core.List.{IsPrefix}
use Rattle.outside.specs.Faults.{BothTell, Rose, raised}
use Rattle.outside.specs.Port.{PortTold}
use Rattle.outside.specs.Gate.{GateTold}
use Rattle.outside.specs.Notes.{NotesTold}
use Rattle.outside.specs.Streams.{StreamsTold}
use Rattle.published_map.specs.Version.{Version}
use Rattle.map_cell.specs.Histories.{IsHistory}
use Rattle.map_cell.specs.Rows.{AreFirst}
use Rattle.past_log.specs.Notes.{no_notes}
use Rattle.lane_model.specs.declared.ended.Ended.{Ended}
use Rattle.lane_model.specs.declared.ended.Ended.TheVariants.{Above, CellFault}
use Rattle.lane_model.specs.Lanes.{Answers, IsLaneRun}
use Rattle.lane_model.specs.Replies.{replies}
use Rattle.lane_model.specs.Turns.{Turn, IsFated, IsTold, entries_of, failures, floor_after, looks_of, notes_turn, port_turn, refused_of, tries_of}
use Rattle.lane_model.specs.Calls.{IsEnd, IsGateRun}
use Rattle.drive.specs.Closing.{shut}

-- what a lane tells at one moment: its port, which is one for datagrams or streams, and its gate, where they tell, both counts of faults, its door's numbers, which are the places and the looks that it was asked for, the greatest serial, and its faults, and its worker's notes, which the program keeps, anew in each run: those that it was given, each behind so many None answers
pub record ServerTold (T : Type 0) : Type 0 where
  pub port : Option T
  pub port_faults : ℕ
  pub gate : Option GateTold
  pub gate_faults : ℕ
  pub asked : ℕ
  pub looks : ℕ
  pub greatest : ℕ
  pub door_faults : ℕ
  pub notes : NotesTold

-- a lane for datagrams
abbrev pub LaneTold : Type 0
LaneTold = ServerTold PortTold

-- a lane for conversations
abbrev pub StreamLaneTold : Type 0
StreamLaneTold = ServerTold StreamsTold

-- the serial below which nothing may be that a worker knows behind some turns
abbrev pub floor_behind : ℕ → List Turn → ℕ
floor_behind floor [] = floor
floor_behind floor (t ∷ log) = floor_behind (floor_after t.known t.came) log

-- A lane stands over the mapper's history, in which all that it knew has its place, as each lane does where `glb` answers status 0;
pub record IsOverNewest {T : Type 0} (h over : List Version) (log : List Turn) (served ended : Ended) (before after : ServerTold T) : Type 0 where
  pub same : over ≡ h
  pub known : All (λ t. t.known < length h) log
  pub noted : length after.notes.given ≤ length h
  pub shown : after.greatest + 1 ≤ max (before.greatest + 1) (length h)
  pub stays : sum_by (λ t. refused_of t.came) log ≡ 0 → after.door_faults ≡ before.door_faults
  pub ended_is : ended ≡ served

-- or, where its closing look was refused (its end is a fault of the cell or of the port, of which `glb` answers 9 or 5, or that its turns are spent, of which it answers 6, or a status that comes before these), over what it had seen, which is a history from the same first version on, of which and the mapper's history one begins the other, and then, if a look at a datagram was refused too, its door counted both;
pub record IsOverSeen {T : Type 0} (first : Version) (h over : List Version) (served ended : Ended) (before after : ServerTold T) : Type 0 where
  pub first_is : IsPrefix (first ∷ []) over
  pub beside : IsPrefix over h ⊎ IsPrefix h over
  pub history : IsHistory over
  pub rose : Rose before.door_faults after.door_faults
  pub twice : served ≡ CellFault → raised before.door_faults 2 ≤ after.door_faults
  pub ended_is : ended ≡ shut served

-- or, where that look was past the newest map (status 9, or one that comes before it), over a history that goes on from the mapper's, up to the serial that its door showed, if its door had shown none above that before. The end tells the last serial of either history.
pub record IsOverPast {T : Type 0} (h over : List Version) (log : List Turn) (ended : Ended) (before after : ServerTold T) : Type 0 where
  pub begins : IsPrefix h over
  pub longer : length h < length over
  pub history : IsHistory over
  pub shown : (after.greatest + 1 ≡ length over) ⊎ (length over ≤ before.greatest)
  pub stays : sum_by (λ t. refused_of t.came) log ≡ 0 → after.door_faults ≡ before.door_faults
  pub last : ℕ
  pub newest : ℕ
  pub last_is : last + 1 ≡ length over
  pub newest_is : newest + 1 ≡ length h
  pub ended_is : ended ≡ Above last newest

-- The turns of lane w of a drive, whose worker knew the first version alone: that they are a lane run; what was told; that the notes that its worker was given are those of the first versions, in their order, each once; that `shown` is no less than what was known by then, which is what its gate was shown last where the gate stopped it (`IsGateRun`); that its door was asked for no place, and for one look for each datagram that isn't silent, and one more; that its port's count rose by at least as many as its calls failed, and stands where none did; that a datagram was passed over just where it has no reply, and one whose look was refused has one, which it missed; that behind the closing look its door's greatest serial is no less than the newest of the history; and over which history it stands.
pub record IsServedLog {T : Type 0} (a : Answers Version) (first : Version) (rest : List Version) (w : ℕ) (log : List Turn) (served ended : Ended) (shown : ℕ) (before after : ServerTold T) : Type 0 where
  pub over : List Version
  pub run : IsLaneRun a over w 0 0 (entries_of a.way log) (tries_of log)
  pub told : IsTold 0 log
  pub numbers : AreFirst after.notes
  pub noted : length after.notes.given ≤ after.greatest + 1
  pub within : All (λ t. floor_after t.known t.came ≤ after.greatest) log
  pub last : (floor_behind 0 log ≤ shown) × (shown ≤ after.greatest)
  pub asked : after.asked ≡ before.asked
  pub looks : after.looks ≡ raised before.looks (sum_by (λ t. looks_of t.came) log + 1)
  pub port_faults : raised before.port_faults (failures log) ≤ after.port_faults
  pub port_stays : failures log ≡ 0 → after.port_faults ≡ before.port_faults
  pub refusal : 0 < sum_by (λ t. refused_of t.came) log → Rose before.door_faults after.door_faults
  -- why no reply to a datagram was tried: it has none, or its look was refused
  pub fates : All (λ t. IsFated a t.came) log
  pub learned : length (first ∷ rest) ≤ after.greatest + 1
  pub rising : (before.greatest ≤ after.greatest) × (before.door_faults ≤ after.door_faults)
  -- the first of these at status 0; the others say so themselves
  pub which : IsOverNewest (first ∷ rest) over log served ended before after ⊎ IsOverSeen first (first ∷ rest) over served ended before after ⊎ IsOverPast (first ∷ rest) over log ended before after

-- Lane w after a drive: the turns that it made; what port, gate and notes tell of them, the notes from the first None on; and why it ended.
pub record IsDone (turns : ℕ) (first : Version) (rest : List Version) (w : ℕ) (before after : LaneTold) (ended : Ended) : Type 0 where
  pub log : List Turn
  -- why its turns ended, ahead of the closing look
  pub served : Ended
  pub shown : ℕ
  pub served_log : IsServedLog replies first rest w log served ended shown before after
  pub port : BothTell before.port after.port (λ b c. c ≡ fold port_turn b log)
  pub gate : BothTell before.gate after.gate (IsGateRun shown log served)
  pub notes : after.notes ≡ fold notes_turn no_notes log
  pub ending : IsEnd turns log served
