-- Inside this crate alone: lanes and their workers, by their numbers.
use Rattle.std.specs.Prelude.{◌≡◌, ℕ, ◌+◌, ◌≤◌, List, [], ◌∷◌, length, option_map, vec_len}
use Rattle.outside.specs.Limits.{most_notes}
use Rattle.past_log.specs.Notes.{no_notes}
use Rattle.published_map.specs.Version.{Version}
use Rattle.map_cell.specs.Rows.{AreFirst}
use Rattle.lane_model.specs.Calls.{IsLaneCall}
use Rattle.lane_model.specs.Replies.{replies}
use Rattle.tcp_lane.specs.Calls.{IsStreamCall}
use Rattle.tcp_lane.specs.Replies.{stream_replies}
use Rattle.drive.specs.Closing.{IsClosing}
use Rattle.drive.specs.Done.{IsDone, LaneTold, ServerTold, StreamLaneTold}
use Rattle.drive.specs.Streams.{AreStreamsDone}
use Rattle.drive.specs.Told.{eyes_at, moment_at, stream_moment_at}
use Rattle.drive.specs.declared.beside.Workers.{Workers}
use Rattle.drive.specs.declared.lane.LaneWorker.{LaneWorker}

-- a worker of that number, which knows this history, has answered nothing, and has so many turns
abbrev pub IsFresh : {J : Type 0} → List Version → ℕ → ℕ → LaneWorker J → Type 0
IsFresh h turns i w = (w.worker.number ≡ i) × (w.worker.count ≡ 0) × (w.worker.viewer.seen ≡ h) × (w.worker.viewer.heard ≡ h) × (w.turns ≡ turns)

-- each lane with its worker, from number i on
abbrev pub AllFresh : {A W : Type 0} → (ℕ → A → W → Type 0) → ℕ → List A → List W → Type 0
AllFresh F i [] [] = Unit {0}
AllFresh F i (a ∷ ls) (v ∷ vs) = F i a v × AllFresh F (i + 1) ls vs
AllFresh F i _ _ = ⊥

-- each lane before and after, with its worker after, from number i on
abbrev pub AllDone : {A W : Type 0} → (ℕ → A → A → W → Type 0) → ℕ → List A → List A → List W → Type 0
AllDone D i [] [] [] = Unit {0}
AllDone D i (a ∷ ls) (c ∷ cs) (x ∷ xs) = D i a c x × AllDone D (i + 1) ls cs xs
AllDone D i _ _ _ = ⊥

-- each is so, from number i on
abbrev pub AllHeld : {A : Type 0} → (ℕ → A → Type 0) → ℕ → List A → Type 0
AllHeld P i [] = Unit {0}
AllHeld P i (a ∷ ls) = P i a × AllHeld P (i + 1) ls

-- a lane was served by its worker, with notes of its own
abbrev pub IsServed : {J : Type 0} → LaneTold → LaneTold → LaneWorker J → LaneWorker J → Type 0
IsServed a b v w = AreFirst b.notes × IsLaneCall replies v.worker.number v.turns (moment_at a v.worker.viewer no_notes v.worker.count) (moment_at b w.worker.viewer b.notes w.worker.count) w.ended × (length b.notes.given ≤ most_notes) × (b.asked ≡ a.asked)

-- the same of the lane for conversations
abbrev pub IsStreamServed : {J : Type 0} → StreamLaneTold → StreamLaneTold → LaneWorker J → LaneWorker J → Type 0
IsStreamServed a b v w = AreFirst b.notes × IsStreamCall stream_replies v.worker.number v.turns (stream_moment_at a v.worker.viewer no_notes v.worker.count) (stream_moment_at b w.worker.viewer b.notes w.worker.count) w.ended × (length b.notes.given ≤ most_notes) × (b.asked ≡ a.asked)

-- a lane's closing look, with a note of this history
abbrev pub IsClosed : {J T : Type 0} → List Version → ServerTold T → ServerTold T → LaneWorker J → LaneWorker J → Type 0
IsClosed h a b v w = IsClosing h (eyes_at v.worker.viewer a) (eyes_at w.worker.viewer b) v.ended w.ended × (b.port ≡ a.port) × (b.port_faults ≡ a.port_faults) × (b.gate ≡ a.gate) × (b.asked ≡ a.asked) × (b.notes ≡ a.notes) × (b.gate_faults ≡ a.gate_faults)

-- all lanes that have a worker after a drive, and that for conversations, by the ends that their workers hold
abbrev pub AreServed : {W J : Type 0} → ℕ → Version → List Version → List LaneTold → List LaneTold → StreamLaneTold → StreamLaneTold → Workers W (LaneWorker J) → Type 0
AreServed turns first rest lanes lanes_after stream stream_after works =
    AllDone (λ w before after x. IsDone turns first rest w before after x.ended) 0 lanes lanes_after works.lanes.items
    × AreStreamsDone turns first rest (vec_len works.lanes) (option_map (λ x. x.ended) works.stream) stream stream_after
