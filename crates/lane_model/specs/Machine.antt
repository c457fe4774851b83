-- The machine of commits, tells and takes.
use Rattle.std.specs.Prelude.{◌≡◌, ◌⊎◌, ℕ, ◌+◌, ◌<◌, ◌≤◌, true, false, All, List, [], ◌∷◌, ◌++◌, length, max, if◌then◌else◌}
use Rattle.outside.specs.Port.{Packet, Try}
use Rattle.answer_core.specs.declared.way.Way.{Way}
use Rattle.lane_model.specs.Lanes.{Answers, Entry, IsLaneRun, IsTryOf, following}

-- one atomic step of one actor: a version is published; a lane learns of a serial; a lane takes a datagram and answers it from one version, by a way
pub data Event (V : Type 0) : Type 0 where
  commit : V → Event V
  tell : ℕ → ℕ → Event V
  take : ℕ → Packet → ℕ → Way → Event V

-- a lane: the greatest serial that it used or was told of, the number of its next datagram, what it took and tried
pub record LaneState : Type 0 where
  pub seen : ℕ
  pub count : ℕ
  pub taken : List Entry
  pub tries : List Try

-- a lane that took nothing
abbrev pub fresh : LaneState
fresh = record { seen = 0; count = 0; taken = []; tries = [] }

-- the published versions in order, and the lanes
pub record Machine (V : Type 0) : Type 0 where
  pub history : List V
  pub lanes : List LaneState

-- one lane becomes another, and the others stay
pub record IsMoved (at : ℕ) (l l' : LaneState) (lanes lanes' : List LaneState) : Type 0 where
  pub before : List LaneState
  pub behind : List LaneState
  pub number : length before ≡ at
  pub old : lanes ≡ before ++ l ∷ behind
  pub new : lanes' ≡ before ++ l' ∷ behind

-- a lane learns of a serial
abbrev pub heard : ℕ → LaneState → LaneState
heard n l = record l { seen = max l.seen n }

-- a lane took a datagram that has no reply
abbrev pub passed : Packet → ℕ → Way → LaneState → LaneState
passed d s way l = record { seen = s; count = following l.count; taken = l.taken ++ (record { packet = d; known = l.seen; way = way }) ∷ []; tries = l.tries }

-- a lane took a datagram, and tried a reply
abbrev pub replied : Packet → Try → Way → LaneState → LaneState
replied d t way l = record { seen = t.serial; count = following l.count; taken = l.taken ++ (record { packet = d; known = l.seen; way = way }) ∷ []; tries = l.tries ++ t ∷ [] }

-- A lane takes a datagram from the version of that serial, which is no older than what it knows: the try, where the datagram has a reply, is that version's.
abbrev pub Takes : {V : Type 0} → Answers V → List V → ℕ → Packet → ℕ → Way → LaneState → LaneState → Type 0
Takes a h w d s way l l' = (l.seen ≤ s) × (s < length h)
    × (((a.silent d.octets ≡ true) × (l' ≡ passed d s way l)) ⊎ ((a.silent d.octets ≡ false) × ((t : Try) × (t.serial ≡ s) × IsTryOf a h w l.count (record { packet = d; known = l.seen; way = way }) t × (l' ≡ replied d t way l))))

-- One step of the machine. `Follows` says which versions may come next.
abbrev pub IsStep : {V : Type 0} → Answers V → (List V → V → Type 0) → Event V → Machine V → Machine V → Type 0
IsStep a Follows (commit v) m m' = Follows m.history v × (m' ≡ record m { history = m.history ++ v ∷ [] })
IsStep a Follows (tell lane n) m m' = (n < length m.history) × (m'.history ≡ m.history) × ((l : LaneState) × IsMoved lane l (heard n l) m.lanes m'.lanes)
IsStep a Follows (take lane d s way) m m' = (m'.history ≡ m.history) × ((l : LaneState) × (l' : LaneState) × Takes a m.history lane d s way l l' × IsMoved lane l l' m.lanes m'.lanes)

-- some steps
abbrev pub IsTaken : {V : Type 0} → Answers V → (List V → V → Type 0) → List (Event V) → Machine V → Machine V → Type 0
IsTaken a Follows [] m m' = m' ≡ m
IsTaken {V = V} a Follows (e ∷ events) m m' = (mid : Machine V) × IsStep a Follows e m mid × IsTaken a Follows events mid m'

-- a history from a first version on: each version may follow on those before it
abbrev pub GoesOn : {V : Type 0} → (List V → V → Type 0) → List V → List V → Type 0
GoesOn Follows before [] = Unit {0}
GoesOn Follows before (v ∷ rest) = Follows before v × GoesOn Follows (before ++ v ∷ []) rest

abbrev pub commits_of : {V : Type 0} → List V → List (Event V)
commits_of [] = []
commits_of (v ∷ rest) = commit v ∷ commits_of rest

-- the serial of the reply of a datagram: that of the next try, or what is known where it has none
abbrev pub serial_of : {V : Type 0} → Answers V → Entry → List Try → ℕ
serial_of a e [] = e.known
serial_of a e (s ∷ tries) = if a.silent e.packet.octets then e.known else s.serial

-- the tries that are left behind a datagram
abbrev pub tries_behind : {V : Type 0} → Answers V → Entry → List Try → List Try
tries_behind a e [] = []
tries_behind a e (s ∷ tries) = if a.silent e.packet.octets then s ∷ tries else tries

-- each take of a lane in order, with a tell of its known before it
abbrev pub events_of_lane : {V : Type 0} → Answers V → ℕ → List Entry → List Try → List (Event V)
events_of_lane a lane [] tries = []
events_of_lane a lane (e ∷ taken) tries = tell lane e.known ∷ take lane e.packet (serial_of a e tries) e.way ∷ events_of_lane a lane taken (tries_behind a e tries)

-- what a lane took and tried
pub record LaneLog : Type 0 where
  pub taken : List Entry
  pub tries : List Try

-- lane by lane
abbrev pub events_of_lanes : {V : Type 0} → Answers V → ℕ → List LaneLog → List (Event V)
events_of_lanes a lane [] = []
events_of_lanes a lane (l ∷ logs) = events_of_lane a lane l.taken l.tries ++ events_of_lanes a (lane + 1) logs

-- each of these is a lane run over one history, which has what is known
abbrev pub AreRuns : {V : Type 0} → Answers V → List V → ℕ → List LaneLog → Type 0
AreRuns a h lane [] = Unit {0}
AreRuns a h lane (l ∷ logs) = IsLaneRun a h lane 0 0 l.taken l.tries × All (λ e. e.known < length h) l.taken × AreRuns a h (lane + 1) logs

-- the lanes of a state took and tried that
abbrev pub HaveDone : List LaneLog → List LaneState → Type 0
HaveDone [] [] = Unit {0}
HaveDone (l ∷ logs) (s ∷ lanes) = (s.taken ≡ l.taken) × (s.tries ≡ l.tries) × HaveDone logs lanes
HaveDone [] (s ∷ lanes) = ⊥
HaveDone (l ∷ logs) [] = ⊥

-- as many lanes that took nothing
abbrev pub fresh_lanes : List LaneLog → List LaneState
fresh_lanes [] = []
fresh_lanes (l ∷ logs) = fresh ∷ fresh_lanes logs
