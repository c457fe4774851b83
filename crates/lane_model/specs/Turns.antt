-- The turns of a lane.
use Rattle.std.specs.Prelude.{◌≡◌, ℕ, ◌≤◌, Bool, true, false, List, [], ◌∷◌, ◌++◌, All, drop, map, sum_by, Some, option_map, if◌then◌else◌, slice_get}
use Rattle.std.specs.List.{flat_map}
use Rattle.outside.specs.Faults.{raised}
use Rattle.outside.specs.Port.{Packet, Try, PortTold, answered, taking, trying}
use Rattle.outside.specs.Gate.{GateTold, going}
use Rattle.outside.specs.Notes.{NotesTold}
use Rattle.answer_core.specs.declared.way.Way.{Way}
use Rattle.lane_model.specs.Lanes.{Answers, Entry, draw, following}

-- what became of a datagram: it had no reply; the look for it was refused; or the reply of a version was tried, and went or not
pub data Fate : Type 0 where
  silent : Fate
  refused : Fate
  tried : ℕ → List ℕ → Bool → Fate

-- what recv answered
pub data Came : Type 0 where
  idle : Came
  oversize : Came
  ended : Came
  failed : Came
  took : Packet → Fate → Came

-- One turn: what the gate was shown when it answered Go; the serials of the notes that were given before the None; what recv was handed, and what came.
pub record Turn : Type 0 where
  pub shown : ℕ
  pub notes : List ℕ
  pub known : ℕ
  pub came : Came

-- the try of a datagram
abbrev pub tries_of_fate : Packet → Fate → List Try
tries_of_fate d silent = []
tries_of_fate d refused = []
tries_of_fate d (tried serial octets went) = (record { octets = octets; to = d.from; serial = serial; went = went }) ∷ []

abbrev pub tries_of_came : Came → List Try
tries_of_came idle = []
tries_of_came oversize = []
tries_of_came ended = []
tries_of_came failed = []
tries_of_came (took d fate) = tries_of_fate d fate

-- the tries of some turns
abbrev pub tries_of : List Turn → List Try
tries_of log = flat_map (λ t. tries_of_came t.came) log

-- the datagrams that count, of a lane of that way: but for one whose look was refused
abbrev pub entries_of_fate : Way → Packet → ℕ → Fate → List Entry
entries_of_fate way d known silent = (record { packet = d; known = known; way = way }) ∷ []
entries_of_fate way d known refused = []
entries_of_fate way d known (tried serial octets went) = (record { packet = d; known = known; way = way }) ∷ []

abbrev pub entries_of_came : Way → ℕ → Came → List Entry
entries_of_came way known idle = []
entries_of_came way known oversize = []
entries_of_came way known ended = []
entries_of_came way known failed = []
entries_of_came way known (took d fate) = entries_of_fate way d known fate

abbrev pub entries_of : Way → List Turn → List Entry
entries_of way log = flat_map (λ t. entries_of_came way t.known t.came) log

-- Told: what a worker knows never falls below what it knew before, what its gate was shown, a note that it was given, or a serial that it used; and no serial that it used is below what it knew.
abbrev pub floor_after : ℕ → Came → ℕ
floor_after known idle = known
floor_after known oversize = known
floor_after known ended = known
floor_after known failed = known
floor_after known (took d silent) = known
floor_after known (took d refused) = known
floor_after known (took d (tried serial octets went)) = serial

abbrev pub IsTold : ℕ → List Turn → Type 0
IsTold floor [] = Unit {0}
IsTold floor (t ∷ log) = (floor ≤ t.shown) × (t.shown ≤ t.known) × All (λ s. s ≤ t.known) t.notes × (t.known ≤ floor_after t.known t.came) × IsTold (floor_after t.known t.came) log

-- a port after what came
abbrev pub port_after : ℕ → Came → PortTold → PortTold
port_after known idle p = answered known p
port_after known oversize p = record (answered known p) { waiting = option_map (drop 1) p.waiting }
port_after known ended p = record (answered known p) { is_ended = true }
port_after known failed p = record (answered known p) { failed = raised p.failed 1 }
port_after known (took d silent) p = taking d known p
port_after known (took d refused) p = taking d known p
port_after known (took d (tried serial octets went)) p = trying (record { octets = octets; to = d.from; serial = serial; went = went }) (taking d known p)

-- notes after those with these serials were given, and then a None
abbrev pub giving : List ℕ → NotesTold → NotesTold
giving serials n = record { given = n.given ++ map (λ s. record { number = s; place = n.nones }) serials; nones = raised n.nones 1 }

-- a port after a turn
abbrev pub port_turn : PortTold → Turn → PortTold
port_turn p t = port_after t.known t.came p

-- a gate after a turn
abbrev pub gate_turn : GateTold → Turn → GateTold
gate_turn g t = going t.shown g

-- notes after a turn
abbrev pub notes_turn : NotesTold → Turn → NotesTold
notes_turn n t = giving t.notes n

-- what became of a datagram, by the history that its worker has seen
abbrev pub IsFate : {V : Type 0} → Answers V → List V → ℕ → ℕ → ℕ → Packet → Fate → Type 0
IsFate a h w n known d silent = a.silent d.octets ≡ true
IsFate a h w n known d refused = a.silent d.octets ≡ false
IsFate {V = V} a h w n known d (tried serial octets went) = (a.silent d.octets ≡ false) × (known ≤ serial) × ((v : V) × (slice_get h serial ≡ Some v) × (a.reply v d.from.addr d.octets (draw w n) a.way ≡ Some octets))

abbrev pub IsCame : {V : Type 0} → Answers V → List V → ℕ → ℕ → ℕ → Came → Type 0
IsCame a h w n known idle = Unit {0}
IsCame a h w n known oversize = Unit {0}
IsCame a h w n known ended = Unit {0}
IsCame a h w n known failed = Unit {0}
IsCame a h w n known (took d fate) = IsFate a h w n known d fate

-- what is noted of a datagram fits its octets: one that was passed over has no reply, and any other has one
abbrev pub IsFated : {V : Type 0} → Answers V → Came → Type 0
IsFated a idle = Unit {0}
IsFated a oversize = Unit {0}
IsFated a ended = Unit {0}
IsFated a failed = Unit {0}
IsFated a (took d silent) = a.silent d.octets ≡ true
IsFated a (took d refused) = a.silent d.octets ≡ false
IsFated a (took d (tried serial octets went)) = a.silent d.octets ≡ false

-- how many datagrams were answered or silent or refused: each counts
abbrev pub count_after : ℕ → Came → ℕ
count_after n idle = n
count_after n oversize = n
count_after n ended = n
count_after n failed = n
count_after n (took d fate) = following n

-- whether a look was made
abbrev pub looks_of : Came → ℕ
looks_of idle = 0
looks_of oversize = 0
looks_of ended = 0
looks_of failed = 0
looks_of (took d silent) = 0
looks_of (took d refused) = 1
looks_of (took d (tried serial octets went)) = 1

-- how many calls of the port failed: recv, or send
abbrev pub fails_of : Came → ℕ
fails_of idle = 0
fails_of oversize = 0
fails_of ended = 0
fails_of failed = 1
fails_of (took d silent) = 0
fails_of (took d refused) = 0
fails_of (took d (tried serial octets true)) = 0
fails_of (took d (tried serial octets false)) = 1

abbrev pub failures : List Turn → ℕ
failures log = sum_by (λ t. fails_of t.came) log

abbrev pub is_refused_fate : Fate → Bool
is_refused_fate silent = false
is_refused_fate refused = true
is_refused_fate (tried serial octets went) = false

-- the look for it was refused
abbrev pub is_refused : Came → Bool
is_refused idle = false
is_refused oversize = false
is_refused ended = false
is_refused failed = false
is_refused (took d fate) = is_refused_fate fate

-- how many looks were refused
abbrev pub refused_of : Came → ℕ
refused_of came = if is_refused came then 1 else 0

-- the lane goes on after it
abbrev pub is_calm : Came → Bool
is_calm idle = true
is_calm oversize = true
is_calm ended = false
is_calm failed = true
is_calm (took d silent) = true
is_calm (took d refused) = false
is_calm (took d (tried serial octets went)) = true

abbrev pub AreCalm : List Turn → Type 0
AreCalm log = All (λ t. is_calm t.came ≡ true) log
