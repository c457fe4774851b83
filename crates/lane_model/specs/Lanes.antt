-- Lane runs.
use Rattle.std.specs.Prelude.{◌≡◌, ℕ, ◌+◌, ◌*◌, ◌^◌, ◌%◌, ◌≤◌, Bool, true, List, [], ◌∷◌, MatchBool, Option, Some, slice_get}
use Rattle.addr_text.specs.declared.address.Addr.{Addr}
use Rattle.outside.specs.Port.{Packet, Try}
use Rattle.answer_core.specs.declared.way.Way.{Way}

-- the replies of versions of one type: a version's reply to octets from an address with a draw, by a way, and whether octets have none; and the way of the lanes that are spoken of
pub record Answers (V : Type 0) : Type 0 where
  pub reply : V → Addr → List ℕ → ℕ → Way → Option (List ℕ)
  pub silent : List ℕ → Bool
  pub way : Way

-- the draw of worker w for its datagram n
abbrev pub draw : ℕ → ℕ → ℕ
draw w n = ((n + 1) * 11400714819323198485 + w * 2 ^ 60) % 2 ^ 64

-- The number after n. Numbers begin anew at 2^64, which no draw tells from going on.
abbrev pub following : ℕ → ℕ
following n = (n + 1) % 2 ^ 64

-- a datagram that a lane took, but for one whose look was refused; what its worker knew then, and by which way it is replied to
pub record Entry : Type 0 where
  pub packet : Packet
  pub known : ℕ
  pub way : Way

-- the reply that was tried is that of one version of the history, whose place there the serial tells, no older than what was known; of time nothing is said
pub record IsTryOf {V : Type 0} (a : Answers V) (h : List V) (w n : ℕ) (e : Entry) (s : Try) : Type 0 where
  pub to : s.to ≡ e.packet.from
  pub fresh : e.known ≤ s.serial
  pub version : (v : V) × (slice_get h s.serial ≡ Some v) × (a.reply v e.packet.from.addr e.packet.octets (draw w n) e.way ≡ Some s.octets)

-- A lane run of worker w over a history, from its datagram n on, where it knows `floor` before: in order, one try for each datagram that isn't silent. What is known never falls, nor below a serial that was used.
abbrev pub IsLaneRun : {V : Type 0} → Answers V → List V → ℕ → ℕ → ℕ → List Entry → List Try → Type 0
IsLaneRun a h w n floor [] [] = Unit {0}
IsLaneRun a h w n floor [] (s ∷ tries) = ⊥
IsLaneRun a h w n floor (e ∷ taken) [] = (floor ≤ e.known) × (a.silent e.packet.octets ≡ true) × IsLaneRun a h w (following n) e.known taken []
IsLaneRun a h w n floor (e ∷ taken) (s ∷ tries) = (floor ≤ e.known)
    × MatchBool (a.silent e.packet.octets) (IsLaneRun a h w (following n) e.known taken (s ∷ tries)) (IsTryOf a h w n e s × IsLaneRun a h w (following n) s.serial taken tries)
