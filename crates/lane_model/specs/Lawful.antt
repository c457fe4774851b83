-- What the machine keeps.
use Rattle.std.specs.Prelude.{◌≡◌, ℕ, ◌+◌, ◌<◌, ◌≤◌, true, List, [], ◌∷◌, length, MatchBool}
use Rattle.outside.specs.Port.{Try}
use Rattle.lane_model.specs.Lanes.{Answers, Entry, IsTryOf, following}
use Rattle.lane_model.specs.Machine.{GoesOn, LaneState, Machine}

-- a lane run from one number and floor up to others
abbrev pub IsRunTo : {V : Type 0} → Answers V → List V → ℕ → ℕ → ℕ → List Entry → List Try → ℕ → ℕ → Type 0
IsRunTo a h w n floor [] [] n' floor' = (n' ≡ n) × (floor ≤ floor')
IsRunTo a h w n floor [] (s ∷ tries) n' floor' = ⊥
IsRunTo a h w n floor (e ∷ taken) [] n' floor' = (floor ≤ e.known) × (a.silent e.packet.octets ≡ true) × IsRunTo a h w (following n) e.known taken [] n' floor'
IsRunTo a h w n floor (e ∷ taken) (s ∷ tries) n' floor' = (floor ≤ e.known)
    × MatchBool (a.silent e.packet.octets) (IsRunTo a h w (following n) e.known taken (s ∷ tries) n' floor') (IsTryOf a h w n e s × IsRunTo a h w (following n) s.serial taken tries n' floor')

-- each lane is a lane run over the history from its first datagram on, up to its number and to what it knows
abbrev pub AreKeptLanes : {V : Type 0} → Answers V → List V → ℕ → List LaneState → Type 0
AreKeptLanes a h at [] = Unit {0}
AreKeptLanes a h at (l ∷ lanes) = IsRunTo a h at 0 0 l.taken l.tries l.count l.seen × (l.seen < length h) × AreKeptLanes a h (at + 1) lanes

-- the history goes on from its first version, and the lanes are lane runs over it
pub record IsLawful {V : Type 0} (a : Answers V) (F : List V → V → Type 0) (first : V) (m : Machine V) : Type 0 where
  pub rest : List V
  pub history : m.history ≡ first ∷ rest
  pub goes_on : GoesOn F (first ∷ []) rest
  pub lanes : AreKeptLanes a m.history 0 m.lanes
