-- What a gate tells, and what one turn does.
use Rattle.std.specs.Prelude.{◌≡◌, ℕ, Bool, true, false, List, [], ◌∷◌, ◌++◌, take}
use Rattle.outside.specs.declared.gate.Turning.{Turning}
use Rattle.outside.specs.declared.gate.Turning.TheVariants.{Go, Stop}

-- a turn of a gate: the serial that it was shown, and whether it answered Go
pub record Shown : Type 0 where
  pub known : ℕ
  pub go : Bool

-- what a gate tells: its turns in order, and whether it answered Stop
pub record GateTold : Type 0 where
  pub turns : List Shown
  pub is_stopped : Bool

-- a gate after a Go
abbrev pub going : ℕ → GateTold → GateTold
going known gate = record gate { turns = gate.turns ++ (record { known = known; go = true }) ∷ [] }

-- What one turn does to a gate. A Stop may not be noted, since it also comes where the room is used up.
abbrev pub IsTurning : ℕ → Turning → GateTold → GateTold → Type 0
IsTurning known Go before after = after ≡ going known before
IsTurning known Stop before after = (k : ℕ) × (after ≡ record { turns = before.turns ++ take k ((record { known = known; go = false }) ∷ []); is_stopped = true })
