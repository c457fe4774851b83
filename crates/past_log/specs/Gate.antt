-- What a gate tells after a turn.
use Rattle.std.specs.Prelude.{ℕ, true, false, [], ◌∷◌, ◌++◌}
use Rattle.outside.specs.Gate.{GateTold, going}
use Rattle.outside.specs.declared.gate.Turning.{Turning}
use Rattle.outside.specs.declared.gate.Turning.TheVariants.{Go, Stop}
use Rattle.past_log.specs.declared.gate.GateEvent.{GateEvent}

-- a gate that was asked nothing
abbrev pub new_gate : GateTold
new_gate = record { turns = []; is_stopped = false }

-- a gate after a turn at which it was shown that serial
abbrev pub after_turn : ℕ → Turning → GateTold → GateTold
after_turn known Go gate = going known gate
after_turn known Stop gate = record { turns = gate.turns ++ (record { known = known; go = false }) ∷ []; is_stopped = true }

abbrev pub noted : GateEvent → GateTold → GateTold
noted event gate = after_turn event.known.now event.turning gate
