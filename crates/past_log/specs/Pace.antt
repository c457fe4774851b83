-- What a pace tells after a call.
use Rattle.std.specs.Prelude.{List, [], ◌∷◌, ◌++◌}
use Rattle.outside.specs.declared.pace.PaceCall.{PaceCall}
use Rattle.past_log.specs.declared.pace.PaceEvent.{PaceEvent}

-- a pace that was not called
abbrev pub new_pace : List PaceCall
new_pace = []

-- a pace after a call
abbrev pub noted : PaceEvent → List PaceCall → List PaceCall
noted event calls = calls ++ event.call.now ∷ []
