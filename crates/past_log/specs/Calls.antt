-- How many calls there were.
use Rattle.std.specs.Prelude.{ℕ, ◌+◌}
use Rattle.past_log.specs.declared.calls.CallEvent.{CallEvent}

-- none yet
abbrev pub no_calls : ℕ
no_calls = 0

-- one more
abbrev pub noted : CallEvent → ℕ → ℕ
noted event calls = calls + 1
