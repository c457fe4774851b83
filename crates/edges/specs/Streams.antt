-- Streams of the system, as their sources and sinks hold them.
use Rattle.std.specs.Prelude.{ℕ, Bool, false, List, Option, None, option_and_then}
use Rattle.outside.specs.Sink.{Written}
use Rattle.outside.specs.Source.{Fed}
use Rattle.past_log.specs.Source.{new_source}

-- a stream that is written, how many puts failed, and what it took
pub record Writing (W : Type 0) : Type 0 where
  pub stream : W
  pub faults : ℕ
  pub written : Written

-- what a stream that is read keeps of its calls: whether it has ended, how many failed, and what it was asked and answered
pub record Hearing : Type 0 where
  pub is_ended : Bool
  pub faults : ℕ
  pub fed : Fed

-- of none so far
abbrev pub unheard : Hearing
unheard = record { is_ended = false; faults = 0; fed = new_source }

-- a stream that is read, whether it has ended, how many reads failed, and what it was asked and answered
pub record Reading (T : Type 0) : Type 0 where
  pub stream : T
  pub is_ended : Bool
  pub faults : ℕ
  pub fed : Fed

-- A stream that is opened by its name, and none before; whether it has ended, how many calls failed, and what it was asked and answered, with the names under which it was to be opened.
pub record Named (T : Type 0) : Type 0 where
  pub stream : Option T
  pub is_ended : Bool
  pub faults : ℕ
  pub fed : Fed

-- one that was asked nothing
abbrev pub unopened : {T : Type 0} → Named T
unopened = record { stream = None; is_ended = false; faults = 0; fed = new_source }

-- the octets that are left of a stream, where it is open and tells them
abbrev pub left_of : {T : Type 0} → (T → Option (List ℕ)) → Option T → Option (List ℕ)
left_of remaining stream = option_and_then remaining stream
