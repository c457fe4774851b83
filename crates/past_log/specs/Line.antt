-- What the socket of a connection tells after a call.
use Rattle.std.specs.IoError.{error_kind}
use Rattle.std.specs.declared.io.Error.{Error}
use Rattle.std.specs.declared.io.ErrorKind.{ErrorKind}
use Rattle.std.specs.declared.io.ErrorKind.TheVariants as kind
use Rattle.std.specs.Prelude.{ℕ, ◌+◌, ◌==◌, ◌||◌, Bool, true, false, Result, Ok, Err}
use Rattle.past_log.specs.declared.line.LineEvent.{LineEvent}
use Rattle.past_log.specs.declared.line.LineEvent.TheVariants.{Read, Written}

-- What a socket tells: how many reads and writes it had, whether one of them failed, and whether a read came to the end of what its peer sends.
pub record LineTold : Type 0 where
  pub reads : ℕ
  pub writes : ℕ
  pub has_failed : Bool
  pub has_ended : Bool

-- a socket that was asked nothing
abbrev pub new_line : LineTold
new_line = record { reads = 0; writes = 0; has_failed = false; has_ended = false }

-- A call failed by an error of that kind. One that would have to wait, or that a signal broke off, did not.
abbrev pub is_failure : ErrorKind → Bool
is_failure kind.WouldBlock = false
is_failure kind.Interrupted = false
is_failure _ = true

-- a socket after a read
abbrev pub after_read : Result ℕ Error → LineTold → LineTold
after_read (Ok count) line = record line { reads = line.reads + 1; has_ended = line.has_ended || (count == 0) }
after_read (Err error) line = record line { reads = line.reads + 1; has_failed = line.has_failed || is_failure (error_kind error) }

-- a socket after a write
abbrev pub after_write : Result ℕ Error → LineTold → LineTold
after_write (Ok count) line = record line { writes = line.writes + 1 }
after_write (Err error) line = record line { writes = line.writes + 1; has_failed = line.has_failed || is_failure (error_kind error) }

-- a socket after a call
abbrev pub noted : LineEvent → LineTold → LineTold
noted (Read answer) line = after_read answer.now line
noted (Written answer) line = after_write answer.now line
