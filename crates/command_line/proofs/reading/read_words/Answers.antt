use Rattle.std.proofs.Common.{rules}
use Rattle.command_line.proofs.Taken.{refused, taken}
use Rattle.command_line.proofs.reading.read_words.Goals as goal

pub returns-in-Ok : goal.returns-in-Ok
returns-in-Ok c = taken _ _ _ _ c.in_ok-declared.ensures.app c.in-Ok.ensures.kinds (λ simple. (c.in-Ok.ensures.matches simple).1) c.command_of.ensures

pub returns : goal.returns
returns c = refused _ _ c.in-Err.error c.in_ok-declared.ensures.app c.in-Err.ensures.kinds (search rules)
