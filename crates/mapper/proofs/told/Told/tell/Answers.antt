use Rattle.std.proofs.Common.{arith}
use Rattle.mapper.proofs.told.Told.tell.Goals as goal

pub returns-clause-told : goal.returns-clause-told
returns-clause-told g c = λ earlier len all serial lt few. all serial (omega (arith, len, lt, few, c.serial-serial.ensures, c.if-serial.false)) few
