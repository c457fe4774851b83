use Rattle.std.proofs.Common.{[]}
use Rattle.drive.proofs.Told.{first_told}
use Rattle.drive.proofs.loan.tell_first.Goals as goal

pub returns : goal.returns
returns g c = λ one. first_told c.note.result.front c.args.mapper.now.history c.of_none-told.result c.tell.new.self c.note.ensures one (c.tell.ensures.told [])
