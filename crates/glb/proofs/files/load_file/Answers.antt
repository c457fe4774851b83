use Rattle.std.proofs.Common.{rules}
use Rattle.glb.specs.Texts as text
use Rattle.glb.proofs.Reading.{long_refused}
use Rattle.glb.proofs.files.load_file.Goals as goal

pub returns-in-Err-TooLong-clause-bytes : goal.returns-in-Err-TooLong-clause-bytes
returns-in-Err-TooLong-clause-bytes g c =
    long_refused (g.F.Shelf.told c.args.files.now).past (g.F.Shelf.told c.load.new.self).past c.args.name.now c.args.limit (text.line c.args.too_long.now) c.line.result c.refuse.result (rw c.in-Err-TooLong.field-0-is at c.in-Err-TooLong.ensures.load) c.line.ensures c.refuse.ensures.said
