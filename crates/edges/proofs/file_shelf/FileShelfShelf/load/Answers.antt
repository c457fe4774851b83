use Rattle.std.proofs.Common.{rules, ◌≡◌, ◌∷◌, ◌++◌, []}
use Rattle.past_log.specs.Shelf.{octets_of}
use Rattle.edges.proofs.Loaded.{loaded}
use Rattle.edges.proofs.file_shelf.FileShelfShelf.load.Goals as goal

pub returns-clause-load : goal.returns-clause-load
returns-clause-load g c =
    let octets = octets_of c.read_noted-read.result in
    let noted : c.read_noted-read.new.past.told ≡ c.args.self.now.loads ++ record { name = c.args.name.now; limit = c.args.limit; octets = octets } ∷ [] = search rules in
    loaded c.args.name.now c.args.limit octets c.answer_of-loaded.result c.args.self.now.loads c.read_noted-read.new.past.told c.answer_of-loaded.ensures noted

pub returns-2-clause-load : goal.returns-2-clause-load
returns-2-clause-load g c =
    let octets = octets_of c.read_noted-read.result in
    let noted : c.read_noted-read.new.past.told ≡ c.args.self.now.loads ++ record { name = c.args.name.now; limit = c.args.limit; octets = octets } ∷ [] = search rules in
    loaded c.args.name.now c.args.limit octets c.answer_of-loaded.result c.args.self.now.loads c.read_noted-read.new.past.told c.answer_of-loaded.ensures noted
