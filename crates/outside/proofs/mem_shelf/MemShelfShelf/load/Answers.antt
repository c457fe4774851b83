use Rattle.std.proofs.Common.{rules, ◌≡◌, ◌∷◌, ◌++◌, []}
use Rattle.outside.specs.MemShelf.{held, load_of, shelved}
use Rattle.outside.proofs.Shelves.{loaded}
use Rattle.outside.proofs.mem_shelf.MemShelfShelf.load.Goals as goal

pub returns-then-is_noted-clause-load : goal.returns-then-is_noted-clause-load
returns-then-is_noted-clause-load c =
    let files = c.args.self.now.files in
    let later = c.self-2.inside.files.items in
    let all : (shelved (Rattle.outside.specs.contracts.mem_shelf.MemShelf.the_view record { files = c.self-2.inside.files; asked = c.note.new.asked; room = c.self-2.inside.room; calls = c.self-2.inside.calls })).loads ≡ c.args.self.now.loads ++ load_of c.args.name.now c.args.limit (held files c.args.name.now) c.answer-loaded.result ∷ [] = search rules in
    let same : later ≡ files = search rules in
    loaded files later c.args.name.now c.args.limit c.answer-loaded.result c.args.self.now.loads _ c.answer-loaded.ensures.answer all same
