use Rattle.std.proofs.Common.{◌≡◌, true, sym, ◌∙◌}
use Rattle.reopen.specs.Rolling.{is_marked}
use Rattle.move_up.proofs.Moving.{moved_released}
use Rattle.move_up.proofs.moves.release_marked.Goals as goal

pub returns-then-is_marked : goal.returns-then-is_marked
returns-then-is_marked c =
    let m = c.args.instance.now in
    let o = c.args.offer in
    let on : is_marked m c.args.marks.now o.group.0 o.place ≡ true = sym c.is_marked.ensures ∙ c.if-is_marked.true in
    moved_released m c.args.marks.now c.args.state.now c.release.new.self o.group.0 o.place c.min.result c.requires.is_open c.release.ensures c.requires.offer on
