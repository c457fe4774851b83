use Rattle.std.proofs.Common.{◌≡◌, true, sym, ◌∙◌, arith}
use Rattle.reopen.specs.Rolling.{is_marked}
use Rattle.move_up.proofs.Moving.{moved_granted}
use Rattle.move_up.proofs.moves.grant_marked.Goals as goal

pub returns : goal.returns
returns c =
    let m = c.args.instance.now in
    let o = c.args.offer in
    let on : is_marked m c.args.marks.now o.group.0 o.place ≡ true = sym c.is_marked.ensures ∙ c.if-not-is_marked.false in
    moved_granted m c.args.marks.now c.args.state.now c.grant.new.self o.group.0 o.place c.most_at-most.result c.requires.is_open c.in_ok-grant.ensures c.requires.offer on (omega (arith, c.if-offer-pointer.false, c.pointer.ensures)) c.most_at-most.ensures.free c.most_at-most.ensures.limit c.most_at-most.ensures.room
