use Rattle.std.proofs.Common.{sym, subst, arith}
use Rattle.map_model.proofs.Shapes.{IsOffer-shape}
use Rattle.evict.specs.Standing.{Standing}
use Rattle.move_up.specs.Moved.{IsMoved}
use Rattle.move_up.proofs.Moving.{moved_back}
use Rattle.move_up.proofs.moves.set_back.Goals as goal

pub set_pointer-requires-clause-nothing_past : goal.set_pointer-requires-clause-nothing_past
set_pointer-requires-clause-nothing_past c = λ j o past. c.last_held.ensures j (IsOffer-shape c.args.state.now.market c.args.instance.now c.requires.is_open.shape c.args.group.0 j o) (omega (arith, past, c.max.ensures, c.max-lowest.ensures))

pub returns-then-lowest-pointer : goal.returns-then-lowest-pointer
returns-then-lowest-pointer c =
    let m = c.args.instance.now in
    let s = c.args.state.now in
    subst (λ (x : Standing). IsMoved m c.args.marks.now s x) (sym c.set_pointer.ensures)
    (moved_back m c.args.marks.now s c.args.group.0 c.back_place-first.result c.max-lowest.result c.requires.is_open c.requires.group (omega (arith, c.if-lowest-pointer.true, c.pointer.ensures)) c.back_place-first.ensures (omega (arith, c.max.ensures, c.max-lowest.ensures))
    (λ j o past. c.last_held.ensures j o (omega (arith, past, c.max.ensures, c.max-lowest.ensures))))
