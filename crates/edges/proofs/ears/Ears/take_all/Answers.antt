use Rattle.std.proofs.Common.{arith, ◌∙◌}
use Rattle.edges.proofs.Going.{let_in_more}
use Rattle.edges.proofs.Turns.{let_in_numbered}
use Rattle.edges.proofs.ears.Ears.take_all.Goals as goal

pub loop-init : goal.loop-init
loop-init c =
    let first = c.take_next-next in (
      first.ensures.changed,
      let_in_numbered c.args.now c.args.turns.now first.new.turns c.args.seats.now first.new.seats c.args.rooms.now first.new.rooms first.ensures.turns.0 first.ensures.changed c.requires.numbered,
      first.ensures.turns.0,
      first.ensures.turns.1,
      first.ensures.broken,
      omega (arith, first.ensures.asked),
      first.ensures.waits,
    )

pub loop-preserved : goal.loop-preserved
loop-preserved c =
    let next = c.take_next-next-in-loop in
    let (before, numbered, lower, higher, stays, asked, waits) = c.loop.invariant in (
      let_in_more c.args.now c.args.turns.now c.loop.turns next.new.turns c.args.seats.now c.loop.seats next.new.seats c.args.rooms.now c.loop.rooms next.new.rooms lower next.ensures.turns.0 before next.ensures.changed,
      let_in_numbered c.args.now c.loop.turns next.new.turns c.loop.seats next.new.seats c.loop.rooms next.new.rooms next.ensures.turns.0 next.ensures.changed numbered,
      omega (arith, lower, next.ensures.turns.0),
      omega (arith, higher, next.ensures.turns.1),
      λ is. next.ensures.broken (stays is),
      omega (arith, asked, next.ensures.asked),
      next.ensures.waits ∙ waits,
    )
