use Rattle.std.proofs.Common.{sym, ◌∙◌}
use Rattle.map_cell.specs.Rules.{CopyState, DeltaState}
use Rattle.map_cell.proofs.Shown.{steps, stays}
use Rattle.map_cell.proofs.sealed.SealedAbsorbSealedDelta.absorb_first.Goals as goal

pub returns-then-fits-clause-absorbed : goal.returns-then-fits-clause-absorbed
returns-then-fits-clause-absorbed c =
    let s : CopyState = record { book = c.self.inside.seen.book; history = c.self.inside.seen.log; version = c.self.inside.version } in
    let o : DeltaState = record { book = c.operation.inside.seen.book; history = c.operation.inside.seen.log; serial = c.operation.inside.serial; delta = c.operation.inside.delta } in
    rw (c.again.ensures, c.absorb.ensures, ← c.self.view_is, ← c.operation.view_is) (sym (steps s o (sym c.fits.ensures ∙ c.if-fits.true)))

pub returns-else-fits-clause-absorbed : goal.returns-else-fits-clause-absorbed
returns-else-fits-clause-absorbed c =
    let s : CopyState = record { book = c.self.inside.seen.book; history = c.self.inside.seen.log; version = c.self.inside.version } in
    let o : DeltaState = record { book = c.operation.inside.seen.book; history = c.operation.inside.seen.log; serial = c.operation.inside.serial; delta = c.operation.inside.delta } in
    rw (← c.self.view_is, ← c.operation.view_is) (sym (stays s o (sym c.fits.ensures ∙ c.if-fits.false)))
