use Rattle.std.proofs.Common.{arith}
use Rattle.std.proofs.lemmas.Bool.{OnTrue_at, OnTrue_from}
use Rattle.best_check.proofs.Open.{wanted_by_free, wanted_by_pointer}
use Rattle.best_check.proofs.resumable.are_wanted.Goals as goal

pub returns-then-free-gt0 : goal.returns-then-free-gt0
returns-then-free-gt0 c = OnTrue_from _ _ (λ yes. wanted_by_free c.args.instance.now c.args.state.now c.requires.open c.args.group.0 c.requires.group (omega (arith, c.if-free-gt0.true, c.free.ensures)))

pub returns-else-free-gt0 : goal.returns-else-free-gt0
returns-else-free-gt0 c = OnTrue_from _ _ (λ yes. wanted_by_pointer c.args.instance.now c.args.state.now c.requires.open c.args.group.0 c.requires.group (OnTrue_at yes c.holds_at_pointer.ensures))
