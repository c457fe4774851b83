use Rattle.std.proofs.Common.{◌<◌}
use Rattle.move_up.specs.Asked.{AreListed}
use Rattle.move_up.proofs.asked.list_all.Given as goal

abbrev pub invariant-loop-g : goal.invariant-loop-g
invariant-loop-g l = AreListed l.instance (λ g k. g < l.g) l.lists
