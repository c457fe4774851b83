use Rattle.std.proofs.Common.{◌≡◌, ◌<◌, ◌⊎◌}
use Rattle.move_up.specs.Asked.{AreListed}
use Rattle.move_up.proofs.asked.list_group.Given as goal

abbrev pub invariant-loop-place : goal.invariant-loop-place
invariant-loop-place l = AreListed l.instance (λ g k. (g < l.group.0) ⊎ ((g ≡ l.group.0) × (k < l.place))) l.lists
