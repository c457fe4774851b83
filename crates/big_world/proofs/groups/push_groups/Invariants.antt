use Rattle.std.proofs.Common.{◌≡◌, ◌++◌}
use Rattle.big_world.specs.Pieces.{ahead, pieces}
use Rattle.big_world.specs.Topology.{behind_group, group_text}
use Rattle.big_world.proofs.groups.push_groups.Given as goal

abbrev pub invariant-loop-group : goal.invariant-loop-group
invariant-loop-group l = (l.pen.text.items ≡ l.initial.pen.text.items ++ pieces (group_text l.groups) (behind_group l.groups) l.initial.pen.draws.last l.group) × (l.pen.draws.last ≡ ahead (behind_group l.groups) l.initial.pen.draws.last l.group)
