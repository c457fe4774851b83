use Rattle.std.proofs.Common.{◌≡◌, ◌++◌}
use Rattle.big_world.specs.Numbers.{behind}
use Rattle.big_world.specs.Topology.{scores_text}
use Rattle.big_world.proofs.groups.push_scores.Given as goal

abbrev pub invariant-loop-place : goal.invariant-loop-place
invariant-loop-place l = (l.pen.text.items ≡ l.initial.pen.text.items ++ scores_text l.initial.pen.draws.last l.place) × (l.pen.draws.last ≡ behind l.initial.pen.draws.last l.place)
