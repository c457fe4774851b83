use Rattle.std.proofs.Common.{◌≡◌, ◌++◌}
use Rattle.big_world.specs.Pieces.{ahead, pieces}
use Rattle.big_world.specs.Feed.{behind_change, change_text}
use Rattle.big_world.proofs.feed.push_batch.Given as goal

abbrev pub invariant-loop-line : goal.invariant-loop-line
invariant-loop-line l = (l.pen.text.items ≡ l.initial.pen.text.items ++ pieces (λ _. change_text l.groups) behind_change l.initial.pen.draws.last l._line) × (l.pen.draws.last ≡ ahead behind_change l.initial.pen.draws.last l._line)
