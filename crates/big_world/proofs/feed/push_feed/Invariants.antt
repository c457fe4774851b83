use Rattle.std.proofs.Common.{◌≡◌, ◌++◌}
use Rattle.big_world.specs.Pieces.{ahead, pieces}
use Rattle.big_world.specs.Feed.{batch_text, behind_batch}
use Rattle.big_world.proofs.feed.push_feed.Given as goal

abbrev pub invariant-loop-batch : goal.invariant-loop-batch
invariant-loop-batch l = (l.pen.text.items ≡ l.initial.pen.text.items ++ pieces (λ _. batch_text l.groups) behind_batch l.initial.pen.draws.last l._batch) × (l.pen.draws.last ≡ ahead behind_batch l.initial.pen.draws.last l._batch)
