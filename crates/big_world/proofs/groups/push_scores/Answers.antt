use Rattle.std.proofs.Common.{◌∙◌, ap, append_assoc, append-nil}
use Rattle.big_world.proofs.Numbers.{behind_more, draw_more}
use Rattle.big_world.proofs.Pieces.{scores_more}
use Rattle.big_world.specs.Numbers.{behind}
use Rattle.big_world.proofs.groups.push_scores.Goals as goal

pub loop-place-preserved : goal.loop-place-preserved
loop-place-preserved c = (
  simp (c.in_ok-push_number.ensures, append-nil, c.in_ok-push_comma.ensures, c.loop-place.invariant.0, c.below-score.ensures.drawn, c.loop-place.invariant.1, draw_more, scores_more, append_assoc),
  c.below-score.ensures.last ∙ ap (λ x. behind x 1) c.loop-place.invariant.1 ∙ behind_more c.args.pen.now.draws.last c.loop-place.place,
)
