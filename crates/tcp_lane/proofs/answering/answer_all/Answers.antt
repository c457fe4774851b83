use Rattle.std.proofs.Common.{refl, sym, ◌∙◌, arith}
use Rattle.tcp_lane.proofs.Said.{answered_all, answered_over, so_far_more, so_far_none}
use Rattle.tcp_lane.proofs.answering.answer_all.Goals as goal

pub loop-message-init : goal.loop-message-init
loop-message-init g c = (so_far_none _ _ _ _ _ _, omega (arith, c.known.ensures), refl, refl)

pub returns-then-not-is_on-clause-answered : goal.returns-then-not-is_on-clause-answered
returns-then-not-is_on-clause-answered g c =
    let i = c.loop-message.invariant in
    let f = c.in-Some.ensures.some in
    answered_over _ _ _ _ _ _ _ _ _ _ _ _ _ _ _ _ _ i.1 i.2 c.answer_one-fared.ensures.count.0 i.0 f.0 f.1 c.answer_one-fared.ensures.fared (sym c.is_on.ensures ∙ c.if-not-is_on.true)

pub loop-message-preserved : goal.loop-message-preserved
loop-message-preserved g c =
    let i = c.loop-message.invariant in
    let f = c.in-Some.ensures.some in (
      so_far_more _ _ _ _ _ _ _ _ _ _ _ _ _ _ _ _ _ i.1 i.2 c.answer_one-fared.ensures.count.0 i.0 f.0 f.1 c.answer_one-fared.ensures.fared (sym c.is_on.ensures ∙ c.if-not-is_on.false),
      i.1,
      c.answer_one-fared.ensures.count.1 ∙ i.2,
      c.answer_one-fared.ensures.asked ∙ i.3,
    )

pub returns-clause-answered : goal.returns-clause-answered
returns-clause-answered g c = answered_all _ _ _ _ _ _ _ _ _ _ c.loop-message.invariant.1 c.loop-message.invariant.0 c.in_default.ensures.none
