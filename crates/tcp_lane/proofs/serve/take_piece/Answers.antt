use Rattle.std.proofs.Common.{sym, ◌∙◌}
use Rattle.tcp_lane.proofs.Taken.{piece_long, piece_on, piece_over}
use Rattle.tcp_lane.proofs.serve.take_piece.Goals as goal

pub returns-then-not-is_on-clause-taken : goal.returns-then-not-is_on-clause-taken
returns-then-not-is_on-clause-taken g c =
    piece_over _ _ _ _ _ _ _ _ _ _ _ _ _ _ _ (c.as_slice.ensures.value ∙ c.joined-octets.ensures) c.answer_all-fared.ensures.answered (sym c.is_on.ensures ∙ c.if-not-is_on.true) c.close.ensures.told c.close.ensures.faults c.close.ensures.shut c.step_after.ensures

pub returns-then-is_overlong-clause-taken : goal.returns-then-is_overlong-clause-taken
returns-then-is_overlong-clause-taken g c =
    piece_long _ _ _ _ _ _ _ _ _ _ _ _ _ _ (c.as_slice.ensures.value ∙ c.joined-octets.ensures) c.answer_all-fared.ensures.answered (sym c.is_on.ensures ∙ c.if-not-is_on.false) (c.is_overlong.ensures.long c.if-is_overlong.true) c.close-then-is_overlong.ensures.told c.close-then-is_overlong.ensures.faults c.close-then-is_overlong.ensures.shut

pub returns-clause-taken : goal.returns-clause-taken
returns-clause-taken g c =
    piece_on _ _ _ _ _ _ _ _ _ _ _ _ _ (c.as_slice.ensures.value ∙ c.joined-octets.ensures) c.answer_all-fared.ensures.answered (sym c.is_on.ensures ∙ c.if-not-is_on.false) (c.is_overlong.ensures.short c.if-is_overlong.false) c.kept-talk.ensures
