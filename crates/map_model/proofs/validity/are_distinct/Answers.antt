use Rattle.std.proofs.Common.{sym, ◌∙◌}
use Rattle.std.proofs.lemmas.Bool.{false≢true}
use Rattle.map_model.proofs.RowTests.{distinct_more, not_distinct}
use Rattle.map_model.proofs.validity.are_distinct.Goals as goal

pub loop-i-preserved : goal.loop-i-preserved
loop-i-preserved c = distinct_more c.args.choices.now c.loop-i.i _ c.loop-i-test.true c.loop-i.invariant (c.is_without.ensures.0 c.if-not-is_without.false)

pub returns-then-not-is_without : goal.returns-then-not-is_without
returns-then-not-is_without c =
    (λ e. absurd (false≢true e), λ all. sym c.if-not-is_without.true ∙ c.is_without.ensures.1 (not_distinct c.args.choices.now c.loop-i.i _ c.loop-i-test.true all))
