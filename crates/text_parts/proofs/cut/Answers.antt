use Rattle.std.proofs.Common.{◌==◌, sym, ◌∙◌}
use Rattle.text_parts.proofs.Splits.{split_at_hit, split_no_hit}
use Rattle.text_parts.proofs.cut.Goals as goal

pub returns-in-Some-clause-parts : goal.returns-in-Some-clause-parts
returns-in-Some-clause-parts c =
    let o = c.args.octet in
    rw (c.before-in-Some.ensures, c.after.ensures) (split_at_hit (λ b. b == o) c.args.text.now c.in-Some.at (sym c.position_of.ensures.first ∙ c.in-Some.is))

pub returns-in-None-clause-parts : goal.returns-in-None-clause-parts
returns-in-None-clause-parts c =
    let o = c.args.octet in
    split_no_hit (λ b. b == o) c.args.text.now (sym c.position_of.ensures.first ∙ c.in-None.is)
