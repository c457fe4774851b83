use Rattle.std.proofs.Common.{ap, ◌∙◌, ◌==◌, ℕ, Option, length}
use Rattle.std.specs.Option.{unwrap_or}
use Rattle.text_parts.proofs.Splits.{first_or_length}
use Rattle.text_parts.proofs.start_of_first.Goals as goal

pub returns-clause-start : goal.returns-clause-start
returns-clause-start c = c.unwrap_or.ensures ∙ ap (λ (o : Option ℕ). unwrap_or o (length c.args.text.now)) c.position_of.ensures.first ∙ first_or_length (λ b. b == c.args.octet) c.args.text.now
