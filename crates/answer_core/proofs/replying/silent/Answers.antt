use Rattle.std.proofs.Common.{sym, ◌∙◌}
use Rattle.answer_core.proofs.Silence.{only_if_silent, unanswered}
use Rattle.answer_core.proofs.replying.silent.Goals as goal

pub returns-clause-always : goal.returns-clause-always
returns-clause-always c = λ v from draw way. (λ h. unanswered v from c.args.octets.now draw way (sym c.is_silent.ensures ∙ h), λ none. c.is_silent.ensures ∙ only_if_silent v from c.args.octets.now draw way none)
