use Rattle.answer_core.proofs.Clients.{looked_up}
use Rattle.answer_core.proofs.replying.recall_prefixes.Goals as goal

pub returns : goal.returns
returns c = λ a fits. looked_up c.args.version.now a c.requires fits
