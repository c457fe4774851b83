use Rattle.std.proofs.Common.{ap, ◌∙◌}
use Rattle.std.specs.Option.{option_map}
use Rattle.std.specs.Prelude.{Some}
use Rattle.glb.specs.Commands.{task_of}
use Rattle.glb.proofs.Tasks.{promised_as, promised_large, promised_task}
use Rattle.glb.proofs.top.run_order.Goals as goal

pub returns-in-Some-Serve-clause-promised : goal.returns-in-Some-Serve-clause-promised
returns-in-Some-Serve-clause-promised g c = promised_task _ _ _ _ _ _ (ap (option_map task_of) (c.in-Some-Serve.is ∙ ap Some c.in-Some-Serve.field-0-is)) c.serve.ensures.promised

pub returns-in-Some-Large-clause-promised : goal.returns-in-Some-Large-clause-promised
returns-in-Some-Large-clause-promised g c =
    promised_as _ _ _ _ _ _ (ap (option_map task_of) (c.in-Some-Large.is ∙ ap Some c.in-Some-Large.field-0-is))
    (promised_large c.args.lent.now.turns _ _ (g.K.Sink.told c.large.new.out) c.large.result c.large.ensures.run c.large.ensures.ends c.large.ensures.later c.large.ensures.cause c.large.ensures.stays)
