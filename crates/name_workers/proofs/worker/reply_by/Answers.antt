use Rattle.lane_model.proofs.Stated.{replied}
use Rattle.name_workers.proofs.worker.reply_by.Goals as goal

pub returns-clause-reply : goal.returns-clause-reply
returns-clause-reply c = replied c.args.version.now c.args.from c.args.octets.now c.args.draw c.args.way c.reply.result _ c.requires.spoken c.reply.ensures.reply
