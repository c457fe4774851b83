use Rattle.big_run.proofs.World.{no_fault, plan_read}
use Rattle.big_run.proofs.run.read_world.Goals as goal

pub unreachable-requires : goal.unreachable-requires
unreachable-requires c = no_fault c.args.groups c.args.text.now c.in-Err.fault c.requires.some c.requires.most c.requires.text (c.in-Err.ensures c.in_default.not-NoMemory)

pub returns-in-Ok : goal.returns-in-Ok
returns-in-Ok c = plan_read c.args.groups c.args.text.now c.in-Ok.topology c.requires.some c.requires.most c.requires.text c.in-Ok.ensures
