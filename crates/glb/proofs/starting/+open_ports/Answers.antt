use Rattle.std.proofs.Common.{rules}
use Rattle.glb.proofs.Opened.{more_lanes}
use Rattle.glb.proofs.starting.+open_ports.Goals as goal

pub returns-in-Ready-clause-opened : goal.returns-in-Ready-clause-opened
returns-in-Ready-clause-opened g t c = more_lanes c.args.listen.now c.args.count c.open_ports.result c.args.lanes.now _ _ c.open_port.new.lanes c.open_ports.new.lanes c.split_at_mut-first.ensures.value (search rules) (search rules) c.in-Ready.ensures.opened c.open_ports.ensures.opened
