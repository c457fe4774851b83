use Rattle.published_map.proofs.Leads.{between}
use Rattle.std.proofs.Common.{refl}
use Rattle.published_map.proofs.delta.Delta.between.Goals as goal

pub returns : goal.returns
returns c plan = between c.args.base plan c.args.old.now c.args.old_map.now.lines.items c.args.old_map.now.names.items c.args.new.now c.args.new_map.now.lines.items c.args.new_map.now.names.items _
    c.groups.ensures.market c.groups-2.ensures.market c.requires.old c.requires.new c.requires.shape refl c.in_ok-groups.ensures c.in_ok-nodes.ensures
