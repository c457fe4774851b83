use Rattle.prefix_lookup.proofs.Beside.{is_scope}
use Rattle.prefix_lookup.proofs.scope.scope_in.Goals as goal

pub returns : goal.returns
returns c = λ table is. is_scope c.args.family table c.args.number c.args.range c.bits_to_part_from-before.result c.bits_to_part_from-after.result c.max.result c.checked_sub.result is c.requires.number c.checked_sub.ensures c.bits_to_part_from-before.ensures c.bits_to_part_from-after.ensures c.max.ensures
