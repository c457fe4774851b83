use Rattle.std.proofs.Common.{◌≡◌, take}
use Rattle.offer_pool.proofs.lists.rows_of.Given as goal

abbrev pub invariant-loop-g : goal.invariant-loop-g
invariant-loop-g l = l.rows.items ≡ take l.g l.instance.groups
