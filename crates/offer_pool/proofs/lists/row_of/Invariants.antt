use Rattle.std.proofs.Common.{◌≡◌, take}
use Rattle.map_model.specs.Market.{choices_of}
use Rattle.offer_pool.proofs.lists.row_of.Given as goal

abbrev pub invariant-loop-place : goal.invariant-loop-place
invariant-loop-place l = l.choices.items ≡ take l.place (choices_of l.instance l.group.0)
