use Rattle.std.proofs.Common.{ℕ, ◌<◌, ◌≤◌}
use Rattle.map_model.specs.Market.{limit_of}
use Rattle.map_model.specs.Allocation.{IsOffer, amount_at}
use Rattle.stable_check.proofs.scans.first_over_limit.Given as goal

abbrev pub invariant-loop-g : goal.invariant-loop-g
invariant-loop-g g l = (h j : ℕ) → h < l.g → IsOffer l.instance h j → amount_at g.lines h j ≤ limit_of l.instance h j

abbrev pub ghost-first_over_limit_place : goal.ghost-first_over_limit_place
ghost-first_over_limit_place g a = g.lines
