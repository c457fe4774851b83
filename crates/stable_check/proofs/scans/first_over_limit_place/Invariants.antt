use Rattle.std.proofs.Common.{ℕ, ◌<◌, ◌≤◌}
use Rattle.map_model.specs.Market.{limit_of}
use Rattle.map_model.specs.Allocation.{amount_at}
use Rattle.stable_check.proofs.scans.first_over_limit_place.Given as goal

abbrev pub invariant-loop-place : goal.invariant-loop-place
invariant-loop-place g l = (j : ℕ) → j < l.place → amount_at g.lines l.group.0 j ≤ limit_of l.instance l.group.0 j
