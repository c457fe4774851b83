use Rattle.std.proofs.Common.{ℕ, ◌<◌, ◌≤◌, Some, length}
use Rattle.map_model.specs.Market.{climb}
use Rattle.map_model.specs.Rows.{trees_of}
use Rattle.map_model.proofs.validity.are_shallow.Given as goal

abbrev pub invariant-loop-i : goal.invariant-loop-i
invariant-loop-i l = (n : ℕ) → n < l.i → length (climb 9 (trees_of l.nodes) (Some (record { 0 = n }))) ≤ 8
