use Rattle.std.proofs.Common.{◌≡◌, ℕ, ◌<◌, slice_index_or}
use Rattle.map_model.specs.declared.instance.Choice.{Choice}
use Rattle.map_model.proofs.validity.are_distinct.Given as goal

abbrev pub invariant-loop-i : goal.invariant-loop-i
invariant-loop-i l = (a b : ℕ) (d : Choice) → a < b → b < l.i → (slice_index_or l.choices a d).pool.0 ≡ (slice_index_or l.choices b d).pool.0 → ⊥
