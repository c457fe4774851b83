use Rattle.std.proofs.Common.{ℕ, ◌<◌, IsSome}
use Rattle.map_model.specs.Allocation.{refuser_of}
use Rattle.best_check.proofs.resumable.are_refused.Given as goal

abbrev pub invariant-loop-place : goal.invariant-loop-place
invariant-loop-place l = (k : ℕ) → k < l.place → IsSome (refuser_of l.instance l.state.lines l.group.0 k)
