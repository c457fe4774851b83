use Rattle.std.proofs.Common.{ℕ, ◌<◌, None, IfSome, slice_index, slice_index_or}
use Rattle.best_check.proofs.chains.are_falling.Given as goal

abbrev pub invariant-loop-n : goal.invariant-loop-n
invariant-loop-n l = (k : ℕ) → k < l.n → IfSome (slice_index_or l.leads k None) (λ p. slice_index l.numbers p.0 < slice_index l.numbers k)
