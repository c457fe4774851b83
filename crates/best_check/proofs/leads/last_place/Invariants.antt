use Rattle.std.proofs.Common.{◌≡◌, ℕ, ◌<◌, Some, IfSome}
use Rattle.map_model.specs.Allocation.{IsOffer}
use Rattle.map_laws.specs.Circles.{IsLastPlace}
use Rattle.best_check.proofs.leads.last_place.Given as goal

abbrev pub invariant-loop-place : goal.invariant-loop-place
invariant-loop-place l = record {
  offer : IfSome l.last (λ k. IsOffer l.instance l.group.0 k);
  last : (k : ℕ) → IsLastPlace l.state.lines l.group.0 k → k < l.place → l.last ≡ Some k;
}
