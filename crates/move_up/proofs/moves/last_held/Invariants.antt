use Rattle.std.proofs.Common.{◌≡◌, ℕ, ◌<◌}
use Rattle.map_model.specs.Allocation.{IsOffer, amount_at}
use Rattle.move_up.proofs.moves.last_held.Given as goal

abbrev pub invariant-loop-place : goal.invariant-loop-place
invariant-loop-place l = (k : ℕ) → IsOffer l.instance l.group.0 k → k < l.place → l.last < k → amount_at l.state.lines l.group.0 k ≡ 0
