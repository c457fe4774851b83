use Rattle.std.proofs.Common.{◌≡◌, ℕ, ◌<◌, false, nat_eq}
use Rattle.map_model.specs.Market.{pool_of}
use Rattle.map_text.proofs.offer.find_place.Given as goal

abbrev pub invariant-loop-place : goal.invariant-loop-place
invariant-loop-place l = (k : ℕ) → k < l.place → nat_eq (pool_of l.instance l.group.0 k) l.pool.0 ≡ false
