-- Ends of lanes at their places.
use Rattle.std.proofs.Common.{◌≡◌, ℕ, zero, suc, Bool, false, List, [], ◌∷◌, ◌++◌, map, None, Some, refl, ap}
use Rattle.std.specs.Prelude.{replicate, ◌||◌}
use Rattle.std.specs.List.{list_any}
use Rattle.lane_model.specs.declared.ended.Ended.{Ended}
use Rattle.glb.specs.Starting.{at_place}

none_at : (test : Ended → Bool) (n : ℕ) → list_any (at_place test) (replicate n None) ≡ false
none_at test zero = refl
none_at test (suc n) = none_at test n

-- places behind the ends tell nothing
pub any_at : (test : Ended → Bool) (ends : List Ended) (n : ℕ) → list_any (at_place test) (map Some ends ++ replicate n None) ≡ list_any test ends
any_at test [] n = none_at test n
any_at test (e ∷ ends) n = ap (λ (b : Bool). test e || b) (any_at test ends n)
