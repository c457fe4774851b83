-- The ends of lanes, place by place, and the history of a mapper that published nothing yet.
use Rattle.std.proofs.Common.{◌≡◌, ℕ, zero, suc, List, [], ◌∷◌, ◌++◌, map, take, replicate, slice_get, slice_set, Some, None, ap, subst, arith}
use Rattle.published_map.specs.Version.{Version}
use Rattle.map_cell.specs.Histories.{IsSealed}

-- one place more has its end
pub placed : {W E : Type 0} (f : W → E) (ws : List W) (k n : ℕ) (w : W) → slice_get ws k ≡ Some w → slice_set (map Some (take k (map f ws)) ++ replicate (suc n) None) k (Some (f w)) ≡ map Some (take (suc k) (map f ws)) ++ replicate n None
placed f [] k n w is = absurd cc
placed f (x ∷ ws) zero n w is = cc is
placed f (x ∷ ws) (suc k) n w is = ap (λ l. Some (f x) ∷ l) (placed f ws k n w is)

-- a history whose last serial is 0 has one version
pub sole_history : (h : List Version) (v : Version) → IsSealed h v → v.serial ≡ 0 → h ≡ v ∷ []
sole_history [] v s is = absurd (omega (arith, s.whole, is))
sole_history (x ∷ []) v s is = let last : slice_get (x ∷ []) 0 ≡ Some v = subst (λ n. slice_get (x ∷ []) n ≡ Some v) is s.last in cc last
sole_history (x ∷ y ∷ h) v s is = absurd (omega (arith, s.whole, is))
