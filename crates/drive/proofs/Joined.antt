-- Lanes that ran, in two parts.
use Rattle.std.proofs.Common.{◌≡◌, List, [], ◌∷◌, ◌++◌, suc, length, refl, ap}
use Rattle.drive.specs.All.{AllRan}

pub ran_append : {A W : Type 0} (R : A → A → W → W → Type 0) (a b : List A) (v w : List W) (a' b' : List A) (v' w' : List W) → AllRan R a b v w → AllRan R a' b' v' w' → AllRan R (a ++ a') (b ++ b') (v ++ v') (w ++ w')
ran_append R [] [] [] [] a' b' v' w' p q = q
ran_append R (x ∷ a) (y ∷ b) (z ∷ v) (u ∷ w) a' b' v' w' p q = (p.0, ran_append R a b v w a' b' v' w' p.1 q)
ran_append R [] (y ∷ b) v w a' b' v' w' p q = absurd p
ran_append R [] [] (z ∷ v) w a' b' v' w' p q = absurd p
ran_append R [] [] [] (u ∷ w) a' b' v' w' p q = absurd p
ran_append R (x ∷ a) [] v w a' b' v' w' p q = absurd p
ran_append R (x ∷ a) (y ∷ b) [] w a' b' v' w' p q = absurd p
ran_append R (x ∷ a) (y ∷ b) (z ∷ v) [] a' b' v' w' p q = absurd p

-- each lane has its worker
pub ran_length : {A W : Type 0} (R : A → A → W → W → Type 0) (a b : List A) (v w : List W) → AllRan R a b v w → length b ≡ length w
ran_length R [] [] [] [] p = refl
ran_length R (x ∷ a) (y ∷ b) (z ∷ v) (u ∷ w) p = ap suc (ran_length R a b v w p.1)
ran_length R [] (y ∷ b) v w p = absurd p
ran_length R [] [] (z ∷ v) w p = absurd p
ran_length R [] [] [] (u ∷ w) p = absurd p
ran_length R (x ∷ a) [] v w p = absurd p
ran_length R (x ∷ a) (y ∷ b) [] w p = absurd p
ran_length R (x ∷ a) (y ∷ b) (z ∷ v) [] p = absurd p
