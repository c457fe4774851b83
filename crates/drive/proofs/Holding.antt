-- Workers one by one, and the lanes that they have.
use Rattle.std.proofs.Common.{◌≡◌, ℕ, zero, suc, ◌+◌, All, List, [], ◌∷◌, ◌++◌, length, Option, IfSome, subst, arith}
use Rattle.drive.specs.AllDone.{AllFresh, AllHeld}

-- what all have, those in front have and the last one
pub all_front : {A : Type 0} (P : A → Type 0) (xs : List A) (x : A) → All P (xs ++ x ∷ []) → All P xs × P x
all_front P [] x all = ((λ k d lt. absurd (omega (arith, lt))), all 0 x (omega arith))
all_front P (y ∷ xs) x all = let r = all_front P xs x (λ k d lt. all (suc k) d (omega (arith, lt))) in (all_more P y xs (all 0 y (omega arith)) r.0, r.1)
  where
    all_more : {A : Type 0} (P : A → Type 0) (y : A) (xs : List A) → P y → All P xs → All P (y ∷ xs)
    all_more P y xs p q zero d lt = p
    all_more P y xs p q (suc k) d lt = q k d (omega (arith, lt))

pub held_more : {A : Type 0} (P : ℕ → A → Type 0) (i n : ℕ) (xs : List A) (x : A) → AllHeld P i xs → i + length xs ≡ n → P n x → AllHeld P i (xs ++ x ∷ [])
held_more P i n [] x h is p = let same : n ≡ i = omega (arith, is) in (subst (λ k. P k x) same p, tt)
held_more P i n (y ∷ xs) x h is p = (h.0, held_more P (i + 1) n xs x h.1 (omega (arith, is)) p)

-- each worker has a lane
pub fresh_of : {A W : Type 0} (P : ℕ → W → Type 0) → (i : ℕ) (ls : List A) (ws : List W) → length ls ≡ length ws → AllHeld P i ws → AllFresh (λ k l w. P k w) i ls ws
fresh_of P i [] [] n h = tt
fresh_of P i [] (w ∷ ws) n h = absurd (omega (arith, n))
fresh_of P i (a ∷ ls) [] n h = absurd (omega (arith, n))
fresh_of P i (a ∷ ls) (w ∷ ws) n h = (h.0, fresh_of P (i + 1) ls ws (omega (arith, n)) h.1)

-- a worker's number by another name
pub numbered_as : {A : Type 0} (P : ℕ → A → Type 0) (work : Option A) (k n : ℕ) → k ≡ n → IfSome work (P k) → IfSome work (P n)
numbered_as P work k n same h = subst (λ (x : ℕ). IfSome work (P x)) same h
