-- Draws one after another.
use Rattle.std.proofs.Common.{◌≡◌, ◌+◌, ◌/◌, ◌%◌, ◌^◌, ℕ, suc, refl, ap, arith}
use Rattle.big_world.specs.Numbers.{behind, draw}

-- one number more
pub behind_more : (x k : ℕ) → behind (behind x k) 1 ≡ behind x (k + 1)
behind_more x k = let one : suc k ≡ k + 1 = omega arith in ap (λ j. behind x j) one

-- the first draw behind the k-th number
pub draw_more : (x k m : ℕ) → draw (behind x k) 1 m ≡ draw x (1 + k) m
unfolding draw
draw_more x k m = let one : suc k ≡ 1 + k = omega arith in ap (λ j. (behind x j / 2 ^ 33) % m) one

pub draw_two : (x m : ℕ) → draw (behind x 1) 1 m ≡ draw x 2 m
draw_two x m = draw_more x 1 m

pub draw_three : (x m : ℕ) → draw (behind x 2) 1 m ≡ draw x 3 m
draw_three x m = draw_more x 2 m

pub behind_two : (x : ℕ) → behind (behind x 1) 1 ≡ behind x 2
behind_two x = refl
