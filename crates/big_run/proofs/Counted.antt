-- A count over the first numbers, with one more of them.
use Rattle.std.proofs.Common.{◌≡◌, ℕ, ◌+◌, Bool, cond}
use Rattle.std.specs.Prelude.{count_by}
use Rattle.std.specs.List.{range_with_len}
use Rattle.best_laws.proofs.Sums.{sum_more}

pub count_more : (test : ℕ → Bool) (n : ℕ) → count_by test (range_with_len 0 (n + 1)) ≡ count_by test (range_with_len 0 n) + cond (test n) 1 0
count_more test n = sum_more (λ k. cond (test k) 1 0) n
