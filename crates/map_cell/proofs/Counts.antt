-- Counts that stand still at the end of their type.
use Rattle.std.proofs.Common.{◌≡◌, ℕ, ◌+◌, arith}
use Rattle.outside.specs.Faults.{raised}

pub raised_none : (n : ℕ) → n ≡ raised n 0
raised_none n = omega arith

pub raised_more : (n j k : ℕ) → raised (raised n j) k ≡ raised n (j + k)
raised_more n j k = omega arith
