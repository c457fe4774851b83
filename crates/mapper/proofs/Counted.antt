-- A flag as a count.
use Rattle.std.proofs.Common.{◌≤◌, Bool, true, false, cond, arith}

-- a flag counts for one at most
pub at_most_one : (b : Bool) → cond b 1 0 ≤ 1
at_most_one true = omega arith
at_most_one false = omega arith
