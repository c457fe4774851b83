-- The numbers that a world is drawn from.
use Rattle.std.specs.Prelude.{ℕ, zero, suc, ◌+◌, ◌*◌, ◌/◌, ◌%◌, ◌^◌}

-- the number behind a number: Knuth's linear congruential generator of 64 bits
unfoldable pub next : ℕ → ℕ
next x = (6364136223846793005 * x + 1442695040888963407) % 2 ^ 64

-- the k-th number behind a number
abbrev pub behind : ℕ → ℕ → ℕ
behind x zero = x
behind x (suc k) = next (behind x k)

-- the k-th draw behind a number, counted from 1: a number below m from its upper 31 bits
unfoldable pub draw : ℕ → ℕ → ℕ → ℕ
draw x k m = (behind x k / 2 ^ 33) % m
