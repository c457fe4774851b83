-- Numbers below a power of their base.
use Rattle.std.proofs.Common.{◌≡◌, ℕ, suc, ◌+◌, ◌*◌, ◌<◌, ◌≤◌, ◌^◌, ap, ◌∙◌, arith}
use Rattle.std.proofs.Math.Nat.{pow-le-pow_right, pow-succ'}

next_power : (i : ℕ) → 65536 ^ (i + 1) ≡ 65536 * 65536 ^ i
next_power i = let e : i + 1 ≡ suc i = omega arith in ap (λ (n : ℕ). 65536 ^ n) e ∙ pow-succ' 65536 i

-- a further digit of 16 bits, of at most eight
pub below_next : (i v g : ℕ) → v < 65536 ^ i → g < 65536 → 65536 * v + g < 65536 ^ (i + 1)
below_next i v g small digit = omega (arith, next_power i)

pub below_all : (i n : ℕ) → i ≤ 8 → n < 65536 ^ i → n < 2 ^ 128
below_all i n few small = let most : 65536 ^ i ≤ 65536 ^ 8 = pow-le-pow_right (omega arith) few in omega arith
