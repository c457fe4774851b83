-- Inside this crate alone: how many first bits of two numbers tell them apart.
use Rattle.std.specs.Prelude.{◌≡◌, ℕ, ◌-◌, ◌/◌, ◌^◌, ◌<◌, ◌≤◌}

-- two numbers of so many bits have all but the last of their first r bits in common
pub record PartsAt (bits a b r : ℕ) : Type 0 where
  pub some : 0 < r
  pub within : r ≤ bits
  pub alike : a / 2 ^ (bits - (r - 1)) ≡ b / 2 ^ (bits - (r - 1))
  pub apart : a / 2 ^ (bits - r) ≡ b / 2 ^ (bits - r) → ⊥
