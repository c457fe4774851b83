use Rattle.std.proofs.Common.{◌≡◌, ◌<◌, ℕ, false}
use Rattle.reopen.specs.Rolling.{is_marked}
use Rattle.reopen.proofs.rolling.back_place.Given as goal

abbrev pub invariant-loop-place : goal.invariant-loop-place
invariant-loop-place l = (k : ℕ) → k < l.place → is_marked l.instance l.marks l.group.0 k ≡ false
